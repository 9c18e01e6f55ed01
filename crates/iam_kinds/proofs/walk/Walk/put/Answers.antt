use Rattle.std.proofs.Common.{◌≡◌, ◌⊎◌, ◌<◌, ◌≤◌, ◌+◌, ◌∷◌, [], ◌∙◌, ap, arith, refl, sym, subst, List, ℕ, length, map, eqb-true, eq-eqb, true, false}
use Rattle.std.proofs.lemmas.List.{nil_from_length}
use Rattle.std.specs.List.{Contains}
use Rattle.iam_kinds.proofs.GoLemmas.{if_fits, if_four_fit, met_now, same_below}
use Rattle.iam_kinds.proofs.LimitLemmas.{many_states, met_before, seen_before, seen_more, seen_now, some_tails}
use Rattle.iam_kinds.proofs.walk.Walk.put.Goals as goal

pub has_room-requires : goal.has_room-requires
has_room-requires c = c.requires.seen.1.held

pub returns-then-not-has_room-clause-over : goal.returns-then-not-has_room-clause-over
returns-then-not-has_room-clause-over c =
    let none : c.args.node.tails.items ≡ [] = nil_from_length c.args.node.tails.items
    (omega (arith, eqb-true _ _ (sym c.is_empty.ensures ∙ c.if-not-is_empty.false))) in
    let one : c.len.result ≡ length c.args.node.places.items = omega (arith, c.len.ensures) in
    many_states c.args.asked.now c.args.self.now c.args.node c.in_ok-key.key.items c.requires.walk c.requires.seen c.requires.at
    (ap (map (λ tail. tail.now)) none) c.in_ok-key.ensures (rw c.if-not-is_new.false at c.in_ok-is_new.ensures.0)
    (subst (λ n. (65536 ≤ c.args.self.now.states) ⊎ (4194304 < c.args.self.now.places + n)) one (rw c.if-not-has_room.true at c.has_room.ensures))

pub returns-clause-grows : goal.returns-clause-grows
returns-clause-grows c = if_fits c.add-3.result (λ nodes. (c.args.node ∷ [], nodes)) c.add-3.ensures.nodes

pub returns-clause-seen : goal.returns-clause-seen
returns-clause-seen c =
    let none : c.args.node.tails.items ≡ [] = nil_from_length c.args.node.tails.items
    (omega (arith, eqb-true _ _ (sym c.is_empty.ensures ∙ c.if-not-is_empty.false))) in
    let room = rw c.if-not-has_room.false at c.has_room.ensures in
    let first : c.args.self.now.states < 65536 = room.0 in
    let second : c.args.self.now.places + c.len.result ≤ 4194304 = room.1 in
    let one : c.len.result ≡ length c.args.node.places.items = omega (arith, c.len.ensures) in
    let two : c.len-2.result ≡ length c.args.node.places.items = omega (arith, c.len-2.ensures) in
    if_four_fit c.add-3.result (λ nodes seen states places.
    seen_now c.args.self.now c.add-3.new.self c.args.node c.in_ok-key.key.items nodes c.in_ok-key.ensures (ap (map (λ tail. tail.now)) none)
    (rw c.if-not-is_new.false at c.in_ok-is_new.ensures.0)
    (λ list. (
      λ h. (c.in_ok-is_new.ensures.1 list).0 (subst (λ (l : List (List ℕ)). Contains l list) seen h),
      λ h. subst (λ (l : List (List ℕ)). Contains l list) (sym seen) ((c.in_ok-is_new.ensures.1 list).1 h),
    )) states (omega (arith, states, first)) (places ∙ ap (λ n. c.args.self.now.places + n) two) (omega (arith, places, second, one, two)) c.requires.seen)
    c.add-3.ensures.nodes c.add-3.ensures.seen c.add-3.ensures.states c.add-3.ensures.places

pub returns-then-not-is_empty-clause-seen : goal.returns-then-not-is_empty-clause-seen
returns-then-not-is_empty-clause-seen c =
    if_four_fit c.add.result
    (λ nodes seen states places. seen_more c.args.self.now c.add.new.self c.args.node nodes
    (some_tails c.args.node.tails.items (λ zero.
    let right = eq-eqb _ 0 (omega (arith, zero)) in let wrong : true ≡ false = sym right ∙ sym c.is_empty.ensures ∙ c.if-not-is_empty.true in cc)) seen states places c.requires.seen)
    c.add.ensures.nodes c.add.ensures.seen c.add.ensures.states c.add.ensures.places

pub returns-then-not-is_empty-clause-met : goal.returns-then-not-is_empty-clause-met
returns-then-not-is_empty-clause-met c = if_fits c.add.result (λ nodes. met_now c.args.asked.now c.args.self.now c.add.new.self c.args.node nodes) c.add.ensures.nodes

pub returns-then-not-is_new-clause-seen : goal.returns-then-not-is_new-clause-seen
returns-then-not-is_new-clause-seen c =
    seen_before c.args.self.now (record c.args.self.now { seen = c.add-2.new.self }) c.in_ok-key.key.items refl refl refl
    (rw c.if-not-is_new.true at c.in_ok-is_new.ensures.0) c.in_ok-is_new.ensures.1 c.requires.seen

pub returns-then-not-is_new-clause-met : goal.returns-then-not-is_new-clause-met
returns-then-not-is_new-clause-met c =
    let none : c.args.node.tails.items ≡ [] = nil_from_length c.args.node.tails.items
    (omega (arith, eqb-true _ _ (sym c.is_empty.ensures ∙ c.if-not-is_empty.false))) in
    met_before c.args.asked.now c.args.self.now c.args.node c.in_ok-key.key.items c.requires.walk c.requires.below c.requires.seen c.requires.at
    (ap (map (λ tail. tail.now)) none) c.in_ok-key.ensures (rw c.if-not-is_new.true at c.in_ok-is_new.ensures.0)

pub returns-clause-met : goal.returns-clause-met
returns-clause-met c =
    if_fits c.add-3.result (λ nodes. met_now c.args.asked.now c.args.self.now c.add-3.new.self c.args.node nodes) c.add-3.ensures.nodes

pub returns-then-not-is_empty-clause-grows : goal.returns-then-not-is_empty-clause-grows
returns-then-not-is_empty-clause-grows c = if_fits c.add.result (λ nodes. (c.args.node ∷ [], nodes)) c.add.ensures.nodes

pub returns-clause-only : goal.returns-clause-only
returns-clause-only c =
    if_fits c.add-3.result (λ only text below before. only text (same_below c.args.self.now _ text refl refl below) before) c.add-3.ensures.only

pub returns-then-not-is_new-clause-only : goal.returns-then-not-is_new-clause-only
returns-then-not-is_new-clause-only c = λ text below before. same_below c.args.self.now _ text refl refl below
