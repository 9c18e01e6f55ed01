use Rattle.std.proofs.Common.{◌≡◌, ◌<◌, ◌∙◌, sym, subst, ℕ, List, map, true, false, []}
use Rattle.std.specs.List.{Contains}
use Rattle.iam_kinds.specs.Code.{SameElements, matched_groups}
use Rattle.iam_kinds.specs.declared.table.Place.{Place}
use Rattle.iam_kinds.proofs.StateLemmas.{describes, is_sought, lacks_group, named_here, not_last}
use Rattle.iam_kinds.proofs.walk.Walk.numbers.Goals as goal

pub returns-then-not-is_last-clause-none : goal.returns-then-not-is_last-clause-none
returns-then-not-is_last-clause-none c = not_last c.args.asked.now c.args.node.now c.requires (sym c.is_last.ensures ∙ c.if-not-is_last.true)

pub returns-then-ends_here-clause-none : goal.returns-then-ends_here-clause-none
returns-then-ends_here-clause-none c =
    named_here c.args.asked.now c.args.node.now c.requires
    (subst (λ l. Contains (map (λ t. t.now) l) []) c.deref.ensures.value (c.ends_here.ensures.0 c.if-ends_here.true))

pub returns-then-not-has_below-clause-none : goal.returns-then-not-has_below-clause-none
returns-then-not-has_below-clause-none c =
    let t = c.args.asked.now.table.now.patterns.items in
    let P : List Place → Type 0 = λ l. SameElements c.in_ok-numbers.numbers.items (matched_groups t l) in
    let same = subst P c.deref-2.ensures.value c.in_ok-numbers.ensures.matched in
    let d = describes c.args.asked.now c.args.node.now c.in_ok-numbers.numbers.items c.requires c.in_ok-numbers.ensures.rising same in
    let Q : List ℕ → Type 0 = λ l. (g : ℕ) → g < c.args.asked.now.within → Contains l g in
    lacks_group c.args.asked.now c.args.node.now c.in_ok-numbers.numbers.items d (λ all.
    let passed = c.has_below.ensures.1 (subst Q (sym c.deref-3.ensures.value) all) in
    let wrong : true ≡ false = sym passed ∙ c.if-not-has_below.true in cc)

pub returns-clause-described : goal.returns-clause-described
returns-clause-described c =
    let t = c.args.asked.now.table.now.patterns.items in
    let P : List Place → Type 0 = λ l. SameElements c.in_ok-numbers.numbers.items (matched_groups t l) in
    let same = subst P c.deref-2.ensures.value c.in_ok-numbers.ensures.matched in
    describes c.args.asked.now c.args.node.now c.in_ok-numbers.numbers.items c.requires c.in_ok-numbers.ensures.rising same

pub returns-clause-sought : goal.returns-clause-sought
returns-clause-sought c =
    let t = c.args.asked.now.table.now.patterns.items in
    let P : List Place → Type 0 = λ l. SameElements c.in_ok-numbers.numbers.items (matched_groups t l) in
    let same = subst P c.deref-2.ensures.value c.in_ok-numbers.ensures.matched in
    let d = describes c.args.asked.now c.args.node.now c.in_ok-numbers.numbers.items c.requires c.in_ok-numbers.ensures.rising same in
    let Q : List ℕ → Type 0 = λ l. (g : ℕ) → g < c.args.asked.now.within → Contains l g in (
      c.requires.characters,
      is_sought c.args.asked.now c.args.node.now c.in_ok-numbers.numbers.items c.requires (sym c.is_last.ensures ∙ c.if-not-is_last.false)
          (λ h.
          let passed = c.ends_here.ensures.1 (subst (λ l. Contains (map (λ t. t.now) l) []) (sym c.deref.ensures.value) h) in
          let wrong : true ≡ false = sym passed ∙ c.if-ends_here.false in cc)
          d (subst Q c.deref-3.ensures.value (c.has_below.ensures.0 c.if-not-has_below.false)),
    )
