use Rattle.std.proofs.Common.{◌++◌, [], ◌∷◌, ◌∙◌, ap, arith, refl, subst, map, List, ℕ}
use Rattle.std.specs.List.{Contains}
use Rattle.std.proofs.lemmas.List.Elements.{Contains-push_cases}
use Rattle.std.proofs.lemmas.List.{length-map, map-append}
use Rattle.iam_kinds.specs.Walk.{shown_in}
use Rattle.iam_kinds.proofs.GoLemmas.{shown_before, shown_now}
use Rattle.iam_kinds.proofs.LimitLemmas.{many_texts}
use Rattle.iam_kinds.proofs.walk.Walk.show.Goals as goal

pub returns-then-not-branch-clause-walk : goal.returns-then-not-branch-clause-walk
returns-then-not-branch-clause-walk c =
    (shown_before c.args.asked.now c.args.self.now (record c.args.self.now { kinds = c.add.new.self }) c.args.text.now c.args.numbers.items c.requires.walk c.requires.below
    (rw c.if-not-branch.true at c.in_ok-add.ensures.0) c.requires.described refl refl c.in_ok-add.ensures.1).0

pub returns-then-not-branch-clause-covered : goal.returns-then-not-branch-clause-covered
returns-then-not-branch-clause-covered c =
    (shown_before c.args.asked.now c.args.self.now (record c.args.self.now { kinds = c.add.new.self }) c.args.text.now c.args.numbers.items c.requires.walk c.requires.below
    (rw c.if-not-branch.true at c.in_ok-add.ensures.0) c.requires.described refl refl c.in_ok-add.ensures.1).1

pub returns-clause-walk : goal.returns-clause-walk
returns-clause-walk c =
    let shown = ap (map (λ t. t.items)) c.in_ok-push.ensures.items ∙ map-append (λ t. t.items) c.args.self.now.shown.items (c.in_ok-shown.shown ∷ [])
    ∙ ap (λ (t : List ℕ). shown_in c.args.self.now ++ (t ∷ [])) c.in_ok-shown.ensures.items in
    (shown_now c.args.asked.now c.args.self.now (record c.args.self.now { kinds = c.add.new.self; shown = c.push.new.self }) c.args.text.now c.args.numbers.items
    c.requires.walk c.requires.below
    (rw c.if-not-branch.false at c.in_ok-add.ensures.0) c.requires.described c.requires.sought c.requires.spelled
    (let many = length-map c.args.self.now.shown.items (λ t. t.items) in omega (arith, many)) refl shown c.in_ok-add.ensures.1).0

pub returns-clause-covered : goal.returns-clause-covered
returns-clause-covered c =
    let shown = ap (map (λ t. t.items)) c.in_ok-push.ensures.items ∙ map-append (λ t. t.items) c.args.self.now.shown.items (c.in_ok-shown.shown ∷ [])
    ∙ ap (λ (t : List ℕ). shown_in c.args.self.now ++ (t ∷ [])) c.in_ok-shown.ensures.items in
    (shown_now c.args.asked.now c.args.self.now (record c.args.self.now { kinds = c.add.new.self; shown = c.push.new.self }) c.args.text.now c.args.numbers.items
    c.requires.walk c.requires.below
    (rw c.if-not-branch.false at c.in_ok-add.ensures.0) c.requires.described c.requires.sought c.requires.spelled
    (let many = length-map c.args.self.now.shown.items (λ t. t.items) in omega (arith, many)) refl shown c.in_ok-add.ensures.1).1

pub returns-then-len-ge-MOST_KINDS-clause-over : goal.returns-then-len-ge-MOST_KINDS-clause-over
returns-then-len-ge-MOST_KINDS-clause-over c =
    many_texts c.args.asked.now c.args.self.now c.args.text.now c.args.numbers.items c.requires.walk (rw c.if-not-branch.false at c.in_ok-add.ensures.0)
    c.requires.described c.requires.sought (let many = length-map c.args.self.now.shown.items (λ t. t.items) in omega (arith, many))

pub returns-clause-only : goal.returns-clause-only
returns-clause-only c =
    let shown = ap (map (λ t. t.items)) c.in_ok-push.ensures.items ∙ map-append (λ t. t.items) c.args.self.now.shown.items (c.in_ok-shown.shown ∷ [])
    ∙ ap (λ (t : List ℕ). shown_in c.args.self.now ++ (t ∷ [])) c.in_ok-shown.ensures.items in
    λ s h. Contains-push_cases (shown_in c.args.self.now) c.args.text.now s (subst (λ (l : List (List ℕ)). Contains l s) shown h)
