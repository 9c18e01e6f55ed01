use Rattle.std.proofs.Common.{◌≡◌, ◌∷◌, [], ◌++◌, ◌∙◌, ◌⊎◌, inl, ap, refl, sym, subst, List, ℕ}
use Rattle.std.specs.List.{Contains}
use Rattle.iam_kinds.specs.Kinds.{IsText}
use Rattle.iam_kinds.specs.Walk.{IsBelow, IsCovered, IsSought, IsSpelledFor, query_of, shown_in}
use Rattle.iam_kinds.specs.declared.asked.Node.{Node}
use Rattle.iam_kinds.proofs.GoLemmas.{node_more, stays_below}
use Rattle.iam_kinds.proofs.walk.Walk.add.Goals as goal

pub returns-in_ok-push-in-Some-clause-walk : goal.returns-in_ok-push-in-Some-clause-walk
returns-in_ok-push-in-Some-clause-walk c =
    let nodes = rw c.if-not-branch.false at c.in_ok-show-in-Some.ensures.nodes in
    node_more c.args.asked.now c.show.new.self (record c.show.new.self { nodes = c.push.new.self }) c.args.node
    (rw c.if-not-branch.false at c.in_ok-show-in-Some.ensures.walk) c.requires.at
    (λ n h. c.requires.below.nodes n (subst (λ (l : List Node). Contains l n) nodes h))
    (λ s. subst (IsCovered c.args.asked.now c.show.new.self) c.deref.ensures.value (rw c.if-not-branch.false at c.in_ok-show-in-Some.ensures.covered))
    c.in_ok-push-in-Some.ensures.items refl refl

pub returns-in_ok-push-in-Some-clause-only : goal.returns-in_ok-push-in-Some-clause-only
returns-in_ok-push-in-Some-clause-only c =
    let nodes = rw c.if-not-branch.false at c.in_ok-show-in-Some.ensures.nodes in
    let only = rw c.if-not-branch.false at c.in_ok-show-in-Some.ensures.only in
    stays_below c.args.self.now (record c.show.new.self { nodes = c.push.new.self }) c.args.node
    (c.in_ok-push-in-Some.ensures.items ∙ ap (λ (l : List Node). l ++ (c.args.node ∷ [])) nodes)
    (λ s h. subst (λ (t : List ℕ). Contains (shown_in c.args.self.now) s ⊎ (t ≡ s)) c.deref.ensures.value (only s h))

pub returns-in_ok-push-in-None-clause-walk : goal.returns-in_ok-push-in-None-clause-walk
returns-in_ok-push-in-None-clause-walk c =
    node_more c.args.asked.now c.args.self.now (record c.args.self.now { nodes = c.push-in-None.new.self }) c.args.node c.requires.walk c.requires.at
    c.requires.below.nodes (λ s. absurd ((rw c.in-None.is at c.in_ok-numbers.ensures.none) s)) c.in_ok-push-in-None.ensures.items refl refl

pub returns-in_ok-push-in-None-clause-only : goal.returns-in_ok-push-in-None-clause-only
returns-in_ok-push-in-None-clause-only c =
    stays_below c.args.self.now (record c.args.self.now { nodes = c.push-in-None.new.self }) c.args.node c.in_ok-push-in-None.ensures.items (λ s h. inl h)

pub show-requires-clause-sought : goal.show-requires-clause-sought
show-requires-clause-sought c =
    subst (λ (t : List ℕ). IsText t × IsSought (query_of c.args.asked.now) t) (sym c.deref.ensures.value) (rw c.in-Some.is at c.in_ok-numbers.ensures.sought)

pub show-requires-clause-below : goal.show-requires-clause-below
show-requires-clause-below c = subst (IsBelow c.args.self.now) (sym c.deref.ensures.value) c.requires.below

pub show-requires-clause-spelled : goal.show-requires-clause-spelled
show-requires-clause-spelled c = subst (IsSpelledFor c.args.asked.now) (sym c.deref.ensures.value) c.requires.at.spelled
