use Rattle.std.proofs.Common.{◌∷◌, [], Bool, List, MatchBool, map, sym, subst}
use Rattle.std.specs.List.{Any}
use Rattle.iam_policy.specs.declared.effect.Effect.TheVariants.{Deny}
use Rattle.iam_match.specs.Request.{access_of}
use Rattle.iam_match.specs.Statement.{request_for}
use Rattle.iam_decision.specs.Code.Scan.{placed_value}
use Rattle.iam_decision.specs.Decision.{Says}
use Rattle.iam_decision.specs.Early.{Tells}
use Rattle.iam_decision.specs.Living.{AreCandidates}
use Rattle.iam_decision.specs.Matched.{placed}
use Rattle.iam_decision.specs.declared.living.Matched.{Matched}
use Rattle.iam_decision.specs.declared.scan.Standing.{Standing}
use Rattle.iam_index.specs.Index.{AllAct}
use Rattle.iam_engine.proofs.WalkLemmas.{one_asked}
use Rattle.iam_engine.proofs.walk.decision.Goals as goal

pub returns-then-branch-clause-decision : goal.returns-then-branch-clause-decision
returns-then-branch-clause-decision c = λ applicable action applies named.
    let q = request_for (access_of c.args.access) action in
    let lent = c.as_slice.result.now in
    let same = sym c.as_slice.ensures.value in
    let act = subst (AllAct action) same (c.in_ok-candidates.ensures.act action named) in
    let C : List Standing → Type 0 = λ z. AreCandidates (action ∷ []) (placed applicable) (map placed_value z) in
    let D : Bool → Type 0 = λ b.
    MatchBool b (Any (Says q Deny) (map placed_value lent)) (Tells q (map placed_value lent) c.is_denied.new.findings) in
    c.deny_decides.ensures (action ∷ []) applicable q (map placed_value lent) (subst C same (c.in_ok-candidates.ensures.are action applicable named applies))
    (subst D c.if-branch.true (c.in_ok-is_denied.ensures.told action act))

pub returns-clause-decision : goal.returns-clause-decision
returns-clause-decision c = λ applicable action applies named.
    let q = request_for (access_of c.args.access) action in
    let lent = c.as_slice.result.now in
    let same = sym c.as_slice.ensures.value in
    let act = subst (AllAct action) same (c.in_ok-candidates.ensures.act action named) in
    let C : List Standing → Type 0 = λ z. AreCandidates (action ∷ []) (placed applicable) (map placed_value z) in
    let D : Bool → Type 0 = λ b.
    MatchBool b (Any (Says q Deny) (map placed_value lent)) (Tells q (map placed_value lent) c.is_denied.new.findings) in
    let F : List Matched → Type 0 = λ z. Tells q (placed applicable) z in
    c.early_decision.ensures applicable q (c.frame.ensures applicable applies)
    (subst F (sym c.as_slice-2.ensures)
    (c.candidates_suffice.ensures.decision (action ∷ []) q (placed applicable) (map placed_value lent) c.is_denied.new.findings (one_asked action)
    (subst C same (c.in_ok-candidates.ensures.are action applicable named applies)) (subst D c.if-branch.false (c.in_ok-is_denied.ensures.told action act))))
