use Rattle.std.proofs.Common.{◌∷◌, [], List, map, sym, subst}
use Rattle.iam_match.specs.Request.{access_of}
use Rattle.iam_match.specs.Statement.{request_for}
use Rattle.iam_decision.specs.Code.Scan.{placed_value}
use Rattle.iam_decision.specs.Early.{Suffices}
use Rattle.iam_decision.specs.Matched.{placed}
use Rattle.iam_decision.specs.declared.living.Matched.{Matched}
use Rattle.iam_decision.specs.declared.scan.Standing.{Standing}
use Rattle.iam_index.specs.Index.{AllAct}
use Rattle.iam_engine.proofs.WalkLemmas.{one_asked}
use Rattle.iam_engine.proofs.walk.verdict.Goals as goal

pub returns-clause-verdict : goal.returns-clause-verdict
returns-clause-verdict c = λ applicable action applies named.
    let q = request_for (access_of c.args.access) action in
    let candidates = c.in_ok-candidates.candidates.items in
    let found = c.find_all.new.findings in
    let act : AllAct action c.as_slice.result.now = subst (AllAct action) (sym c.as_slice.ensures.value) (c.in_ok-candidates.ensures.act action named) in
    let S : List Standing → Type 0 = λ z. Suffices q (map placed_value z) found in
    let enough = subst S c.as_slice.ensures.value (c.in_ok-find_all.ensures.enough action act) in
    let F : List Matched → Type 0 = λ z. Suffices q (placed applicable) z in
    c.early_verdict.ensures applicable q (c.frame.ensures applicable applies)
    (subst F (sym c.as_slice-2.ensures)
    (c.candidates_suffice.ensures.verdict (action ∷ []) q (placed applicable) (map placed_value candidates) found (one_asked action)
    (c.in_ok-candidates.ensures.are action applicable named applies) enough))
