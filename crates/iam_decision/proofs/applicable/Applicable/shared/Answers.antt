use Rattle.std.proofs.Common.{List, map, ap, sym, subst, ◌∙◌}
use Rattle.iam_match.specs.Request.{access_of}
use Rattle.iam_decision.specs.Applicable.{value_of}
use Rattle.iam_decision.specs.Code.Scan.{placed_value}
use Rattle.iam_decision.specs.Living.{AreLiving, IsShared, SharedValue, living_value}
use Rattle.iam_decision.specs.Matched.{Placed, placed}
use Rattle.iam_decision.proofs.VerdictLemmas.{all_candidates}
use Rattle.iam_decision.proofs.applicable.Applicable.shared.Goals as goal

pub returns : goal.returns
returns c = λ actions.
    let a = value_of c.args.self.now in
    let access = access_of c.args.access in
    let S : SharedValue → Type 0 = IsShared actions a access in
    let L : List Placed → Type 0 = λ statements. AreLiving access statements (map living_value c.in_ok-living.living.items) in
    let all = ap (map placed_value) c.as_slice.ensures.value ∙ c.in_ok-statements.ensures in
    subst S (sym c.of.ensures)
    (record { candidates = placed a; frame = c.frame.ensures; are = all_candidates actions (placed a); living = subst L all c.in_ok-living.ensures })
