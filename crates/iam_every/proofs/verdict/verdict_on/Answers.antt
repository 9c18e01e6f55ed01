use Rattle.std.proofs.Common.{◌∷◌, [], ℕ, List, arith, refl}
use Rattle.std.proofs.lemmas.Result.{IfOk-weaker}
use Rattle.std.specs.List.{Contains}
use Rattle.iam_match.specs.Request.{access_of}
use Rattle.iam_match.specs.Statement.{request_for}
use Rattle.iam_decision.specs.Applicable.{value_of}
use Rattle.iam_decision.specs.Decision.{IsVerdict}
use Rattle.iam_decision.specs.declared.verdict.Verdict.{Verdict}
use Rattle.iam_world.specs.World.{WorldValue}
use Rattle.iam_layers.specs.Unnamed.{IsUnnamedAccess, IsUnnamedVerdict}
use Rattle.iam_layers.specs.declared.unnamed.Unnamed.{Unnamed}
use Rattle.iam_every.proofs.NamesLemmas.{answered}
use Rattle.iam_every.proofs.verdict.verdict_on.Goals as goal

pub returns : goal.returns
returns c =
    let a = value_of c.args.applicable.now in
    let access = access_of c.args.access in
    let action = c.args.action.now in
    let actions : List (List ℕ) = action ∷ [] in
    let among : Contains actions action = (0, omega arith, refl) in
    IfOk-weaker c.verdict.result (IsVerdict a (request_for access action))
    (λ verdict. (world : WorldValue) (p : ℕ) (unnamed : Unnamed) (text : List ℕ) → IsUnnamedAccess world p unnamed action text a access
    → IsUnnamedVerdict world p unnamed action text verdict)
    (λ (verdict : Verdict) is world p unnamed text h. answered (λ a q. IsVerdict a q verdict) world p unnamed action text a access h is)
    (c.verdict.ensures actions a access among (c.in_ok-shared.ensures actions))
