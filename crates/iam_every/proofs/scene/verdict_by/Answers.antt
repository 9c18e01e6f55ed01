use Rattle.std.proofs.Common.{◌≡◌, ◌∙◌, List, map, subst, sym}
use Rattle.std.proofs.lemmas.Result.{IfOk-at_ok}
use Rattle.iam_match.specs.Request.{access_of}
use Rattle.iam_match.specs.Statement.{request_for}
use Rattle.iam_decision.specs.Decision.{IsVerdict}
use Rattle.iam_decision.specs.Early.{Suffices}
use Rattle.iam_decision.specs.Living.{item_of}
use Rattle.iam_decision.specs.Matched.{placed}
use Rattle.iam_decision.specs.declared.living.Matched.{Matched}
use Rattle.iam_every.specs.Code.Picked.{both, picked}
use Rattle.iam_every.specs.Code.Told.{access_at, eligible_in}
use Rattle.iam_every.proofs.ListLemmas.{if_ok_all}
use Rattle.iam_every.proofs.NamesLemmas.{answered, asks_too}
use Rattle.iam_every.proofs.SceneLemmas.{found_suffice, matched_picked}
use Rattle.iam_every.proofs.scene.verdict_by.Goals as goal

pub returns : goal.returns
returns c =
    let access = access_of c.args.scene.access in
    let eligible = eligible_in c.args.scene in
    let acts = c.args.acts.now in
    let lives = c.args.lives.now in
    if_ok_all c.early_verdict.result _ (λ verdict ok world p unnamed action text scene act live.
    let a = scene.applicable in
    let by = access_at access text in
    let q = request_for by action in
    let chosen = picked eligible (both acts lives) in
    let asks = asks_too world p unnamed action action access.resource text a access (scene.asks action) in
    let found : c.as_slice.result.now ≡ map (item_of access.requester) chosen = c.as_slice.ensures.value ∙ c.in_ok-found.ensures in
    let enough : Suffices q (placed a) c.as_slice.result.now =
    subst (λ (l : List Matched). Suffices q (placed a) l) (sym found)
    (found_suffice q (placed a) chosen (matched_picked a access text action eligible acts lives scene.eligible act live)) in
    answered (λ b q. IsVerdict b q verdict) world p unnamed action text a by asks
    (IfOk-at_ok (IsVerdict a q) ok (c.early_verdict.ensures a q scene.frame enough)))
