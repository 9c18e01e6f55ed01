use Rattle.std.proofs.Common.{List, sym, subst}
use Rattle.iam_policy.specs.declared.effect.Effect.{Effect}
use Rattle.iam_decision.specs.Applicable.{frame_of}
use Rattle.iam_decision.specs.Code.Found.{ArePlaces}
use Rattle.iam_decision.specs.Decision.{AreDeciding, AreLacking, Allows, Denies, Grants, IsDecided}
use Rattle.iam_decision.specs.declared.frame.Frame.{Frame}
use Rattle.iam_decision.specs.declared.place.Layer.{Layer}
use Rattle.iam_decision.specs.declared.place.Place.{Place}
use Rattle.iam_decision.proofs.EarlyLemmas.{decided_same, lacking_same, deciding_same}
use Rattle.iam_decision.proofs.decide.early_verdict.Goals as goal

pub returns : goal.returns
returns c = λ a q framed enough.
    let f = c.args.frame in
    let found = c.args.found.now in
    let d = c.decision_of-decision.result in
    let decided = c.decision_of-decision.ensures in
    let E : Effect → Type 0 = λ effect. ArePlaces effect found c.in_ok-statements.statements.items in
    let S : List Place → Type 0 = λ places. AreDeciding a q d places in
    let D : Frame → Type 0 = λ frame. IsDecided (Denies a q) (Allows a q) (Grants a q) frame d in
    let F : Frame → Type 0 = λ frame. AreLacking (Allows a q) (Grants a q) frame d c.in_ok-lacks.lacks.items in
    let L : List Layer → Type 0 = λ lacks. AreLacking (Allows a q) (Grants a q) (frame_of a) d lacks in
    record {
      decided = subst D framed (decided_same a q f found enough d decided);
      deciding =
          subst S (sym c.from_vec.ensures)
          (deciding_same a q f found enough d c.in_ok-statements.statements.items decided (subst E c.deciding_effect.ensures c.in_ok-statements.ensures));
      lacking =
          subst L (sym c.from_vec-2.ensures)
          (subst F framed (lacking_same a q f found enough d c.in_ok-lacks.lacks.items decided c.in_ok-lacks.ensures));
    }
