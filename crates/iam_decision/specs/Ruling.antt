-- A verdict, with all that it follows from. LOGIC 11.2.
use Rattle.std.specs.Prelude.{◌≡◌, List}
use Rattle.iam_match.specs.Statement.{RequestValue}
use Rattle.iam_decision.specs.Applicable.{ApplicableValue, frame_of}
use Rattle.iam_decision.specs.Decision.{IsVerdict}
use Rattle.iam_decision.specs.Living.{AreFound}
use Rattle.iam_decision.specs.Matched.{placed}
use Rattle.iam_decision.specs.declared.frame.Frame.{Frame}
use Rattle.iam_decision.specs.declared.living.Matched.{Matched}
use Rattle.iam_decision.specs.declared.verdict.Verdict.{Verdict}

-- the statements that match a request, what is asked beside them, and the verdict
pub record RulingValue : Type 0 where
  pub frame : Frame
  pub found : List Matched
  pub verdict : Verdict

-- this is the verdict on every request that asks this and is matched by just these statements
abbrev pub Follows : Frame → List Matched → Verdict → Type 0
Follows frame found verdict =
    (a : ApplicableValue) (q : RequestValue) → frame ≡ frame_of a → AreFound q (placed a) found → IsVerdict a q verdict

-- the ruling on such requests
pub record IsRuling (frame : Frame) (found : List Matched) (ruling : RulingValue) : Type 0 where
  pub frame_is : ruling.frame ≡ frame
  pub found_is : ruling.found ≡ found
  pub follows : Follows frame found ruling.verdict
