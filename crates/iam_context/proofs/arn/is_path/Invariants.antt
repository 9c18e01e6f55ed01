use Rattle.std.proofs.Common.{◌≡◌, drop, false}
use Rattle.iam_context.specs.Code.ArnParts.{path_from}
use Rattle.iam_context.proofs.arn.is_path.Given as goal

-- what is left decides
abbrev pub invariant-loop-character : goal.invariant-loop-character
invariant-loop-character l = path_from false l.text ≡ path_from l.begun (drop l.character-index l.text)
