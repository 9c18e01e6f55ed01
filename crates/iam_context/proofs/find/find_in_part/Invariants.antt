use Rattle.std.proofs.Common.{◌≡◌, drop}
use Rattle.iam_context.specs.Code.Values.{first_values}
use Rattle.iam_context.proofs.find.find_in_part.Given as goal

-- what is left decides
abbrev pub invariant-loop-name : goal.invariant-loop-name
invariant-loop-name l = first_values l.part.items l.key ≡ first_values (drop l.name-index l.part.items) l.key
