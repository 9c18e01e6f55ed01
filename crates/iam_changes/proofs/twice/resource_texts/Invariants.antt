use Rattle.std.proofs.Common.{◌≡◌, map, take}
use Rattle.iam_changes.proofs.twice.resource_texts.Given as goal

abbrev pub invariant-loop-r : goal.invariant-loop-r
invariant-loop-r l = map (λ text. text.now) l.texts.items ≡ map (λ resource. resource.arn) (take l.r l.world.resources)
