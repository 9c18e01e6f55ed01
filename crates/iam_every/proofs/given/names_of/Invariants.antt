use Rattle.std.proofs.Common.{◌≡◌, map, take}
use Rattle.std.specs.List.{All}
use Rattle.std.specs.Str.{IsUtf8}
use Rattle.iam_every.proofs.given.names_of.Given as goal

abbrev pub invariant-loop-r : goal.invariant-loop-r
invariant-loop-r l = record {
  are : map (λ name. name.now) l.names.items ≡ map (λ resource. resource.arn) (take l.r l.world.resources);
  utf8 : All IsUtf8 (map (λ name. name.now) l.names.items);
}
