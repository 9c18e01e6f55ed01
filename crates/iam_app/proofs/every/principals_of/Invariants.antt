use Rattle.std.proofs.Common.{◌<◌, All, length}
use Rattle.std.specs.List.{range_with_len}
use Rattle.iam_decision.specs.Matched.{Selects}
use Rattle.iam_app.specs.Names.{IsPrincipalMeant}
use Rattle.iam_app.proofs.every.principals_of.Given as goal

abbrev pub invariant-loop-p : goal.invariant-loop-p
invariant-loop-p l = record {
  meant : Selects (IsPrincipalMeant l.patterns l.world) (range_with_len 0 l.p) l.principals.items;
  known : All (λ p. p < length l.world.principals) l.principals.items;
}
