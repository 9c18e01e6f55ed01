use Rattle.std.proofs.Common.{ℕ, map}
use Rattle.std.specs.List.{All, range_with_len}
use Rattle.iam_decision.specs.Matched.{Selects}
use Rattle.iam_layers.specs.Cell.{IsResource}
use Rattle.iam_every.specs.Code.Rows.{IsFirstOf}
use Rattle.iam_every.specs.Every.{IsMatched, line_of}
use Rattle.iam_every.proofs.given.matched_resources.Given as goal

abbrev pub invariant-loop-r : goal.invariant-loop-r
invariant-loop-r l = record {
  selected : Selects (IsMatched l.world (map line_of l.lines)) (range_with_len 0 l.r) l.matched.items;
  first : All (λ r. IsResource l.world r (λ resource. (k : ℕ) × IsFirstOf (map line_of l.lines) resource.arn k)) l.matched.items;
}
