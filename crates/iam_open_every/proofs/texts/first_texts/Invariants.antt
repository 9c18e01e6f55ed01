use Rattle.std.proofs.Common.{◌≡◌, ◌++◌, map, string_bytes}
use Rattle.iam_decision.specs.Matched.{Selects}
use Rattle.iam_every.specs.Code.Rows.{IsFirstOf}
use Rattle.iam_every.specs.Every.{line_of}
use Rattle.iam_open_every.proofs.texts.first_texts.Given as goal

abbrev pub invariant-loop-text : goal.invariant-loop-text
invariant-loop-text l = record {
  parts : l.yielded ++ l.text-iterator.rest.items ≡ l.fn.texts.items;
  first : Selects (λ text. IsFirstOf (map line_of l.lines) text l.k) (map string_bytes l.yielded) (map string_bytes l.first.items);
}
