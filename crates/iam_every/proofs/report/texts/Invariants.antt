use Rattle.std.proofs.Common.{◌≡◌, ◌++◌, length, string_bytes}
use Rattle.std.specs.List.{flat_map}
use Rattle.iam_every.specs.Report.{rows_text}
use Rattle.iam_every.specs.Code.Texts.{named_in}
use Rattle.iam_every.proofs.report.texts.Given as goal

abbrev pub invariant-loop-chosen : goal.invariant-loop-chosen
invariant-loop-chosen l = record {
  parts : l.yielded ++ l.chosen-iterator.rest.items ≡ l.fn.all.items;
  first : l.first ≡ length (flat_map (λ chosen. chosen.rows) l.yielded);
  texts : flat_map string_bytes l.texts.items ≡ rows_text l.format l.brief 0 (flat_map (named_in l.world) l.yielded);
}
