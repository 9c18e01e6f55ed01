use Rattle.std.proofs.Common.{◌≡◌, ◌++◌, string_bytes, take}
use Rattle.std.specs.List.{flat_map}
use Rattle.iam_open_changes.specs.Code.Adds.{kinds_with}
use Rattle.iam_open_changes.proofs.report.put_parts.Given as goal

abbrev pub invariant-loop-part : goal.invariant-loop-part
invariant-loop-part l = record {
  text : string_bytes l.whole.text ≡ string_bytes l.initial.whole.text ++ flat_map (λ part. string_bytes part.text) (take l.part-index l.parts);
  kinds : l.whole.kinds ≡ kinds_with l.initial.whole.kinds (take l.part-index l.parts);
}
