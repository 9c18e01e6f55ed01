use Rattle.std.proofs.Common.{◌≡◌, ◌++◌, codes, string_bytes, take}
use Rattle.std.specs.List.{flat_map}
use Rattle.iam_open.specs.Rows.{entry_text}
use Rattle.iam_open.proofs.row.entries.Given as goal

abbrev pub invariant-loop-entry : goal.invariant-loop-entry
invariant-loop-entry l =
    string_bytes l.text ≡ string_bytes l.initial.text ++ flat_map (λ entry. codes "," ++ entry_text entry) (take l.entry-index l.rest)
