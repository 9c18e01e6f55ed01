use Rattle.std.proofs.Common.{◌≡◌, All, false, take, true}
use Rattle.std.specs.List.{flat_map}
use Rattle.iam_match.specs.Entry.{EntryHolds}
use Rattle.iam_open.specs.Asks.{entry_keys, is_beyond}
use Rattle.iam_open.specs.Code.Certain.{IfOpen, Tells, UnlessNever}
use Rattle.iam_open.specs.Code.Known.{Follows}
use Rattle.iam_open.proofs.entry.conditions_certain.Given as goal

-- of the entries so far
abbrev pub invariant-loop-entry : goal.invariant-loop-entry
invariant-loop-entry l = record {
  told : Tells l.certain (Follows l.known l.context) (λ other. All (EntryHolds other) (take l.entry-index l.entries));
  asks : IfOpen l.certain (is_beyond l.known (flat_map entry_keys (take l.entry-index l.entries)) ≡ true);
  closed : UnlessNever l.certain
      (All (λ entry. is_beyond l.known (entry_keys entry) ≡ false → EntryHolds l.context entry) (take l.entry-index l.entries));
}
