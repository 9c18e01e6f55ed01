use Rattle.std.proofs.Common.{All, map, take}
use Rattle.iam_context.specs.Context.{ContextValue}
use Rattle.iam_match.specs.Entry.{EntryHolds}
use Rattle.iam_open.specs.Code.Known.{AgreeOn}
use Rattle.iam_open_changes.proofs.kept.open_entries.Given as goal

-- the entries so far hold wherever those of them do that are open
abbrev pub invariant-loop-entry : goal.invariant-loop-entry
invariant-loop-entry l =
    (other : ContextValue) → AgreeOn l.known l.context other → All (EntryHolds other) (map (λ entry. entry.now) l.left.items)
    → All (EntryHolds other) (take l.entry-index l.entries)
