use Rattle.std.proofs.Common.{All, take}
use Rattle.iam_match.specs.Entry.{EntryHolds}
use Rattle.iam_every.proofs.concerned.conditions_hold.Given as goal

-- the entries so far
abbrev pub invariant-loop-entry : goal.invariant-loop-entry
invariant-loop-entry l = All (EntryHolds l.context) (take l.entry-index l.entries)
