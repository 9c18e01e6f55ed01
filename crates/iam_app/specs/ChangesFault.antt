-- The line that tells of a fault of a run of two worlds, with its number: the first seven are those of a run. LOGIC 13.4, 14.
use Rattle.std.specs.Prelude.{ℕ, List, ◌++◌, Bool, ◌||◌, false, Option, Some, None, codes}
use Rattle.iam_world.specs.WorldFault.{world_text}
use Rattle.iam_changes.specs.Twice.{twice_text}
use Rattle.iam_changes.specs.declared.change.Kinds.{Kinds}
use Rattle.iam_options.specs.declared.changes.FailOn.{FailOn}
use Rattle.iam_options.specs.declared.changes.FailOn.TheVariants.{Gained, Lost, Any}
use Rattle.iam_app.specs.FaultLine.{run_text}
use Rattle.iam_app.specs.declared.changes_fault.ChangesFault.{ChangesFault}
use Rattle.iam_app.specs.declared.changes_fault.ChangesFault.TheVariants.{Run, Twice, Before}
use Rattle.iam_app.specs.declared.changes_fault.Side.{Side}
use Rattle.iam_app.specs.declared.changes_fault.Side.TheVariants as side

abbrev pub side_word : Side → List ℕ
side_word side.Before = codes "before"
side_word side.After = codes "after"

-- the line of a fault
abbrev pub changes_text : ChangesFault → List ℕ
changes_text (Run fault) = run_text fault
changes_text (Twice world twice) = codes "fault 8 Twice: " ++ (side_word world ++ (codes " at " ++ twice_text twice))
changes_text (Before fault) = codes "fault 9 Before: " ++ world_text fault

-- changes of these kinds end a run with a status of its own
abbrev pub fails_on : Option FailOn → Kinds → Bool
fails_on None kinds = false
fails_on (Some Gained) kinds = kinds.gained
fails_on (Some Lost) kinds = kinds.lost
fails_on (Some Any) kinds = kinds.gained || kinds.lost || kinds.differs
