-- The line that tells of a fault of a run, with its number. It has no line feed at its end. LOGIC 14.
use Rattle.std.specs.Prelude.{ℕ, List, ◌++◌, codes}
use Rattle.iam_matrix.specs.Fault.{cut_text, matrix_text}
use Rattle.iam_world.specs.WorldFault.{world_text}
use Rattle.iam_app.specs.declared.fault.RunFault.{RunFault}
use Rattle.iam_app.specs.declared.fault.RunFault.TheVariants.{Read, World, Matrix, Write, NoSuchCell, Cut, OutOfMemory}

-- the line of a fault
abbrev pub run_text : RunFault → List ℕ
run_text Read = codes "fault 1 Read"
run_text (World fault) = codes "fault 2 World: " ++ world_text fault
run_text (Matrix fault) = codes "fault 3 Matrix: " ++ matrix_text fault
run_text Write = codes "fault 4 Write"
run_text NoSuchCell = codes "fault 5 NoSuchCell"
run_text (Cut fault) = codes "fault 6 Cut: " ++ cut_text fault
run_text OutOfMemory = codes "fault 7 OutOfMemory"
