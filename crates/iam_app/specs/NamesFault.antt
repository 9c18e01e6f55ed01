-- The line that tells of a fault of a run about all names, with its number: the first seven are those of a run. LOGIC 13.9, 14.
use Rattle.std.specs.Prelude.{ℕ, List, ◌++◌, codes}
use Rattle.iam_asked.specs.TextFault.{faulty_text_text}
use Rattle.iam_asked.specs.declared.text_fault.FaultyText.{FaultyText}
use Rattle.iam_asked.specs.declared.text_fault.TextFault.{TextFault}
use Rattle.iam_asked.specs.declared.text_fault.TextFault.TheVariants as t
use Rattle.iam_every.specs.declared.report.EveryFault.{EveryFault}
use Rattle.iam_every.specs.declared.report.EveryFault.TheVariants as e
use Rattle.iam_app.specs.FaultLine.{run_text}
use Rattle.iam_app.specs.declared.fault.RunFault.TheVariants as f
use Rattle.iam_app.specs.declared.input.InputFault.{InputFault}
use Rattle.iam_app.specs.declared.input.InputFault.TheVariants as i
use Rattle.iam_app.specs.declared.names_fault.NamesFault.{NamesFault}
use Rattle.iam_app.specs.declared.names_fault.NamesFault.TheVariants.{Run, Kinds, Texts, LongTexts}

-- the line of a fault
abbrev pub names_text : NamesFault → List ℕ
names_text (Run fault) = run_text fault
names_text Kinds = codes "fault 11 Kinds"
names_text (Texts faulty) = codes "fault 12 Texts: " ++ faulty_text_text faulty
names_text LongTexts = codes "fault 12 Texts: 6 TooLarge"

-- the fault of a run whose lines are not taken
abbrev pub fault_of_lines : InputFault → NamesFault
fault_of_lines i.Read = Run f.Read
fault_of_lines i.TooLarge = LongTexts
fault_of_lines i.OutOfMemory = Run f.OutOfMemory

-- of one of which a line says nothing of texts
abbrev pub fault_by : FaultyText → TextFault → NamesFault
fault_by faulty t.OutOfMemory = Run f.OutOfMemory
fault_by faulty fault = Texts faulty

abbrev pub fault_of_line : FaultyText → NamesFault
fault_of_line faulty = fault_by faulty faulty.fault

-- of one that has no report
abbrev pub fault_of_every : EveryFault → NamesFault
fault_of_every e.TooMany = Kinds
fault_of_every e.OutOfMemory = Run f.OutOfMemory
