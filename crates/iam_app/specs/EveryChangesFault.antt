-- The line that tells of a fault of a run of two worlds for all names, with its number: 11 and 12 are those of a run about all names, the
-- others those of a run of two worlds. LOGIC 13.10, 14.
use Rattle.std.specs.Prelude.{ℕ, List, ◌++◌, codes}
use Rattle.iam_asked.specs.TextFault.{faulty_text_text}
use Rattle.iam_asked.specs.declared.text_fault.FaultyText.{FaultyText}
use Rattle.iam_asked.specs.declared.text_fault.TextFault.{TextFault}
use Rattle.iam_asked.specs.declared.text_fault.TextFault.TheVariants as t
use Rattle.iam_every.specs.declared.report.EveryFault.{EveryFault}
use Rattle.iam_every.specs.declared.report.EveryFault.TheVariants as r
use Rattle.iam_app.specs.ChangesFault.{changes_text}
use Rattle.iam_app.specs.NamesFault.{names_text}
use Rattle.iam_app.specs.declared.changes_fault.ChangesFault.TheVariants as c
use Rattle.iam_app.specs.declared.every_changes_fault.EveryChangesFault.{EveryChangesFault}
use Rattle.iam_app.specs.declared.every_changes_fault.EveryChangesFault.TheVariants.{Changes, Kinds, Texts, BeforeTexts, LongTexts}
use Rattle.iam_app.specs.declared.fault.RunFault.TheVariants as f
use Rattle.iam_app.specs.declared.input.InputFault.{InputFault}
use Rattle.iam_app.specs.declared.input.InputFault.TheVariants as i
use Rattle.iam_app.specs.declared.names_fault.NamesFault.TheVariants as n

-- the line of a fault
abbrev pub every_changes_text : EveryChangesFault → List ℕ
every_changes_text (Changes fault) = changes_text fault
every_changes_text Kinds = names_text n.Kinds
every_changes_text (Texts faulty) = names_text (n.Texts faulty)
every_changes_text (BeforeTexts faulty) = codes "fault 12 Texts: before at " ++ faulty_text_text faulty
every_changes_text LongTexts = names_text n.LongTexts

-- the fault of a run whose lines are not taken
abbrev pub fault_of_lines : InputFault → EveryChangesFault
fault_of_lines i.Read = Changes (c.Run f.Read)
fault_of_lines i.TooLarge = LongTexts
fault_of_lines i.OutOfMemory = Changes (c.Run f.OutOfMemory)

-- of one of which a line says nothing of texts, by the world after
abbrev pub fault_by : FaultyText → TextFault → EveryChangesFault
fault_by faulty t.OutOfMemory = Changes (c.Run f.OutOfMemory)
fault_by faulty fault = Texts faulty

abbrev pub fault_of_line : FaultyText → EveryChangesFault
fault_of_line faulty = fault_by faulty faulty.fault

-- of one that has no report
abbrev pub fault_of_report : EveryFault → EveryChangesFault
fault_of_report r.TooMany = Kinds
fault_of_report r.OutOfMemory = Changes (c.Run f.OutOfMemory)

-- of one that says what the world before does not know
abbrev pub fault_before_by : FaultyText → TextFault → EveryChangesFault
fault_before_by faulty t.OutOfMemory = Changes (c.Run f.OutOfMemory)
fault_before_by faulty fault = BeforeTexts faulty

abbrev pub fault_before : FaultyText → EveryChangesFault
fault_before faulty = fault_before_by faulty faulty.fault
