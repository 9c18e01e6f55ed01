-- The line that tells of a fault of a run of requests, with its number: the first seven are those of a run. LOGIC 13.8, 14.
use Rattle.std.specs.Prelude.{ℕ, List, ◌++◌, codes}
use Rattle.iam_asked.specs.Fault.{line_text}
use Rattle.iam_asked.specs.declared.fault.AskFault.{AskFault}
use Rattle.iam_asked.specs.declared.fault.AskFault.TheVariants as a
use Rattle.iam_app.specs.FaultLine.{run_text}
use Rattle.iam_app.specs.declared.fault.RunFault.TheVariants as f
use Rattle.iam_app.specs.declared.requests_fault.RequestsFault.{RequestsFault}
use Rattle.iam_app.specs.declared.requests_fault.RequestsFault.TheVariants.{Run, Request}

-- the line of a fault
abbrev pub requests_text : RequestsFault → List ℕ
requests_text (Run fault) = run_text fault
requests_text (Request faulty) = codes "fault 10 Request: " ++ line_text faulty

-- the fault of a run whose requests are not read
abbrev pub fault_of_ask : AskFault → RequestsFault
fault_of_ask a.Read = Run f.Read
fault_of_ask (a.Line faulty) = Request faulty
fault_of_ask a.OutOfMemory = Run f.OutOfMemory
