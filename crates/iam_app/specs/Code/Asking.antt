-- How the parts of a run of requests end.
use Rattle.std.specs.Prelude.{◌≡◌, ◌↔◌, ◌<◌, ℕ, Bool, IsTrue, List, Option, ⊤, length}
use Rattle.std.specs.Io.KnownBytes.{Appends}
use Rattle.iam_world.specs.World.{WorldValue}
use Rattle.iam_report.specs.Streams.{AppendsBeginning}
use Rattle.iam_asked.specs.Request.{RequestsValue}
use Rattle.iam_options.specs.declared.options.RunOptions.{RunOptions}
use Rattle.iam_app.specs.Ask.{HasFaultyLine, HasRequests, IsAnswered, IsNotAnswered}
use Rattle.iam_app.specs.Changes.{IsNoWorld}
use Rattle.iam_app.specs.declared.fault.RunFault.{RunFault}
use Rattle.iam_app.specs.declared.fault.RunFault.TheVariants as f
use Rattle.iam_app.specs.declared.requests_fault.RequestsFault.{RequestsFault}
use Rattle.iam_app.specs.declared.requests_fault.RequestsFault.TheVariants as r

-- the input is no world, for this fault
abbrev pub IsNoInput : Option (List ℕ) → RunFault → Type 0
IsNoInput input f.Read = ⊤
IsNoInput input (f.World fault) = IsNoWorld input fault
IsNoInput input f.OutOfMemory = ⊤
IsNoInput input fault = ⊥

-- the writer gained the report of the requests
abbrev pub WritesAnswers : RunOptions → RequestsValue → Option (List ℕ) → Option (List ℕ) → Type 0
WritesAnswers options requests old new = (text : List ℕ) × IsAnswered options requests text × Appends old new text

-- it did not, for this fault
abbrev pub IsUnanswered : RunOptions → RequestsValue → Option (List ℕ) → Option (List ℕ) → RunFault → Type 0
IsUnanswered options requests old new f.Read = ⊥
IsUnanswered options requests old new (f.World fault) = ⊥
IsUnanswered options requests old new (f.Matrix fault) = (new ≡ old) × IsNotAnswered options requests (f.Matrix fault)
IsUnanswered options requests old new f.Write = (text : List ℕ) × IsAnswered options requests text × AppendsBeginning old new text
IsUnanswered options requests old new f.NoSuchCell = ⊥
IsUnanswered options requests old new (f.Cut fault) = (new ≡ old) × IsNotAnswered options requests (f.Cut fault)
IsUnanswered options requests old new f.OutOfMemory = new ≡ old

-- the file has requests of the world, the writer gained their report, and it is told whether there is one
abbrev pub AnswersAll : RunOptions → WorldValue → Option (List ℕ) → Option (List ℕ) → Option (List ℕ) → Bool → Type 0
AnswersAll options world file old new some =
    (requests : RequestsValue) × HasRequests file world requests × WritesAnswers options requests old new
    × (IsTrue some ↔ (0 < length requests.asked))

-- it did not, for this fault: the file has no requests of the world, or it has
abbrev pub EndsLinesBy : RunOptions → WorldValue → Option (List ℕ) → Option (List ℕ) → Option (List ℕ) → RequestsFault → Type 0
EndsLinesBy options world file old new (r.Run f.Read) = new ≡ old
EndsLinesBy options world file old new (r.Run f.OutOfMemory) = new ≡ old
EndsLinesBy options world file old new (r.Run fault) =
    (requests : RequestsValue) × HasRequests file world requests × IsUnanswered options requests old new fault
EndsLinesBy options world file old new (r.Request faulty) = (new ≡ old) × HasFaultyLine file world faulty
