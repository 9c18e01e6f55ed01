-- What a run of the requests of a file writes, and why it ends without its report. LOGIC 13.8.
use Rattle.std.specs.Prelude.{◌≡◌, ◌≢◌, ◌↔◌, ◌<◌, ◌≤◌, ℕ, Bool, IsTrue, List, Option, ⊤, length}
use Rattle.iam_world.specs.Reads.{IsWorld}
use Rattle.iam_world.specs.World.{WorldValue}
use Rattle.iam_report.specs.Streams.{AppendsBeginning}
use Rattle.iam_matrix.specs.Cut.{IsEvenCut, IsEvenFault}
use Rattle.iam_matrix.specs.Workers.{IsUnlawful}
use Rattle.iam_matrix.specs.declared.cut.CutFault.{CutFault}
use Rattle.iam_matrix.specs.declared.cut.CutFault.TheVariants as c
use Rattle.iam_matrix.specs.declared.fault.MatrixFault.TheVariants as m
use Rattle.iam_asked.specs.File.{AreRead, IsFirstFaulty, OfBytes, lines_of}
use Rattle.iam_asked.specs.Request.{RequestsValue}
use Rattle.iam_asked.specs.declared.fault.FaultyLine.{FaultyLine}
use Rattle.iam_ask.specs.Report.{IsAskReport}
use Rattle.iam_options.specs.declared.options.RunOptions.{RunOptions}
use Rattle.iam_app.specs.Changes.{IsNoWorld}
use Rattle.iam_app.specs.Output.{format_of, tile_or_default}
use Rattle.iam_app.specs.Streams.{AllRemained}
use Rattle.iam_app.specs.declared.fault.RunFault.{RunFault}
use Rattle.iam_app.specs.declared.fault.RunFault.TheVariants as f
use Rattle.iam_app.specs.declared.requests_fault.RequestsFault.{RequestsFault}
use Rattle.iam_app.specs.declared.requests_fault.RequestsFault.TheVariants as r

-- all input is this world
abbrev pub HasWorld : Option (List ℕ) → WorldValue → Type 0
HasWorld input world = (bytes : List ℕ) × AllRemained input bytes × IsWorld bytes world

-- no line of the file has a fault, and these are the requests, asked of this world, and not too many
pub record HasRequests (file : Option (List ℕ)) (world : WorldValue) (requests : RequestsValue) : Type 0 where
  pub same : requests.world ≡ world
  pub lines : OfBytes file (λ bytes. AreRead (lines_of bytes) requests)
  pub few : length requests.asked ≤ 16777216

-- this is the first faulty line, with its least fault
abbrev pub HasFaultyLine : Option (List ℕ) → WorldValue → FaultyLine → Type 0
HasFaultyLine file world faulty = OfBytes file (λ bytes. IsFirstFaulty world (lines_of bytes) faulty)

-- the tiles of the asked length are a cut of the requests
abbrev pub HasCutOfAsked : RunOptions → RequestsValue → Type 0
HasCutOfAsked options requests = IsEvenCut (tile_or_default options.tile (length requests.asked)) (length requests.asked)

-- they are none, for this fault
abbrev pub HasNoCutOfAsked : RunOptions → RequestsValue → CutFault → Type 0
HasNoCutOfAsked options requests fault = IsEvenFault (tile_or_default options.tile (length requests.asked)) (length requests.asked) fault

-- the report that the options ask for: the requests have such a cut, and the number of workers is lawful
pub record IsAnswered (options : RunOptions) (requests : RequestsValue) (text : List ℕ) : Type 0 where
  pub cut : HasCutOfAsked options requests
  pub workers : ¬ IsUnlawful options.workers
  pub report : IsAskReport (format_of options.json) options.brief requests text

-- there is none, for this fault; of want of memory nothing is said
abbrev pub IsNotAnswered : RunOptions → RequestsValue → RunFault → Type 0
IsNotAnswered options requests (f.Matrix fault) =
    fault ≢ m.OutOfMemory → HasCutOfAsked options requests × ((fault ≡ m.Workers) × IsUnlawful options.workers)
IsNotAnswered options requests (f.Cut fault) = fault ≢ c.OutOfMemory → HasNoCutOfAsked options requests fault
IsNotAnswered options requests f.OutOfMemory = ⊤
IsNotAnswered options requests fault = ⊥

-- the inputs are a world and requests of it, and P holds of their report
abbrev pub HasAskOutput : RunOptions → Option (List ℕ) → Option (List ℕ) → (List ℕ → Type 0) → Type 0
HasAskOutput options input file P =
    (world : WorldValue) × (requests : RequestsValue) × HasWorld input world × HasRequests file world requests
    × ((text : List ℕ) × IsAnswered options requests text × P text)

-- they are, P holds of their report, and it is told whether there is a request
abbrev pub HasAnswers : RunOptions → Option (List ℕ) → Option (List ℕ) → (List ℕ → Type 0) → Bool → Type 0
HasAnswers options input file P some =
    (world : WorldValue) × (requests : RequestsValue) × HasWorld input world × HasRequests file world requests
    × ((text : List ℕ) × IsAnswered options requests text × P text) × (IsTrue some ↔ (0 < length requests.asked))

-- they are, and there is no report of them
abbrev pub HasNoAnswers : RunOptions → Option (List ℕ) → Option (List ℕ) → RunFault → Type 0
HasNoAnswers options input file fault =
    (world : WorldValue) × (requests : RequestsValue) × HasWorld input world × HasRequests file world requests
    × IsNotAnswered options requests fault

-- how a run ends without its report: after every fault but `Write` nothing was written
abbrev pub EndsAskBy : RunOptions → Option (List ℕ) → Option (List ℕ) → Option (List ℕ) → Option (List ℕ) → RequestsFault → Type 0
EndsAskBy options input file old new (r.Run f.Read) = new ≡ old
EndsAskBy options input file old new (r.Run (f.World fault)) = (new ≡ old) × IsNoWorld input fault
EndsAskBy options input file old new (r.Run (f.Matrix fault)) = (new ≡ old) × HasNoAnswers options input file (f.Matrix fault)
EndsAskBy options input file old new (r.Run f.Write) = HasAskOutput options input file (AppendsBeginning old new)
EndsAskBy options input file old new (r.Run f.NoSuchCell) = ⊥
EndsAskBy options input file old new (r.Run (f.Cut fault)) = (new ≡ old) × HasNoAnswers options input file (f.Cut fault)
EndsAskBy options input file old new (r.Run f.OutOfMemory) = new ≡ old
EndsAskBy options input file old new (r.Request faulty) = (new ≡ old) × ((world : WorldValue) × HasWorld input world × HasFaultyLine file world faulty)

-- the fault is one of the world
abbrev pub IsOfWorld : RequestsFault → Type 0
IsOfWorld (r.Run (f.World fault)) = ⊤
IsOfWorld fault = ⊥
