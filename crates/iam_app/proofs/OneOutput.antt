-- One report of the bytes, and one end of a run on them.
use Rattle.std.proofs.Common.{◌≡◌, inl, inr, ℕ, List, ◌++◌, Some, take, drop, Result, Ok, Err, refl, sym, ap, ◌∙◌, subst, append_assoc}
use Rattle.std.specs.Prelude.{⊤}
use Rattle.std.specs.Io.KnownBytes.{Appends}
use Rattle.std.proofs.lemmas.List.{take-append-drop}
use Rattle.iam_layers.specs.Cell.{IsCell}
use Rattle.iam_layers.specs.Laws.{OneVerdictAt}
use Rattle.iam_matrix.specs.Laws.{OneFirstReport, OneReport}
use Rattle.iam_matrix.specs.Report.{IsMatrixReport}
use Rattle.iam_options.specs.declared.options.Options.{Options}
use Rattle.iam_options.specs.declared.options.Task.{Task}
use Rattle.iam_options.specs.declared.options.Task.TheVariants as t
use Rattle.iam_row.specs.CsvRow.{IsCsvRow}
use Rattle.iam_row.specs.Laws.{OneRow}
use Rattle.iam_row.specs.Report.{full_layout}
use Rattle.iam_report.specs.Streams.{AppendsBeginning}
use Rattle.iam_world.specs.Reads.{IsWorld}
use Rattle.iam_world.specs.World.{WorldValue}
use Rattle.iam_world.specs.WorldFault.{IsFirstWorldFault}
use Rattle.iam_world.specs.declared.fault.WorldFault.{WorldFault}
use Rattle.iam_app.specs.Laws
use Rattle.iam_app.specs.Laws.{AskTheSame, Ends, IsOfInput, IsUndisturbed}
use Rattle.iam_app.specs.Output.{EndsBy, IsAnswer, IsOutput, IsRefusal, IsReportOf, IsWorldRefusal, RefusesInput, format_of}
use Rattle.iam_app.specs.Streams.{AllRemained}
use Rattle.iam_app.specs.declared.fault.RunFault.{RunFault}
use Rattle.iam_app.specs.declared.fault.RunFault.TheVariants.{World, NoSuchCell}

-- the laws of the crates below
pub record Given : Type 0 where
  pub worlds : (bytes : List ℕ) (world other : WorldValue) → IsWorld bytes world → IsWorld bytes other → world ≡ other
  pub faults : (bytes : List ℕ) (fault other : WorldFault) → IsFirstWorldFault bytes fault → IsFirstWorldFault bytes other → fault ≡ other
  pub not_both : (bytes : List ℕ) (world : WorldValue) (fault : WorldFault) → IsWorld bytes world → ¬ IsFirstWorldFault bytes fault
  pub verdicts : OneVerdictAt
  pub rows : OneRow full_layout
  pub reports : OneReport
  pub firsts : OneFirstReport

one_answer : Given → (world : WorldValue) (p a r : ℕ) (text other : List ℕ) → IsAnswer world p a r text → IsAnswer world p a r other → text ≡ other
one_answer g world p a r text other (cell, is, (verdict, at, row)) (cell', is', (verdict', at', row')) =
    let number : cell ≡ cell' = is.number ∙ sym is'.number in
    let same : verdict ≡ verdict' = g.verdicts world p a r verdict verdict' at at' in
    g.rows world cell' p a r verdict' text other
    (subst (λ v. IsCsvRow full_layout world cell' p a r v text) same (subst (λ c. IsCsvRow full_layout world c p a r verdict text) number row)) row'

pub one_asked_report : Given → (task : Task) (options other : Options) (world : WorldValue) (text text' : List ℕ) → format_of options.json ≡ format_of other.json
    → options.brief ≡ other.brief → IsReportOf task options world text → IsReportOf task other world text' → text ≡ text'
one_asked_report g t.Check options other world text text' format brief h k = h ∙ sym k
one_asked_report g (t.Decide p a r) options other world text text' format brief h k = one_answer g world p a r text text' h k
one_asked_report g t.Matrix options other world text text' format brief h k =
    let was = subst (λ b. IsMatrixReport (format_of other.json) b world text) brief (subst (λ f. IsMatrixReport f options.brief world text) format h.1) in
    g.reports (format_of other.json) other.brief world text text' was k.1
one_asked_report g t.First options other world text text' format brief h k = g.firsts world text text' h.1 k.1

other_way : (options other : Options) → AskTheSame options other → AskTheSame other options
other_way options other same = ap (λ (o : Options). record o { tile = options.tile; workers = options.workers }) (sym same)

pub one_output : Given → Laws.OneOutput
one_output g options other bytes text text' same (world, is, h) (world', is', k) =
    let task : other.task ≡ options.task = ap (λ (o : Options). o.task) same in
    let format : format_of options.json ≡ format_of other.json = sym (ap (λ (o : Options). format_of o.json) same) in
    let brief : options.brief ≡ other.brief = sym (ap (λ (o : Options). o.brief) same) in
    let one : world' ≡ world = g.worlds bytes world' world is' is in
    one_asked_report g options.task options other world text text' format brief h
    (subst (λ w. IsReportOf options.task other w text') one (subst (λ x. IsReportOf x other world' text') task k))

-- ---- bytes that have a report have no fault, and others have one

-- where a command is about one cell, the world has it
abbrev pub HasCellOf : Task → WorldValue → Type 0
HasCellOf t.Check world = ⊤
HasCellOf (t.Decide p a r) world = (cell : ℕ) × IsCell world cell p a r
HasCellOf t.Matrix world = ⊤
HasCellOf t.First world = ⊤

-- the bytes are a world with that cell
abbrev pub IsTaken : Options → List ℕ → Type 0
IsTaken options bytes = (world : WorldValue) × IsWorld bytes world × HasCellOf options.task world

pub cell_of_report : (task : Task) (options : Options) (world : WorldValue) (text : List ℕ)
    → IsReportOf task options world text → HasCellOf task world
cell_of_report t.Check options world text h = tt
cell_of_report (t.Decide p a r) options world text (cell, is, h) = (cell, is)
cell_of_report t.Matrix options world text h = tt
cell_of_report t.First options world text h = tt

-- a command whose cell the world has is not refused for want of it
has_cell : (task : Task) (other : Options) (world : WorldValue) → HasCellOf task world → ¬ IsWorldRefusal task other world NoSuchCell
has_cell t.Check other world has is = let wrong : ⊥ = cc in wrong
has_cell (t.Decide p a r) other world (cell, is) lacks = (lacks (λ e. let wrong : ⊥ = cc in wrong)).1 cell is
has_cell t.Matrix other world has lacks = lacks
has_cell t.First other world has lacks = lacks

no_fault : Given → (options other : Options) (bytes : List ℕ) (fault : RunFault) → AskTheSame options other → IsOfInput fault
    → IsTaken options bytes → ¬ IsRefusal other bytes fault
no_fault g options other bytes fault same (inl (of_world, some, is)) (world, read, has) refused =
    g.not_both bytes world of_world read (subst (IsRefusal other bytes) is refused some)
no_fault g options other bytes fault same (inr is) (world, read, has) refused =
    let (world', read', lacks) = subst (IsRefusal other bytes) is refused in
    let task : other.task ≡ options.task = ap (λ (o : Options). o.task) same in
    has_cell options.task other world has
    (subst (λ w. IsWorldRefusal options.task other w NoSuchCell) (g.worlds bytes world' world read' read)
    (subst (λ x. IsWorldRefusal x other world' NoSuchCell) task lacks))

one_fault : Given → (options other : Options) (bytes : List ℕ) (fault fault' : RunFault) → IsOfInput fault → IsOfInput fault'
    → IsRefusal options bytes fault → IsRefusal other bytes fault' → fault ≡ fault'
one_fault g options other bytes fault fault' (inl (x, some, is)) (inl (y, some', is')) h k =
    is ∙ ap World (g.faults bytes x y (subst (IsRefusal options bytes) is h some) (subst (IsRefusal other bytes) is' k some')) ∙ sym is'
one_fault g options other bytes fault fault' (inl (x, some, is)) (inr is') h k =
    let (world, read, lacks) = subst (IsRefusal other bytes) is' k in
    absurd (g.not_both bytes world x read (subst (IsRefusal options bytes) is h some))
one_fault g options other bytes fault fault' (inr is) (inl (y, some', is')) h k =
    let (world, read, lacks) = subst (IsRefusal options bytes) is h in
    absurd (g.not_both bytes world y read (subst (IsRefusal other bytes) is' k some'))
one_fault g options other bytes fault fault' (inr is) (inr is') h k = is ∙ sym is'

-- ---- runs, whatever it is that they write: `Is options bytes text` says that the text is an output of the bytes

-- bytes with an output are taken, and have no other one
pub record AreOutputs (Is : Options → List ℕ → List ℕ → Type 0) : Type 0 where
  pub taken : (options : Options) (bytes text : List ℕ) → Is options bytes text → IsTaken options bytes
  pub one : (options other : Options) (bytes text text' : List ℕ) → AskTheSame options other
      → Is options bytes text → Is other bytes text' → text ≡ text'

-- all input is these bytes, and P holds of an output of them
abbrev pub Has : (List ℕ → List ℕ → Type 0) → List ℕ → (List ℕ → Type 0) → Type 0
Has Is input P = (bytes : List ℕ) × AllRemained (Some input) bytes × ((text : List ℕ) × Is bytes text × P text)

-- what a run on these bytes left: an output behind what was held; or nothing, since there is a fault of the input
abbrev pub Leaves : (Options → List ℕ → List ℕ → Type 0) → Options → List ℕ → List ℕ → List ℕ → Result (Unit {0}) RunFault → Type 0
Leaves Is options input held new (Ok done) = (text : List ℕ) × Is options input text × (new ≡ held ++ text)
Leaves Is options input held new (Err fault) = (new ≡ held) × IsOfInput fault × IsRefusal options input fault

pub written : (Is : Options → List ℕ → List ℕ → Type 0) (options : Options) (input held new : List ℕ)
    → Has (Is options) input (Appends (Some held) (Some new)) → Leaves Is options input held new (Ok tt)
written Is options input held new (bytes, all, (text, is, appends)) = (text, subst (λ b. Is options b text) all is, appends)

refusal : (options : Options) (input : List ℕ) (fault : RunFault) → RefusesInput options (Some input) fault → IsRefusal options input fault
refusal options input fault (inl (more, is)) = subst (IsRefusal options input) (sym is) (λ some. inl (more, refl))
refusal options input fault (inr (bytes, all, few, h)) = subst (λ b. IsRefusal options b fault) all h

pub refused : (Is : Options → List ℕ → List ℕ → Type 0) (options : Options) (input held new : List ℕ) (fault : RunFault)
    → IsOfInput fault → EndsBy options (Some input) (Some held) (Some new) fault → Leaves Is options input held new (Err fault)
refused Is options input held new fault (inl (x, some, is)) h =
    let e = subst (EndsBy options (Some input) (Some held) (Some new)) is h in
    let kept : Some new ≡ Some held = e.0 in
    ((cc), inl (x, some, is), subst (IsRefusal options input) (sym is) (refusal options input (World x) e.1))
refused Is options input held new fault (inr is) h =
    let e = subst (EndsBy options (Some input) (Some held) (Some new)) is h in
    let kept : Some new ≡ Some held = e.0 in
    ((cc), inr is, subst (IsRefusal options input) (sym is) (refusal options input NoSuchCell e.1))

pub end_alike : Given → (Is : Options → List ℕ → List ℕ → Type 0) → AreOutputs Is → (options other : Options)
    (input held new new' : List ℕ) (result result' : Result (Unit {0}) RunFault) → AskTheSame options other
    → Leaves Is options input held new result → Leaves Is other input held new' result' → (result ≡ result') × (new ≡ new')
end_alike g Is are options other input held new new' (Ok done) (Ok done') same (text, is, left) (text', is', left') =
    (refl, left ∙ ap (λ t. held ++ t) (are.one options other input text text' same is is') ∙ sym left')
end_alike g Is are options other input held new new' (Ok done) (Err fault) same (text, is, left) (kept, of_input, why) =
    absurd (no_fault g options other input fault same of_input (are.taken options input text is) why)
end_alike g Is are options other input held new new' (Err fault) (Ok done) same (kept, of_input, why) (text, is, left) =
    absurd (no_fault g other options input fault (other_way options other same) of_input (are.taken other input text is) why)
end_alike g Is are options other input held new new' (Err fault) (Err fault') same (kept, of_input, why) (kept', of_input', why') =
    (ap Err (one_fault g options other input fault fault' of_input of_input' why why'), kept ∙ sym kept')

-- behind a beginning of a text comes its rest
pub goes_on : (held new new' text text' : List ℕ) (n : ℕ) → text ≡ text' → new ≡ held ++ text → new' ≡ held ++ take n text'
    → (rest : List ℕ) × (new ≡ new' ++ rest)
goes_on held new new' text text' n one left left' = (
  drop n text',
  left ∙ ap (λ t. held ++ t) (one ∙ sym (take-append-drop n text')) ∙ sym (append_assoc held (take n text') (drop n text'))
      ∙ ap (λ t. t ++ drop n text') (sym left'),
)

pub begin_alike : (Is : Options → List ℕ → List ℕ → Type 0) → AreOutputs Is → (options other : Options)
    (input held new new' : List ℕ) → AskTheSame options other → Has (Is options) input (Appends (Some held) (Some new))
    → Has (Is other) input (AppendsBeginning (Some held) (Some new')) → (rest : List ℕ) × (new ≡ new' ++ rest)
begin_alike Is are options other input held new new' same h (bytes, all, (text', is', (n, few, left'))) =
    let (text, is, left) = written Is options input held new h in
    let one : text ≡ text' = are.one options other input text text' same is (subst (λ b. Is other b text') all is') in
    goes_on held new new' text text' n one left left'

-- ---- runs without a selection

taken : (options : Options) (bytes text : List ℕ) → IsOutput options bytes text → IsTaken options bytes
taken options bytes text (world, is, h) = (world, is, cell_of_report options.task options world text h)

outputs : Given → AreOutputs IsOutput
outputs g = record { taken = taken; one = one_output g }

left_by : (options : Options) (input held new : List ℕ) (result : Result (Unit {0}) RunFault) → IsUndisturbed result
    → Ends options (Some input) (Some held) (Some new) result → Leaves IsOutput options input held new result
left_by options input held new (Ok done) of_input h = written IsOutput options input held new h
left_by options input held new (Err fault) of_input h = refused IsOutput options input held new fault of_input h

pub one_end : Given → Laws.OneEnd
one_end g options other input held new new' result result' same at at' h k =
    end_alike g IsOutput (outputs g) options other input held new new' result result' same
    (left_by options input held new result at h) (left_by other input held new' result' at' k)

pub one_beginning : Given → Laws.OneBeginning
one_beginning g options other input held new new' same h k = begin_alike IsOutput (outputs g) options other input held new new' same h k
