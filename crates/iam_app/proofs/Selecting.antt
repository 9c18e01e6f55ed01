-- Runs with a selection: how they end without a report, that there is one, and that they end alike.
use Rattle.std.proofs.Common.{◌≡◌, inl, inr, ℕ, ◌≤◌, length, List, Option, Some, Result, Ok, Err, sym, ap, subst}
use Rattle.iam_app.specs.Laws
use Rattle.iam_app.specs.Laws.{EndsSelected, IsOfInput, IsUndisturbed}
use Rattle.iam_app.specs.Output.{EndsBy, IsRefusal, format_of}
use Rattle.iam_app.specs.Selected.{EndsSelectedBy, IsSelectedOf, IsSelectedOutput}
use Rattle.iam_app.specs.Streams.{AllRemained}
use Rattle.iam_app.specs.declared.fault.RunFault.{RunFault}
use Rattle.iam_app.specs.declared.fault.RunFault.TheVariants.{Write}
use Rattle.iam_options.specs.declared.options.Options.{Options}
use Rattle.iam_options.specs.declared.options.Task.{Task}
use Rattle.iam_options.specs.declared.options.Task.TheVariants as t
use Rattle.iam_selection.specs.Laws.{OneFirstSelectedReport, OneSelectedReport}
use Rattle.iam_selection.specs.Report.{IsSelectedReport}
use Rattle.iam_selection.specs.Selection.{SelectionValue}
use Rattle.iam_world.specs.World.{WorldValue}
use Rattle.iam_app.proofs.OneOutput.{AreOutputs, Given, HasCellOf, IsTaken, Leaves, begin_alike, cell_of_report, end_alike, one_asked_report, refused, written}
use Rattle.iam_app.proofs.Refusals.{not_of_writer, refuses}

-- a run that has no report writes nothing
pub refuses_selected : (options : Options) (selection : SelectionValue) (input held : Option (List ℕ)) (bytes : List ℕ) → AllRemained input bytes → length bytes ≤ 8388608
    → (fault : RunFault) → IsRefusal options bytes fault → EndsSelectedBy options selection input held held fault
refuses_selected options selection input held bytes all few Write (world, is, h) = absurd (not_of_writer options.task options world h)
refuses_selected options selection input held bytes all few fault h = refuses options input held bytes all few fault h

one_selected_of : Given → OneSelectedReport → OneFirstSelectedReport → (task : Task) (options other : Options) (selection : SelectionValue) (world : WorldValue)
    (text text' : List ℕ) → format_of options.json ≡ format_of other.json → options.brief ≡ other.brief → IsSelectedOf task options selection world text
    → IsSelectedOf task other selection world text' → text ≡ text'
one_selected_of g reports firsts t.Check options other selection world text text' format brief h k =
    one_asked_report g t.Check options other world text text' format brief h k
one_selected_of g reports firsts (t.Decide p a r) options other selection world text text' format brief h k =
    one_asked_report g (t.Decide p a r) options other world text text' format brief h k
one_selected_of g reports firsts t.Matrix options other selection world text text' format brief h k =
    let was = subst (λ b. IsSelectedReport (format_of other.json) b selection world text) brief
    (subst (λ f. IsSelectedReport f options.brief selection world text) format h.1) in
    reports (format_of other.json) other.brief selection world text text' was k.1
one_selected_of g reports firsts t.First options other selection world text text' format brief h k = firsts selection world text text' h.1 k.1

-- bytes have one report of what a selection asks for
pub one_selected_output : Given → OneSelectedReport → OneFirstSelectedReport → Laws.OneSelectedOutput
one_selected_output g reports firsts options other selection bytes text text' same (world, is, h) (world', is', k) =
    let task : other.task ≡ options.task = ap (λ (o : Options). o.task) same in
    let format : format_of options.json ≡ format_of other.json = sym (ap (λ (o : Options). format_of o.json) same) in
    let brief : options.brief ≡ other.brief = sym (ap (λ (o : Options). o.brief) same) in
    let one : world' ≡ world = g.worlds bytes world' world is' is in
    one_selected_of g reports firsts options.task options other selection world text text' format brief h
    (subst (λ w. IsSelectedOf options.task other selection w text') one (subst (λ x. IsSelectedOf x other selection world' text') task k))

-- ---- runs with one selection end alike

cell_of_selected : (task : Task) (options : Options) (selection : SelectionValue) (world : WorldValue) (text : List ℕ)
    → IsSelectedOf task options selection world text → HasCellOf task world
cell_of_selected t.Check options selection world text h = tt
cell_of_selected (t.Decide p a r) options selection world text h = cell_of_report (t.Decide p a r) options world text h
cell_of_selected t.Matrix options selection world text h = tt
cell_of_selected t.First options selection world text h = tt

abbrev IsOf : SelectionValue → Options → List ℕ → List ℕ → Type 0
IsOf selection options bytes text = IsSelectedOutput options selection bytes text

taken : (selection : SelectionValue) (options : Options) (bytes text : List ℕ) → IsOf selection options bytes text
    → IsTaken options bytes
taken selection options bytes text (world, is, h) = (world, is, cell_of_selected options.task options selection world text h)

outputs : Given → OneSelectedReport → OneFirstSelectedReport → (selection : SelectionValue) → AreOutputs (IsOf selection)
outputs g reports firsts selection = record {
  taken = taken selection;
  one = λ options other bytes text text' same h k. one_selected_output g reports firsts options other selection bytes text text' same h k;
}

-- by a fault of the input a run ends as one without a selection
by_input : (options : Options) (selection : SelectionValue) (input old new : Option (List ℕ)) (fault : RunFault) → IsOfInput fault
    → EndsSelectedBy options selection input old new fault → EndsBy options input old new fault
by_input options selection input old new fault (inl (of_world, some, is)) h =
    subst (EndsBy options input old new) (sym is) (subst (EndsSelectedBy options selection input old new) is h)
by_input options selection input old new fault (inr is) h =
    subst (EndsBy options input old new) (sym is) (subst (EndsSelectedBy options selection input old new) is h)

left_by : (options : Options) (selection : SelectionValue) (input held new : List ℕ) (result : Result (Unit {0}) RunFault)
    → IsUndisturbed result → EndsSelected options selection (Some input) (Some held) (Some new) result
    → Leaves (IsOf selection) options input held new result
left_by options selection input held new (Ok done) of_input h = written (IsOf selection) options input held new h
left_by options selection input held new (Err fault) of_input h =
    refused (IsOf selection) options input held new fault of_input
    (by_input options selection (Some input) (Some held) (Some new) fault of_input h)

pub one_selected_end : Given → OneSelectedReport → OneFirstSelectedReport → Laws.OneSelectedEnd
one_selected_end g reports firsts options other selection input held new new' result result' same at at' h k =
    end_alike g (IsOf selection) (outputs g reports firsts selection) options other input held new new' result result' same
    (left_by options selection input held new result at h) (left_by other selection input held new' result' at' k)

pub one_selected_beginning : Given → OneSelectedReport → OneFirstSelectedReport → Laws.OneSelectedBeginning
one_selected_beginning g reports firsts options other selection input held new new' same h k =
    begin_alike (IsOf selection) (outputs g reports firsts selection) options other input held new new' same h k
