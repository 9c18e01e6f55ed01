-- What the run of a command writes, and why it ends without its report: of all where its words ask for nothing, else of what they
-- ask for. LOGIC 13.3, 13.6 and 13.7.
use Rattle.std.specs.Prelude.{◌≡◌, ◌⊎◌, ℕ, Bool, true, List, Option, length}
use Rattle.iam_report.specs.Streams.{AppendsBeginning}
use Rattle.iam_selection.specs.Selection.{SelectionValue}
use Rattle.iam_options.specs.declared.command.Asked.{Asked}
use Rattle.iam_options.specs.declared.command.WorldCommand.{WorldCommand}
use Rattle.iam_app.specs.Output.{EndsBy, HasOutput}
use Rattle.iam_app.specs.Selected.{HasSelectedOutput, HasToldOutput, IsSelectionOf}
use Rattle.iam_app.specs.declared.fault.RunFault.{RunFault}
use Rattle.iam_app.specs.declared.fault.RunFault.TheVariants.{Write}

-- nothing is asked for: there is no word for principals, actions, resources or decisions
abbrev pub AsksNothing : Asked → Type 0
AsksNothing asked =
    (length asked.principals.items ≡ 0) × (length asked.actions.items ≡ 0)
    × (length asked.resources.items ≡ 0) × (length asked.decisions.items ≡ 0)

-- there is a selection that the words say, and P holds of it
abbrev pub HasSelection : Asked → (SelectionValue → Type 0) → Type 0
HasSelection asked P = (selection : SelectionValue) × IsSelectionOf asked selection × P selection

-- all input has a report, and P holds of it: where nothing is asked for the report of all, else that of a selection which the
-- words say
abbrev pub HasCommandOutput : WorldCommand → Option (List ℕ) → (List ℕ → Type 0) → Type 0
HasCommandOutput command input P =
    (AsksNothing command.asked × HasOutput command.options input P)
    ⊎ (¬ AsksNothing command.asked × HasSelection command.asked (λ selection. HasSelectedOutput command.options selection input P))

-- the same, and it is told whether some request was asked about; one without a selection asks about all that there are
abbrev pub HasCommandAnswer : WorldCommand → Option (List ℕ) → (List ℕ → Type 0) → Bool → Type 0
HasCommandAnswer command input P some =
    (AsksNothing command.asked × HasOutput command.options input P × (some ≡ true))
    ⊎ (¬ AsksNothing command.asked × HasSelection command.asked (λ selection. HasToldOutput command.options selection input P some))

-- how a run ends without its report: at `Write` the writer gained a beginning of it, and else as a run of all does
abbrev pub EndsCommandBy : WorldCommand → Option (List ℕ) → Option (List ℕ) → Option (List ℕ) → RunFault → Type 0
EndsCommandBy command input old new Write = HasCommandOutput command input (AppendsBeginning old new)
EndsCommandBy command input old new fault = EndsBy command.options input old new fault
