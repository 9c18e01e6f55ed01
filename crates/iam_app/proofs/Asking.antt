-- How the run of a command ends, and that its words always say a selection.
use Rattle.std.proofs.Common.{◌≡◌, ◌↔◌, if◌then◌else◌, inl, inr, ℕ, Bool, false, IsTrue, List, [], ◌∷◌, Option, String, Global, codes, bytes_eq, string_bytes, refl, ap}
use Rattle.std.specs.List.{AllZip}
use Rattle.iam_decision.specs.declared.verdict.Decision.{Decision}
use Rattle.iam_decision.specs.declared.verdict.Decision.TheVariants.{Allowed, ExplicitDeny, ImplicitDeny}
use Rattle.iam_row.specs.Words.{decision_word}
use Rattle.iam_selection.specs.Selection.{SelectionValue}
use Rattle.iam_options.specs.declared.changes.ChangesOptions.{ChangesOptions}
use Rattle.iam_options.specs.declared.command.Asked.{Asked}
use Rattle.iam_options.specs.declared.command.WorldCommand.{WorldCommand}
use Rattle.iam_app.specs.Changes.{EndsChangesBy}
use Rattle.iam_app.specs.Command.{AsksNothing, EndsCommandBy, HasSelection}
use Rattle.iam_app.specs.Output.{EndsBy}
use Rattle.iam_app.specs.Selected.{EndsSelectedBy, IsSelectionOf, Means, patterns_in}
use Rattle.iam_app.specs.declared.changes_fault.ChangesFault.TheVariants.{Run}
use Rattle.iam_app.specs.declared.fault.RunFault.{RunFault}
use Rattle.iam_app.specs.declared.fault.RunFault.TheVariants.{OutOfMemory, Write}

-- ---- one world

-- what a test tells that fails
pub asks_some : (result : Bool) (asked : Asked) → (IsTrue result ↔ AsksNothing asked) → result ≡ false → ¬ AsksNothing asked
asks_some result asked told off silent = let on = told.1 silent in let wrong : ⊥ = cc in wrong

pub ends_of_all : (command : WorldCommand) (input old new : Option (List ℕ)) (fault : RunFault) → AsksNothing command.asked
    → EndsBy command.options input old new fault → EndsCommandBy command input old new fault
ends_of_all command input old new Write silent h = inl (silent, h)
ends_of_all command input old new fault silent h = h

pub ends_of_some : (command : WorldCommand) (selection : SelectionValue) (input old new : Option (List ℕ)) (fault : RunFault)
    → ¬ AsksNothing command.asked → IsSelectionOf command.asked selection
    → EndsSelectedBy command.options selection input old new fault → EndsCommandBy command input old new fault
ends_of_some command selection input old new Write asks is h = inr (asks, (selection, is, h))
ends_of_some command selection input old new fault asks is h = h

-- ---- two worlds

-- the decision that a word means
abbrev decision_in : List ℕ → Decision
decision_in word =
    if bytes_eq word (codes "allowed") then Allowed
    else if bytes_eq word (codes "explicitDeny") then ExplicitDeny
    else ImplicitDeny

meant : (word : List ℕ) (said : Decision) → word ≡ decision_word said → decision_in word ≡ said
meant word Allowed e = ap (λ w. decision_in w) e
meant word ExplicitDeny e = ap (λ w. decision_in w) e
meant word ImplicitDeny e = ap (λ w. decision_in w) e

abbrev decisions_in : List (String Global) → List Decision
decisions_in [] = []
decisions_in (word ∷ words) = decision_in (string_bytes word) ∷ decisions_in words

all_meant : (words : List (String Global)) → AllZip Means words (decisions_in words)
all_meant [] = tt
all_meant (word ∷ words) = (meant (string_bytes word), all_meant words)

words_say : (asked : Asked) → (selection : SelectionValue) × IsSelectionOf asked selection
words_say asked = (
  record {
    principals = patterns_in asked.principals.items;
    actions = patterns_in asked.actions.items;
    resources = patterns_in asked.resources.items;
    decisions = decisions_in asked.decisions.items;
  },
  record { principals = refl; actions = refl; resources = refl; decisions = all_meant asked.decisions.items },
)

-- where there is no memory for the selection, nothing was read or written
pub nothing_read : (options : ChangesOptions) (asked : Asked) (first second held : Option (List ℕ))
    → HasSelection asked (λ selection. EndsChangesBy options selection first second held held (Run OutOfMemory))
nothing_read options asked first second held = let (selection, is) = words_say asked in (selection, is, refl)
