-- What has changed from one world to another: the requests that one of them allows and the other does not, and those of which
-- they say something else. LOGIC 13.7.
use Rattle.std.specs.Prelude.{◌≡◌, ◌≢◌, ◌⊎◌, ℕ, Any, List, Option, Some, None, Bool, option_map, true, false}
use Rattle.std.specs.List.{AllZip}
use Rattle.iam_decision.specs.Applicable.{ApplicableValue}
use Rattle.iam_decision.specs.Matched.{statement_at}
use Rattle.iam_decision.specs.declared.place.Place.{Place}
use Rattle.iam_decision.specs.declared.verdict.Verdict.{Verdict}
use Rattle.iam_equal.specs.Said.{without_sid}
use Rattle.iam_layers.specs.Cell.{IsApplicableAt, IsCell, IsVerdictOf}
use Rattle.iam_world.specs.World.{WorldValue}
use Rattle.iam_row.specs.Changes.{is_allowed}
use Rattle.iam_row.specs.Report.{CellTexts, IsCellTexts}
use Rattle.iam_row.specs.declared.changes.Change.{Change}
use Rattle.iam_row.specs.declared.changes.Change.TheVariants.{Gained, Lost, Differs}
use Rattle.iam_row.specs.Selects.{SelectionValue, Selects}
use Rattle.iam_changes.specs.Lists.{somes}
use Rattle.iam_changes.specs.Requests.{AreRequests, Has}

-- what a world says of a request: the verdict of the written logic, and the policies that it is of
pub record SaidValue : Type 0 where
  pub verdict : Verdict
  pub policies : ApplicableValue

-- these policies apply to the request of the cell
abbrev pub AppliesTo : WorldValue → ℕ → ApplicableValue → Type 0
AppliesTo world cell policies = (p a r : ℕ) × IsCell world cell p a r × IsApplicableAt world p r policies

-- so much the world says of it; or nothing where the world does not have it
abbrev pub Says : WorldValue → CellTexts → Option SaidValue → Type 0
Says world texts None = ¬ Has world texts
Says world texts (Some said) =
    (cell : ℕ) × IsCellTexts world cell texts × IsVerdictOf world cell said.verdict × AppliesTo world cell said.policies

-- the verdict of what is said
abbrev pub verdict_of : Option SaidValue → Option Verdict
verdict_of said = option_map (λ it. it.verdict) said

-- ---- one request

-- at the place stands a statement among the one policies that says something else than the one among the others
abbrev pub IsReplaced : ApplicableValue → ApplicableValue → Place → Type 0
IsReplaced one other place = option_map without_sid (statement_at one place) ≢ option_map without_sid (statement_at other place)

-- another decision, other statements by their places, other lacks; or at one of the places a statement that says something else
abbrev pub AreUnlike : SaidValue → SaidValue → Type 0
AreUnlike one other =
    (one.verdict ≢ other.verdict)
    ⊎ ((one.verdict ≡ other.verdict) × Any (IsReplaced one.policies other.policies) one.verdict.statements)

-- both worlds have it, and say something else
abbrev pub Differ : Option SaidValue → Option SaidValue → Type 0
Differ before after = (one : SaidValue) × (other : SaidValue) × (before ≡ Some one) × (after ≡ Some other) × AreUnlike one other

-- it is allowed, by what is said of it
abbrev pub is_said_allowed : Option SaidValue → Bool
is_said_allowed said = is_allowed (verdict_of said)

-- what is said of it before and after is this change; one that is not of access counts where all are asked for
abbrev pub Changes : Bool → Option SaidValue → Option SaidValue → Change → Type 0
Changes all before after Gained = (is_said_allowed before ≡ false) × (is_said_allowed after ≡ true)
Changes all before after Lost = (is_said_allowed before ≡ true) × (is_said_allowed after ≡ false)
Changes all before after Differs = (all ≡ true) × (is_said_allowed before ≡ is_said_allowed after) × Differ before after

-- a change: the request, what it is, and what is said before and after
pub record ChangeValue : Type 0 where
  pub texts : CellTexts
  pub change : Change
  pub before : Option SaidValue
  pub after : Option SaidValue

-- the request has changed so between two worlds
pub record IsChange (before after : WorldValue) (all : Bool) (change : ChangeValue) : Type 0 where
  pub said : Says before change.texts change.before
  pub says : Says after change.texts change.after
  pub is : Changes all change.before change.after change.change

-- it has not changed
abbrev pub IsUnchanged : WorldValue → WorldValue → Bool → CellTexts → Type 0
IsUnchanged before after all texts =
    (said : Option SaidValue) × (says : Option SaidValue) × Says before texts said × Says after texts says
    × ((change : Change) → ¬ Changes all said says change)

-- ---- all requests

-- what is asked: of the requests that are selected, whose wanted decisions play no part, and whether for all changes
pub record AskedValue : Type 0 where
  pub selection : SelectionValue
  pub all : Bool

-- a request that is selected and has changed has a row, with its change; another one has none
abbrev pub IsRow : AskedValue → WorldValue → WorldValue → CellTexts → Option ChangeValue → Type 0
IsRow asked before after texts None = ¬ Selects asked.selection texts ⊎ IsUnchanged before after asked.all texts
IsRow asked before after texts (Some change) =
    Selects asked.selection texts × (change.texts ≡ texts) × IsChange before after asked.all change

-- the changes that are asked for, in the order of the requests
abbrev pub AreChanges : AskedValue → WorldValue → WorldValue → List ChangeValue → Type 0
AreChanges asked before after changes =
    (requests : List CellTexts) × (rows : List (Option ChangeValue)) × AreRequests before after requests
    × AllZip (IsRow asked before after) requests rows × (changes ≡ somes rows)
