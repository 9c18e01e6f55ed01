-- The rows that tell where the access of a principal differs between two states, for all names: AWS IAM User Guide, "Policy evaluation
-- logic". LOGIC 11.9.
use Rattle.std.specs.Prelude.{◌≡◌, ◌↔◌, ◌⊎◌, ◌++◌, ⊤, ℕ, Bool, Contains, IsTrue, true, false, List, [], MatchOption, None, Option, Some, not, string_bytes}
use Rattle.std.specs.List.{slice_get}
use Rattle.iam_glob.specs.declared.sign.Sign.{Sign}
use Rattle.iam_kinds.specs.Kinds.{folded_question}
use Rattle.iam_kinds.specs.States.{PassesLimit}
use Rattle.iam_decision.specs.Applicable.{ApplicableValue}
use Rattle.iam_decision.specs.declared.verdict.Decision.TheVariants.{Allowed}
use Rattle.iam_decision.specs.declared.verdict.Verdict.{Verdict}
use Rattle.iam_layers.specs.Unnamed.{IsUnnamedDecision, IsUnnamedVerdict}
use Rattle.iam_layers.specs.declared.unnamed.Unnamed.{Unnamed}
use Rattle.iam_row.specs.Changes.{is_allowed}
use Rattle.iam_every.specs.Every.{AreDecidedAlike, AreSaid, IsResourceText, IsUnshown, LineValue, RowValue, Says, Tells, line_question}
use Rattle.iam_every.specs.Names.{action_question}
use Rattle.iam_every.specs.OwnActions.{AreOwnActionGroups, AreOwnPolicies}
use Rattle.iam_every.specs.OwnGroups.{AreFirsts, AreOwnGroupsAt}
use Rattle.iam_every_changes.specs.States.{BothValue, IsMeantIn, IsNamedIn, StateValue, joint}
use Rattle.iam_every_changes.specs.declared.looked.Changed.{Changed}
use Rattle.iam_every_changes.specs.declared.looked.Verdicts.{Verdicts}

-- ---- what states answer to a request
-- the verdict of the state on the request for the action on the resource of the text, of which this is said there; none without the
-- principal
abbrev pub Answers : StateValue → Unnamed → List ℕ → List ℕ → Option Verdict → Type 0
Answers state unnamed action text answer =
    MatchOption state.principal (answer ≡ None)
    (λ p. (verdict : Verdict) × (answer ≡ Some verdict) × IsUnnamedVerdict state.every.world p unnamed action text verdict)

-- the state allows the request
abbrev pub Allows : StateValue → Unnamed → List ℕ → List ℕ → Type 0
Allows state unnamed action text =
    MatchOption state.principal ⊥ (λ p. IsUnnamedDecision state.every.world p unnamed action text Allowed)

abbrev pub are_unlike : Bool → Bool → Bool
are_unlike true other = not other
are_unlike false other = other

-- one of the two states alone allows the request
abbrev pub is_change : Verdicts → Bool
is_change verdicts = are_unlike (is_allowed verdicts.before) (is_allowed verdicts.after)

-- ---- rows
-- a request that is looked at, and the verdicts on it before and after; or a line of which not all texts, or not all actions, could be
-- looked at, by its pattern as it is written
pub record ChangedValue : Type 0 where
  pub action : List ℕ
  pub resource : List ℕ
  pub verdicts : Option Verdicts

abbrev pub changed_of : Changed → ChangedValue
changed_of row = record { action = string_bytes row.action; resource = string_bytes row.resource; verdicts = row.verdicts }

-- it is a row of the report: access differs, or not all could be looked at
abbrev pub is_told_by : Option Verdicts → Bool
is_told_by None = true
is_told_by (Some verdicts) = is_change verdicts

abbrev pub is_told : ChangedValue → Bool
is_told row = is_told_by row.verdicts

-- ---- limits
-- the groups of the state for the texts of line k; without the principal there are none
abbrev pub AreStateGroups : StateValue → ℕ → List ℕ → List (List (List Sign)) → Type 0
AreStateGroups state k action groups =
    (line : LineValue) × (slice_get state.every.lines k ≡ Some line)
    × MatchOption state.principal (groups ≡ []) (λ p. AreOwnGroupsAt state.every.world p line.unnamed action groups)

-- those of both, each once
abbrev pub AreBothGroups : BothValue → ℕ → List ℕ → List (List (List Sign)) → Type 0
AreBothGroups both k action groups =
    (was now : List (List (List Sign))) × AreStateGroups both.before k action was × AreStateGroups both.after k action now
    × AreFirsts [] (was ++ now) groups

-- the kinds of texts that line k speaks of pass a limit
pub record TextsPassIn (both : BothValue) (action : List ℕ) (k : ℕ) (line : LineValue) : Type 0 where
  pub at : slice_get both.after.every.lines k ≡ Some line
  pub groups : List (List (List Sign))
  pub own : AreBothGroups both k action groups
  pub passes : PassesLimit (line_question (joint both) k line groups)

-- the policies of the state by which actions are told apart; without the principal there are none
abbrev pub AreStatePolicies : StateValue → List ApplicableValue → Type 0
AreStatePolicies state policies =
    MatchOption state.principal (policies ≡ [])
    (λ p. (said : List Unnamed) × AreSaid state.every said × AreOwnPolicies state.every.world p said policies)

-- the groups of action elements of both
abbrev pub AreBothActionGroups : BothValue → List (List (List Sign)) → Type 0
AreBothActionGroups both groups =
    (was now : List ApplicableValue) × AreStatePolicies both.before was × AreStatePolicies both.after now
    × AreOwnActionGroups (was ++ now) groups

-- the kinds of actions that the pattern matches pass a limit
pub record ActionsPassIn (both : BothValue) : Type 0 where
  pub pattern : List Sign
  pub is : both.after.every.actions ≡ Some pattern
  pub groups : List (List (List Sign))
  pub own : AreBothActionGroups both groups
  pub passes : PassesLimit (folded_question (action_question groups pattern))

-- ---- a row is right
-- these are the verdicts on the request for the row's action on the resource of its text, and one state alone allows it
pub record HasChange (both : BothValue) (row : ChangedValue) (verdicts : Verdicts) : Type 0 where
  pub action : IsMeantIn both row.action
  pub resource : IsNamedIn both row.resource ⊎ IsResourceText row.resource
  pub was : Unnamed
  pub now : Unnamed
  pub says_was : Says both.before.every row.resource was
  pub says_now : Says both.after.every row.resource now
  pub before : Answers both.before was row.action row.resource verdicts.before
  pub after : Answers both.after now row.action row.resource verdicts.after
  pub changes : IsTrue (is_change verdicts)

-- a limit keeps the texts of the row's line from being looked at for its action, or the actions as they are written
abbrev pub IsOverIn : BothValue → ChangedValue → Type 0
IsOverIn both row =
    (k : ℕ) × (line : LineValue) × (slice_get both.after.every.lines k ≡ Some line) × (row.resource ≡ line.text)
    × ((IsMeantIn both row.action × TextsPassIn both row.action k line) ⊎ (ActionsPassIn both × (row.action ≡ both.after.every.written)))

abbrev pub IsRightIn : BothValue → ChangedValue → Type 0
IsRightIn both row = MatchOption row.verdicts (IsOverIn both row) (HasChange both row)

-- ---- what a row tells
abbrev pub row_in : ChangedValue → Option Verdict → RowValue
row_in row answer = record { action = row.action; resource = row.resource; verdict = answer }

-- the state decides the principal's requests for both actions alike, whatever the resource
abbrev pub AreAlikeIn : StateValue → List ℕ → List ℕ → Type 0
AreAlikeIn state one other = MatchOption state.principal ⊤ (λ p. AreDecidedAlike state.every p one other)

-- in this state the request for the action on the resource of the text has the decision that the row says: its text is the row's, or
-- of one kind with it
abbrev pub TellsIn : StateValue → List ℕ → List ℕ → Unnamed → ChangedValue → Option Verdict → Type 0
TellsIn state action text unnamed row answer =
    MatchOption state.principal (answer ≡ None) (λ p. Tells state.every p action text unnamed (row_in row answer))

-- so it is in both
pub record TellsBoth (both : BothValue) (action text : List ℕ) (was now : Unnamed) (row : ChangedValue) : Type 0 where
  pub verdicts : Verdicts
  pub is : row.verdicts ≡ Some verdicts
  pub before : TellsIn both.before action text was row verdicts.before
  pub after : TellsIn both.after action text now row verdicts.after

-- the row says that not all texts of the first line that matches the text are looked at
abbrev pub IsUnshownIn : BothValue → List ℕ → ChangedValue → Type 0
IsUnshownIn both text row = (row.verdicts ≡ None) × IsUnshown both.after.every text (row_in row None)

-- a row tells the request by an action that both states decide alike, or says of such an action that the line is not shown, if neither
-- world names the text; or there are too many actions, and a row says so of its line
abbrev pub IsToldBy : BothValue → List ℕ → List ℕ → Unnamed → Unnamed → ChangedValue → Type 0
IsToldBy both action text was now row =
    (AreAlikeIn both.before row.action action × AreAlikeIn both.after row.action action
    × (TellsBoth both action text was now row ⊎ (¬ IsNamedIn both text × IsUnshownIn both text row)))
    ⊎ (ActionsPassIn both × (row.action ≡ both.after.every.written) × IsUnshownIn both text row)

abbrev pub IsToldIn : BothValue → List ChangedValue → List ℕ → List ℕ → Unnamed → Unnamed → Type 0
IsToldIn both rows action text was now = (row : ChangedValue) × Contains rows row × IsToldBy both action text was now row

-- both states allow the request, or neither does
abbrev pub HasSameAccess : BothValue → List ℕ → List ℕ → Unnamed → Unnamed → Type 0
HasSameAccess both action text was now = Allows both.before was action text ↔ Allows both.after now action text

-- a request that is meant has the same access in both states, or a row tells it
abbrev pub AreAllTold : BothValue → List ChangedValue → Type 0
AreAllTold both rows =
    (action text : List ℕ) (was now : Unnamed) → IsMeantIn both action → IsNamedIn both text ⊎ IsResourceText text
    → Says both.before.every text was → Says both.after.every text now
    → HasSameAccess both action text was now ⊎ IsToldIn both rows action text was now
