-- Which requests are looked at where the access of a principal is compared in two states, as one list, and which of them are told. AWS
-- IAM User Guide, "Policy evaluation logic". LOGIC 11.9.
use Rattle.std.specs.Prelude.{◌≡◌, ◌⊎◌, ◌++◌, ◌∷◌, [], ℕ, All, Any, Bool, true, false, List, None, Some, codes, filter, length, map}
use Rattle.std.specs.List.{AllZip, range_with_len, slice_get}
use Rattle.std.specs.Str.{chars}
use Rattle.iam_glob.specs.Glob.{Matches}
use Rattle.iam_glob.specs.declared.sign.Sign.{Sign}
use Rattle.iam_decision.specs.Matched.{Selects}
use Rattle.iam_layers.specs.declared.unnamed.Unnamed.{Unnamed}
use Rattle.iam_asked.specs.Texts.{resource_texts}
use Rattle.iam_every.specs.Every.{IsFirst, LineValue, Says, line_question}
use Rattle.iam_every.specs.Made.{AreShown, AreShownFold}
use Rattle.iam_every.specs.Names.{action_question}
use Rattle.iam_every.specs.OwnGroups.{AreFirsts}
use Rattle.iam_every_changes.specs.Changes.{ActionsPassIn, Answers, AreAllTold, AreBothActionGroups, AreBothGroups, ChangedValue, IsRightIn, TextsPassIn, is_told}
use Rattle.iam_every_changes.specs.States.{AreBoth, BothValue, joint}
use Rattle.iam_every_changes.specs.declared.looked.Verdicts.{Verdicts}

-- the rows of each member, those of one behind those of the other
abbrev pub AreJoined : {X : Type 0} → (X → List ChangedValue → Type 0) → List X → List ChangedValue → Type 0
AreJoined Made [] rows = rows ≡ []
AreJoined Made (x ∷ xs) rows = (one rest : List ChangedValue) × Made x one × AreJoined Made xs rest × (rows ≡ one ++ rest)

-- ---- requests that are looked at
-- a text of a resource that is looked at, and what is said of it before and after
pub record TargetValue : Type 0 where
  pub text : List ℕ
  pub was : Unnamed
  pub now : Unnamed

-- the request for the action on it, with the verdicts of both states
abbrev pub AreOfTarget : BothValue → List ℕ → TargetValue → List ChangedValue → Type 0
AreOfTarget both action target rows =
    (verdicts : Verdicts) × Answers both.before target.was action target.text verdicts.before
    × Answers both.after target.now action target.text verdicts.after
    × (rows ≡ record { action = action; resource = target.text; verdicts = Some verdicts } ∷ [])

-- ---- texts that are looked at one by one
-- some line matches the text
abbrev pub IsAsked : List LineValue → List ℕ → Type 0
IsAsked lines text = Any (λ line. Matches line.pattern (chars text)) lines

-- those of the resources after, then of those before, then `*`
abbrev pub own_texts : BothValue → List (List ℕ)
own_texts both = resource_texts both.after.every.world ++ (resource_texts both.before.every.world ++ (codes "*" ∷ []))

-- those of them that some line matches, each once
abbrev pub AreOwnTexts : BothValue → List (List ℕ) → Type 0
AreOwnTexts both texts =
    (asked : List (List ℕ)) × Selects (IsAsked both.after.every.lines) (own_texts both) asked × AreFirsts [] asked texts

-- the text, with what is said of it
pub record IsTarget (both : BothValue) (text : List ℕ) (target : TargetValue) : Type 0 where
  pub is : target.text ≡ text
  pub was : Says both.before.every text target.was
  pub now : Says both.after.every text target.now

abbrev pub AreTargets : BothValue → List TargetValue → Type 0
AreTargets both targets = (texts : List (List ℕ)) × AreOwnTexts both texts × AllZip (IsTarget both) texts targets

-- ---- texts of a line
-- the row of a line that is not shown
abbrev pub unshown_row : List ℕ → LineValue → ChangedValue
unshown_row action line = record { action = action; resource = line.text; verdicts = None }

-- of a text that is shown for line k, if that line is the first to speak of it
abbrev pub AreOfText : BothValue → List ℕ → ℕ → LineValue → LineValue → List ℕ → List ChangedValue → Type 0
AreOfText both action k was now text rows =
    (IsFirst both.after.every.lines text k now × AreOfTarget both action (record { text = text; was = was.unnamed; now = now.unnamed }) rows)
    ⊎ (¬ IsFirst both.after.every.lines text k now × (rows ≡ []))

-- of the texts that are shown for line k, one of each kind
pub record AreOfTexts (both : BothValue) (action : List ℕ) (k : ℕ) (was now : LineValue) (rows : List ChangedValue) : Type 0 where
  pub groups : List (List (List Sign))
  pub own : AreBothGroups both k action groups
  pub texts : List (List ℕ)
  pub shown : AreShown (line_question (joint both) k now groups) texts
  pub are : AreJoined (AreOfText both action k was now) texts rows

-- of line k: one row that says that its texts are too many, or those of the texts that are shown
pub record AreOfLine (both : BothValue) (action : List ℕ) (k : ℕ) (rows : List ChangedValue) : Type 0 where
  pub was : LineValue
  pub now : LineValue
  pub was_at : slice_get both.before.every.lines k ≡ Some was
  pub now_at : slice_get both.after.every.lines k ≡ Some now
  pub either : (TextsPassIn both action k now × (rows ≡ unshown_row action now ∷ [])) ⊎ AreOfTexts both action k was now rows

-- ---- actions
pub record AreOfAction (both : BothValue) (targets : List TargetValue) (action : List ℕ) (rows : List ChangedValue) : Type 0 where
  pub own : List ChangedValue
  pub are_own : AreJoined (AreOfTarget both action) targets own
  pub lined : List ChangedValue
  pub are_lined : AreJoined (AreOfLine both action) (range_with_len 0 (length both.after.every.lines)) lined
  pub are : rows ≡ own ++ lined

-- one action of each kind that the pattern matches
pub record AreShownActions (both : BothValue) (pattern : List Sign) (actions : List (List ℕ)) : Type 0 where
  pub groups : List (List (List Sign))
  pub own : AreBothActionGroups both groups
  pub shown : AreShownFold (action_question groups pattern) actions

-- the actions that are looked at: those of both worlds, each once, or those that are shown
abbrev pub AreAsked : BothValue → List (List ℕ) → Type 0
AreAsked both actions =
    ((both.after.every.actions ≡ None) × AreFirsts [] (both.after.every.world.actions ++ both.before.every.world.actions) actions)
    ⊎ ((pattern : List Sign) × (both.after.every.actions ≡ Some pattern) × AreShownActions both pattern actions)

-- ---- all that is looked at: a row for each line, if the actions are too many; or those for each action
abbrev pub AreMade : BothValue → List ChangedValue → Type 0
AreMade both rows =
    (ActionsPassIn both × (rows ≡ map (unshown_row both.after.every.written) both.after.every.lines))
    ⊎ ((targets : List TargetValue) × (actions : List (List ℕ)) × AreTargets both targets × AreAsked both actions
    × AreJoined (AreOfAction both targets) actions rows)

-- ---- what is told
abbrev pub has_rows : List ChangedValue → Bool
has_rows [] = false
has_rows (row ∷ rows) = true

-- each row is right, each request that is meant has the same access in both states or is told by one, and they are those of all that is
-- looked at; `some` tells whether anything is
pub record AreEveryChanges (both : BothValue) (rows : List ChangedValue) (some : Bool) : Type 0 where
  pub right : All (IsRightIn both) rows
  pub whole : AreAllTold both rows
  pub looked : List ChangedValue
  pub made : AreMade both looked
  pub told : rows ≡ filter is_told looked
  pub is_some : some ≡ has_rows looked

-- there is one such list
abbrev pub OneListOfChanges : Type 0
OneListOfChanges =
    (both : BothValue) (one other : List ChangedValue) (some others : Bool) → AreBoth both → AreEveryChanges both one some
    → AreEveryChanges both other others → (one ≡ other) × (some ≡ others)
