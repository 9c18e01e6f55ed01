-- Which rows answer for a principal what is asked of all names, as one list: for one action after the other those of the resources of the
-- world, that of `*` and those of each line. AWS IAM User Guide, "Policy evaluation logic". LOGIC 11.6.
use Rattle.std.specs.Prelude.{◌≡◌, ◌⊎◌, ◌++◌, ◌∷◌, [], ℕ, All, Any, List, None, Some, codes, length, map}
use Rattle.std.specs.List.{range_with_len, slice_get}
use Rattle.std.specs.Str.{IsUtf8, chars}
use Rattle.iam_glob.specs.Glob.{Matches}
use Rattle.iam_glob.specs.declared.sign.Sign.{Sign}
use Rattle.iam_kinds.specs.Kinds.{Question, folded_question}
use Rattle.iam_kinds.specs.Shown.{AreKinds, AreKindsFold}
use Rattle.iam_kinds.specs.States.{PassesLimit}
use Rattle.iam_decision.specs.declared.verdict.Verdict.{Verdict}
use Rattle.iam_world.specs.World.{WorldValue}
use Rattle.iam_layers.specs.Cell.{IsResource}
use Rattle.iam_layers.specs.Unnamed.{IsUnnamedVerdict}
use Rattle.iam_layers.specs.declared.unnamed.Unnamed.{Unnamed}
use Rattle.iam_layers.specs.declared.unnamed.Unnamed.TheVariants.{Like}
use Rattle.iam_every.specs.Every.{ActionsPass, AreOwnActionGroupsAt, EveryValue, IsFirst, IsMatched, IsNamed, LineValue, RowValue, TextsPass, line_question}
use Rattle.iam_every.specs.Names.{action_question}
use Rattle.iam_every.specs.OwnGroups.{AreOwnGroupsAt}

-- the rows of each member, those of one behind those of the other
abbrev pub AreJoined : {X : Type 0} → (X → List RowValue → Type 0) → List X → List RowValue → Type 0
AreJoined Made [] rows = rows ≡ []
AreJoined Made (x ∷ xs) rows = (one rest : List RowValue) × Made x one × AreJoined Made xs rest × (rows ≡ one ++ rest)

-- where it is due one row, of which P holds; else none
abbrev pub IsRowIf : Type 0 → (RowValue → Type 0) → List RowValue → Type 0
IsRowIf Due P rows = (Due × ((row : RowValue) × P row × (rows ≡ row ∷ []))) ⊎ (¬ Due × (rows ≡ []))

-- the row has the verdict on the request for the resource of this text, of which this is said
pub record IsRowOf (world : WorldValue) (p : ℕ) (unnamed : Unnamed) (action text : List ℕ) (row : RowValue) : Type 0 where
  pub for_action : row.action ≡ action
  pub for_text : row.resource ≡ text
  pub verdict : Verdict
  pub verdict_is : row.verdict ≡ Some verdict
  pub right : IsUnnamedVerdict world p unnamed action text verdict

-- the row of a line that is not shown for this action
abbrev pub unshown_row : List ℕ → LineValue → RowValue
unshown_row action line = record { action = action; resource = line.text; verdict = None }

-- ---- what is shown
-- one text of each kind, and no limit is passed
pub record AreShown (question : Question) (texts : List (List ℕ)) : Type 0 where
  pub utf8 : All IsUtf8 texts
  pub kinds : AreKinds question (map chars texts)
  pub all : ¬ PassesLimit question

-- the same without regard to case
pub record AreShownFold (question : Question) (texts : List (List ℕ)) : Type 0 where
  pub utf8 : All IsUtf8 texts
  pub kinds : AreKindsFold question (map chars texts)
  pub all : ¬ PassesLimit (folded_question question)

-- one action of each kind that the pattern matches
pub record AreShownActions (every : EveryValue) (p : ℕ) (pattern : List Sign) (actions : List (List ℕ)) : Type 0 where
  pub groups : List (List (List Sign))
  pub own : AreOwnActionGroupsAt every p groups
  pub shown : AreShownFold (action_question groups pattern) actions

-- the actions for which rows are made: those of the world, or those that are shown
abbrev pub AreAsked : EveryValue → ℕ → List (List ℕ) → Type 0
AreAsked every p actions =
    ((every.actions ≡ None) × (actions ≡ every.world.actions))
    ⊎ ((pattern : List Sign) × (every.actions ≡ Some pattern) × AreShownActions every p pattern actions)

-- ---- the rows for an action
-- of resource r, if some line matches it
abbrev pub AreOfResource : EveryValue → ℕ → List ℕ → ℕ → List RowValue → Type 0
AreOfResource every p action r rows =
    IsRowIf (IsMatched every.world every.lines r)
    (λ row. IsResource every.world r (λ resource. IsRowOf every.world p (Like r) action resource.arn row)) rows

-- of `*`, if some line matches it and no resource of the world has it
abbrev pub AreOfStar : EveryValue → ℕ → List ℕ → List RowValue → Type 0
AreOfStar every p action rows =
    IsRowIf (¬ IsNamed every.world (codes "*") × Any (λ line. Matches line.pattern (chars (codes "*"))) every.lines)
    (λ row. (k : ℕ) × (line : LineValue) × IsFirst every.lines (codes "*") k line
    × IsRowOf every.world p line.unnamed action (codes "*") row) rows

-- of a text that is shown for line k, if that line is the first to speak of it
abbrev pub AreOfText : EveryValue → ℕ → List ℕ → ℕ → LineValue → List ℕ → List RowValue → Type 0
AreOfText every p action k line text rows = IsRowIf (IsFirst every.lines text k line) (IsRowOf every.world p line.unnamed action text) rows

-- of the texts that are shown for line k
pub record AreOfTexts (every : EveryValue) (p : ℕ) (action : List ℕ) (k : ℕ) (line : LineValue) (rows : List RowValue) : Type 0 where
  pub groups : List (List (List Sign))
  pub own : AreOwnGroupsAt every.world p line.unnamed action groups
  pub texts : List (List ℕ)
  pub shown : AreShown (line_question every k line groups) texts
  pub are : AreJoined (AreOfText every p action k line) texts rows

-- of line k: one row that says that its texts are too many, or those of the texts that are shown
abbrev pub AreOfLine : EveryValue → ℕ → List ℕ → ℕ → List RowValue → Type 0
AreOfLine every p action k rows =
    (line : LineValue) × (slice_get every.lines k ≡ Some line)
    × ((TextsPass every p action k line × (rows ≡ unshown_row action line ∷ [])) ⊎ AreOfTexts every p action k line rows)

pub record AreOfAction (every : EveryValue) (p : ℕ) (action : List ℕ) (rows : List RowValue) : Type 0 where
  pub named : List RowValue
  pub are_named : AreJoined (AreOfResource every p action) (range_with_len 0 (length every.world.resources)) named
  pub star : List RowValue
  pub is_star : AreOfStar every p action star
  pub lined : List RowValue
  pub are_lined : AreJoined (AreOfLine every p action) (range_with_len 0 (length every.lines)) lined
  pub are : rows ≡ (named ++ star) ++ lined

-- ---- the rows of principal p: a row for each line, if the actions are too many; or those for each action
abbrev pub AreMade : EveryValue → ℕ → List RowValue → Type 0
AreMade every p rows =
    (ActionsPass every p × (rows ≡ map (unshown_row every.written) every.lines))
    ⊎ ((actions : List (List ℕ)) × AreAsked every p actions × AreJoined (AreOfAction every p) actions rows)
