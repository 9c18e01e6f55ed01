-- Which rows answer for a principal what is asked of all names, whatever values the keys have that nothing gives, as one list: for one
-- action after the other one row for each text that is looked at. AWS IAM User Guide, "Policy evaluation logic". LOGIC 11.6 and 11.12.
use Rattle.std.specs.Prelude.{◌≡◌, ◌⊎◌, ◌++◌, ◌∷◌, [], ℕ, Any, Bool, List, MatchOption, None, Option, Some, codes, length, map}
use Rattle.std.specs.List.{AllZip, range_with_len, slice_get}
use Rattle.std.specs.Str.{chars}
use Rattle.iam_glob.specs.Glob.{Matches}
use Rattle.iam_decision.specs.Matched.{Selects}
use Rattle.iam_layers.specs.Cell.{IsResource}
use Rattle.iam_layers.specs.declared.unnamed.Unnamed.TheVariants.{Like}
use Rattle.iam_every.specs.Every.{ActionsPass, EveryValue, IsFirst, IsMatched, IsNamed, LineValue}
use Rattle.iam_every.specs.Made.{AreAsked}
use Rattle.iam_open_every.specs.Lines.{AreShownBy}
use Rattle.iam_open_every.specs.Row.{RowValue}
use Rattle.iam_open_every.specs.Said.{AreSaidOf}
use Rattle.iam_open_every.specs.Spots.{IsLineUnshown, SpotValue, text_spot, unshown_spot}
use Rattle.iam_open_every.specs.declared.said.Said.{Said}

-- those of each member, one behind the other
abbrev pub AreJoined : {X Y : Type 0} → (X → List Y → Type 0) → List X → List Y → Type 0
AreJoined Made [] all = all ≡ []
AreJoined Made (x ∷ xs) all = (one rest : List _) × Made x one × AreJoined Made xs rest × (all ≡ one ++ rest)

-- ---- the texts that are looked at
-- of resource r of the world: its text, and that what has it is like that resource
abbrev pub IsOfResource : EveryValue → ℕ → SpotValue → Type 0
IsOfResource every r spot = IsResource every.world r (λ resource. spot ≡ text_spot (Like r) resource.arn)

-- of the resources of the world that some line matches, one of each, in order
abbrev pub AreOfWorld : EveryValue → List SpotValue → Type 0
AreOfWorld every spots =
    (matched : List ℕ) × Selects (IsMatched every.world every.lines) (range_with_len 0 (length every.world.resources)) matched
    × AllZip (IsOfResource every) matched spots

-- of `*`, if some line matches it and no resource of the world has it: what the first such line says; else none
abbrev pub AreOfStar : EveryValue → List SpotValue → Type 0
AreOfStar every spots =
    (¬ IsNamed every.world (codes "*")
    × ((k : ℕ) × (line : LineValue) × IsFirst every.lines (codes "*") k line × (spots ≡ text_spot line.unnamed (codes "*") ∷ [])))
    ⊎ ((IsNamed every.world (codes "*") ⊎ ¬ Any (λ line. Matches line.pattern (chars (codes "*"))) every.lines) × (spots ≡ []))

-- of line k: one that says that not all its texts can be shown, or one for each text that is shown, in order
abbrev pub AreOfLine : EveryValue → ℕ → ℕ → List SpotValue → Type 0
AreOfLine every p k spots =
    (line : LineValue) × (slice_get every.lines k ≡ Some line)
    × ((IsLineUnshown every p k line × (spots ≡ unshown_spot line.text ∷ []))
    ⊎ ((texts : List (List ℕ)) × AreShownBy every p k line texts × (spots ≡ map (text_spot line.unnamed) texts)))

-- all that are looked at, in order
pub record AreLookedAt (every : EveryValue) (p : ℕ) (spots : List SpotValue) : Type 0 where
  pub named : List SpotValue
  pub are_named : AreOfWorld every named
  pub star : List SpotValue
  pub is_star : AreOfStar every star
  pub lined : List SpotValue
  pub are_lined : AreJoined (AreOfLine every p) (range_with_len 0 (length every.lines)) lined
  pub are : spots ≡ (named ++ star) ++ lined

-- ---- rows
-- a row that says that the line cannot be shown for this action
abbrev pub unshown_row : List ℕ → LineValue → RowValue
unshown_row action line = record { action = action; resource = line.text; said = None }

-- this is said of the request for the action on the text that is looked at; nothing where there is none
abbrev pub IsSaidAt : Bool → EveryValue → ℕ → List ℕ → SpotValue → Option Said → Type 0
IsSaidAt brief every p action spot said =
    MatchOption spot.unnamed (said ≡ None)
    (λ unnamed. (is : Said) × (said ≡ Some is) × AreSaidOf brief every.world p unnamed action spot.text is)

-- the row is that of the action and the text that is looked at
pub record IsRowOn (brief : Bool) (every : EveryValue) (p : ℕ) (action : List ℕ) (spot : SpotValue) (row : RowValue) : Type 0 where
  pub for_action : row.action ≡ action
  pub for_text : row.resource ≡ spot.text
  pub is : IsSaidAt brief every p action spot row.said

-- the rows for an action: one for each of these texts, in order
abbrev pub AreOfAction : Bool → EveryValue → ℕ → List SpotValue → List ℕ → List RowValue → Type 0
AreOfAction brief every p spots action rows = AllZip (IsRowOn brief every p action) spots rows

-- the rows of principal p: one for each line, if the actions are too many; or those for one action after the other
abbrev pub AreMade : Bool → EveryValue → ℕ → List RowValue → Type 0
AreMade brief every p rows =
    (ActionsPass every p × (rows ≡ map (unshown_row every.written) every.lines))
    ⊎ ((actions : List (List ℕ)) × AreAsked every p actions
    × ((spots : List SpotValue) × AreLookedAt every p spots × AreJoined (AreOfAction brief every p spots) actions rows))
