-- Which texts of resources are looked at for a principal, whatever the action and whatever values the keys have that nothing gives: AWS IAM
-- User Guide, "IAM JSON policy elements: Resource" and "NotResource". LOGIC 11.6 and 11.12.
use Rattle.std.specs.Prelude.{◌≡◌, ◌⊎◌, ℕ, List, All, Contains, MatchOption, None, Option, Some, string_bytes}
use Rattle.std.specs.Arc.{arc_value}
use Rattle.std.specs.List.{slice_get}
use Rattle.iam_layers.specs.declared.unnamed.Unnamed.{Unnamed}
use Rattle.iam_every.specs.Every.{EveryValue, IsFirst, IsNamed, IsResourceText, LineValue, Says}
use Rattle.iam_open_every.specs.Lines.{AreTooMany, AsksBeyondOn}
use Rattle.iam_open_every.specs.Texts.{AreTextsTurnedAlike}
use Rattle.iam_open_every.specs.declared.spots.Spot.{Spot}

-- a text, of which this is said; or a line of which not all texts can be shown, by its pattern as it is written
pub record SpotValue : Type 0 where
  pub text : List ℕ
  pub unnamed : Option Unnamed

-- without where it lies in memory
abbrev pub spot_of : Spot → SpotValue
spot_of spot = record { text = string_bytes (arc_value spot.text); unnamed = spot.unnamed }

-- a text, of which this is said
abbrev pub text_spot : Unnamed → List ℕ → SpotValue
text_spot unnamed text = record { text = text; unnamed = Some unnamed }

-- a line that is written so, of which not all texts can be shown
abbrev pub unshown_spot : List ℕ → SpotValue
unshown_spot written = record { text = written; unnamed = None }

-- not all texts of line k can be shown where principal p asks: there are too many kinds, or a resource element asks for a key that is not known
abbrev pub IsLineUnshown : EveryValue → ℕ → ℕ → LineValue → Type 0
IsLineUnshown every p k line = AreTooMany every p k line ⊎ AsksBeyondOn every p line

-- the text is one that can be, and this is said of it
pub record IsTextSpot (every : EveryValue) (text : List ℕ) (unnamed : Unnamed) : Type 0 where
  pub says : Says every text unnamed
  pub can : IsNamed every.world text ⊎ IsResourceText text

abbrev pub IsUnshownSpot : EveryValue → ℕ → List ℕ → Type 0
IsUnshownSpot every p written =
    (k : ℕ) × (line : LineValue) × (slice_get every.lines k ≡ Some line) × (written ≡ line.text) × IsLineUnshown every p k line

abbrev pub IsSpot : EveryValue → ℕ → SpotValue → Type 0
IsSpot every p spot = MatchOption spot.unnamed (IsUnshownSpot every p spot.text) (IsTextSpot every spot.text)

-- the first line that matches the text is written so
abbrev pub IsOfLine : EveryValue → List ℕ → List ℕ → Type 0
IsOfLine every text written = (k : ℕ) × (line : LineValue) × IsFirst every.lines text k line × (written ≡ line.text)

-- the text looked at is this one, or one on which, whatever the action, the same is decided in each context in question; or the world does
-- not name this one, and its line is not shown
abbrev pub StandsFor : EveryValue → ℕ → List ℕ → Unnamed → SpotValue → Type 0
StandsFor every p text unnamed spot =
    MatchOption spot.unnamed (¬ IsNamed every.world text × IsOfLine every text spot.text)
    (λ said. (said ≡ unnamed) × ((spot.text ≡ text) ⊎ AreTextsTurnedAlike every.world p unnamed spot.text text))

-- all that is to be looked at: each text that a line speaks of has one that stands for it
pub record AreSpots (every : EveryValue) (p : ℕ) (spots : List SpotValue) : Type 0 where
  pub right : All (IsSpot every p) spots
  pub whole : (text : List ℕ) (unnamed : Unnamed) → IsResourceText text → Says every text unnamed
      → (spot : SpotValue) × Contains spots spot × StandsFor every p text unnamed spot
