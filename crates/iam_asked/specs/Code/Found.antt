-- Maps from the texts of a world to their places.
use Rattle.std.specs.Prelude.{◌≡◌, ◌⊎◌, ◌≤◌, ℕ, List, true, false, Option, Some, None, String, MatchBool, map}
use Rattle.std.specs.Borrow.{Bor}
use Rattle.std.specs.HashMap.{HashMap, get_by, get_by_text}
use Rattle.std.specs.Str.{bytes_eq}
use Rattle.std.specs.declared.alloc.Global.{Global}
use Rattle.std.specs.declared.hash.BuildHasherDefault.{BuildHasherDefault}
use Rattle.std.specs.declared.hash.FoldHasher.{FoldHasher}
use Rattle.iam_world.specs.World.{WorldValue}
use Rattle.iam_asked.specs.Fault.{SaidHasFault, line_number_of}
use Rattle.iam_asked.specs.Said.{SaidValue}
use Rattle.iam_asked.specs.Texts.{IsActionAt, IsFirstAt, IsNowhere, IsOnlyAt, IsTwice, folded, principal_texts, resource_texts}
use Rattle.iam_asked.specs.declared.fault.LineFault.{LineFault}
use Rattle.iam_asked.specs.declared.asked.Asked.{Asked}
use Rattle.iam_asked.specs.declared.places.Place.{Place}

-- maps to places, from texts that are lent, and from texts of their own
abbrev pub Places : Type 0
Places = HashMap (Bor (List ℕ)) Place (BuildHasherDefault FoldHasher)

abbrev pub OwnedPlaces : Type 0
OwnedPlaces = HashMap (String Global) Place (BuildHasherDefault FoldHasher)

-- the place of a text among others, or that it is none of them
abbrev pub IsPlaceOf : List (List ℕ) → List ℕ → Option Place → Type 0
IsPlaceOf texts text None = IsNowhere texts text
IsPlaceOf texts text (Some place) =
    IsFirstAt texts text place.first × MatchBool place.again (IsTwice texts text) (IsOnlyAt texts text place.first)

-- a text that stands at n, and maybe at a place before
abbrev pub place_behind : Option Place → ℕ → Place
place_behind None n = record { first = n; again = false }
place_behind (Some place) n = record place { again = true }

-- a map has the places of these texts
abbrev pub ArePlaces : List (List ℕ) → Places → Type 0
ArePlaces texts places = (text : List ℕ) → IsPlaceOf texts text (get_by (λ k. bytes_eq text k.now) places)

abbrev pub AreOwnedPlaces : List (List ℕ) → OwnedPlaces → Type 0
AreOwnedPlaces texts places = (text : List ℕ) → IsPlaceOf texts text (get_by_text places text)

-- the maps that a finder keeps
pub record HasPlaces (world : WorldValue) (principals actions : Places) (folds : OwnedPlaces) (resources : Places) : Type 0 where
  pub principals_are : ArePlaces (principal_texts world) principals
  pub actions_are : ArePlaces world.actions actions
  pub folds_are : AreOwnedPlaces (map folded world.actions) folds
  pub resources_are : ArePlaces (resource_texts world) resources

-- the only place, or one of two faults
abbrev pub IsOnlyOr : LineFault → LineFault → List (List ℕ) → List ℕ → LineFault → Type 0
IsOnlyOr none several texts text fault = ((fault ≡ none) × IsNowhere texts text) ⊎ ((fault ≡ several) × IsTwice texts text)

-- the numbers of what a line says
pub record HasNumbers (world : WorldValue) (said : SaidValue) (asked : Asked) : Type 0 where
  pub principal : IsOnlyAt (principal_texts world) said.principal asked.principal
  pub action : IsActionAt world.actions said.action asked.action
  pub resource : IsOnlyAt (resource_texts world) said.resource asked.resource

-- the least fault of what a line says
pub record IsSaidFault (world : WorldValue) (said : SaidValue) (fault : LineFault) : Type 0 where
  pub holds : SaidHasFault world said fault
  pub least : (other : LineFault) → SaidHasFault world said other → line_number_of fault ≤ line_number_of other
