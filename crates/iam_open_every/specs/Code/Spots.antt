-- Texts that are looked at, as they are collected.
use Rattle.std.specs.Prelude.{ℕ, All, Contains, List}
use Rattle.iam_layers.specs.declared.unnamed.Unnamed.{Unnamed}
use Rattle.iam_every.specs.Every.{EveryValue, IsResourceText, Says}
use Rattle.iam_open_every.specs.Spots.{IsSpot, SpotValue, StandsFor}

-- those of the texts of which P holds together with what is said of them
pub record AreSpotsOn (every : EveryValue) (p : ℕ) (P : List ℕ → Unnamed → Type 0) (spots : List SpotValue) : Type 0 where
  pub right : All (IsSpot every p) spots
  pub whole : (text : List ℕ) (unnamed : Unnamed) → IsResourceText text → Says every text unnamed → P text unnamed
      → (spot : SpotValue) × Contains spots spot × StandsFor every p text unnamed spot
