-- Slots, each of which may keep something. LOGIC 1.1.
use Rattle.std.specs.Prelude.{◌≡◌, ◌⊎◌, ℕ, List, Option, Some}
use Rattle.std.specs.List.{slice_get}

-- the slot keeps this
abbrev pub Keeps : {T : Type 0} → List (Option T) → ℕ → T → Type 0
Keeps slots i kept = slice_get slots i ≡ Some (Some kept)

-- everything that is kept has the property
abbrev pub AllAre : {T : Type 0} → (T → Type 0) → List (Option T) → Type 0
AllAre {T} P slots = (i : ℕ) (kept : T) → Keeps slots i kept → P kept

-- nothing is kept
abbrev pub AreEmpty : {T : Type 0} → List (Option T) → Type 0
AreEmpty {T} slots = (i : ℕ) (kept : T) → ¬ Keeps slots i kept

-- nothing more is kept, but this
abbrev pub GainsOnly : {T : Type 0} → List (Option T) → List (Option T) → T → Type 0
GainsOnly {T} old new more = (i : ℕ) (kept : T) → Keeps new i kept → (kept ≡ more) ⊎ Keeps old i kept
