-- What the requests of pairs of a principal and a resource share, found before any cell is decided. LOGIC 1.1.
use Rattle.std.specs.Prelude.{◌≡◌, ◌+◌, ◌/◌, ◌%◌, ℕ, List, Some, length}
use Rattle.std.specs.List.{slice_get}
use Rattle.iam_decision.specs.Living.{SharedValue}
use Rattle.iam_layers.specs.Cell.{IsSharedAt}
use Rattle.iam_world.specs.World.{WorldValue}

-- the requests of the pair of this number share this: pairs are numbered by principals, then by resources
abbrev pub IsSharedBy : WorldValue → ℕ → SharedValue → Type 0
IsSharedBy world pair shared = IsSharedAt world (pair / length world.resources) (pair % length world.resources) shared

-- this is found under the number
abbrev pub IsClass : List SharedValue → ℕ → (SharedValue → Type 0) → Type 0
IsClass classes n P = (shared : SharedValue) × (slice_get classes n ≡ Some shared) × P shared

-- each of these is the number of what the requests of its pair share, of the pairs from this one on
abbrev pub AreClassesOf : WorldValue → ℕ → List SharedValue → List ℕ → Type 0
AreClassesOf world from classes numbers = (i n : ℕ) → slice_get numbers i ≡ Some n → IsClass classes n (IsSharedBy world (from + i))

-- all of these are of the world
abbrev pub AreOf : WorldValue → List WorldValue → Type 0
AreOf world worlds = (i : ℕ) (other : WorldValue) → slice_get worlds i ≡ Some other → other ≡ world
