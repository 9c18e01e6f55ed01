-- The search for the first allowed cell.
use Rattle.std.proofs.Common.{◌≡◌, ◌≤◌, ℕ, ◌+◌, List, [], ◌∷◌, ◌++◌, Option, Some, None, IfSome, All, sum, sym, subst, arith, ⊎_elim}
use Rattle.std.proofs.lemmas.Bool.{cases_lt}
use Rattle.std.proofs.lemmas.List.Elements.{All-nil, All-append, All-cons}
use Rattle.std.proofs.lemmas.List.Sums.{sum_by-cons}
use Rattle.iam_crew.specs.Bound.{bound_of}
use Rattle.iam_world.specs.World.{WorldValue, world_cells}
use Rattle.iam_matrix.specs.Code.Tiles.{AreNotAllowedBelow, Chain, IsAllowedCell, IsFirstIn}

-- the offers after an offer
pub offered_more : (P : ℕ → Type 0) (old new : List ℕ) (cell : ℕ) → new ≡ old ++ cell ∷ [] → All P old → P cell → All P new
offered_more P old new cell e all one = subst (λ os. All P os) (sym e) (All-append P old (cell ∷ []) all (All-cons P cell [] one (All-nil P)))

-- the cells of all tiles
not_allowed : {O : Type 0} (Asked : ℕ → Type 0) (world : WorldValue) (bound from : ℕ) (lengths : List ℕ) (outputs : List O)
    → Chain (λ f n output. AreNotAllowedBelow Asked world f n bound) from lengths outputs → AreNotAllowedBelow Asked world from (sum lengths) bound
not_allowed Asked world bound from [] outputs c cell least most below = absurd (omega arith)
not_allowed Asked world bound from (n ∷ lengths) [] c cell least most below = absurd c
not_allowed Asked world bound from (n ∷ lengths) (output ∷ outputs) c cell least most below =
    ⊎_elim (λ here. c.0 cell least here below)
    (λ past. not_allowed Asked world bound (from + n) lengths outputs c.1 cell past (omega (arith, sum_by-cons (λ (x : ℕ). x) n lengths)) below)
    (cases_lt cell (from + n))

-- the least offer in the end
pub first_allowed : {O : Type 0} (Asked : ℕ → Type 0) (world : WorldValue) (lengths : List ℕ) (outputs : List O) (low : Option ℕ)
    → sum lengths ≡ world_cells world → world_cells world ≤ 16777216
    → Chain (λ f n output. AreNotAllowedBelow Asked world f n (bound_of low)) 0 lengths outputs → IfSome low (IsAllowedCell Asked world)
    → IsFirstIn Asked world 0 (world_cells world) low
first_allowed Asked world lengths outputs None e few c offered = λ cell least below.
    not_allowed Asked world (bound_of None) 0 lengths outputs c cell least (omega (arith, e)) (omega arith)
first_allowed Asked world lengths outputs (Some found) e few c offered = (
  offered,
  (let below = offered.below in omega arith),
  λ lower least less. let below = offered.below in not_allowed Asked world found 0 lengths outputs c lower least (omega (arith, e)) less,
)
