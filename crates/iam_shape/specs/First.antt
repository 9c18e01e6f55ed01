-- The first element of a list of which something holds, and the path at which it stands in a world document.
-- LOGIC 12.3.
use Rattle.std.specs.Prelude.{◌≡◌, ◌⊎◌, ℕ, List, [], ◌∷◌, map}
use Rattle.std.specs.List.{enumerate_from}
use Rattle.iam_shape.specs.declared.path.Path.{Path}

-- x is the first element of which P holds
abbrev pub IsFirst : {X : Type 0} → (X → Type 0) → List X → X → Type 0
IsFirst P [] x = ⊥
IsFirst P (y ∷ ys) x = (P y × (x ≡ y)) ⊎ ((¬ P y) × IsFirst P ys x)

-- the elements of a list, each at the path of its number, numbered from i
abbrev pub with_paths : {X : Type 0} → (ℕ → Path) → ℕ → List X → List (Path × X)
with_paths at i xs = map (λ x. (at x.0, x.1)) (enumerate_from i xs)

-- the first element of which P holds stands at this path
abbrev pub IsFirstAt : {X : Type 0} → (X → Type 0) → List (Path × X) → Path → Type 0
IsFirstAt {X} P xs path = (x : X) × IsFirst (λ (y : Path × X). P y.1) xs (path, x)
