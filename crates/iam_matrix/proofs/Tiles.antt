-- What is made of tiles that follow one another, put together.
use Rattle.std.proofs.Common.{◌≡◌, ◌≤◌, ℕ, zero, suc, ◌+◌, ◌-◌, List, [], ◌∷◌, ◌++◌, Some, length, take, get_or, sum, refl, sym, ap, ◌∙◌, subst, arith}
use Rattle.std.specs.List.{flat_map, slice_get}
use Rattle.std.proofs.lemmas.List.{length-append}
use Rattle.std.proofs.lemmas.List.Concat.{flat_map-cons}
use Rattle.std.proofs.lemmas.List.Sums.{sum_by-cons}
use Rattle.iam_world.specs.World.{WorldValue, world_cells}
use Rattle.iam_matrix.specs.Cut.{start_of}
use Rattle.iam_matrix.specs.Matrix.{IsMatrix}
use Rattle.iam_matrix.specs.Code.Tiles.{AreEntries, Chain}

-- facts of items that follow one another from a number on
abbrev Along : {X : Type 0} → (ℕ → X → Type 0) → ℕ → List X → Type 0
Along P from xs = (i : ℕ) (x : _) → slice_get xs i ≡ Some x → P (from + i) x

along_append : {X : Type 0} (P : ℕ → X → Type 0) (from : ℕ) (xs ys : List X) → Along P from xs → Along P (from + length xs) ys → Along P from (xs ++ ys)
along_append P from [] ys a b i x at =
    let same : from + 0 + i ≡ from + i = omega arith in subst (λ k. P k x) same (b i x at)
along_append P from (z ∷ xs) ys a b zero x at = a zero x at
along_append P from (z ∷ xs) ys a b (suc i) x at =
    let same : from + 1 + i ≡ from + suc i = omega arith in
    subst (λ k. P k x) same
    (along_append P (from + 1) xs ys
    (λ j y here. let back : from + suc j ≡ from + 1 + j = omega arith in subst (λ k. P k y) back (a (suc j) y here))
    (λ j y here. let back : from + suc (length xs) + j ≡ from + 1 + length xs + j = omega arith in subst (λ k. P k y) back (b j y here)) i x at)

pub along_one : {X : Type 0} (P : ℕ → X → Type 0) (from : ℕ) (x : X) → P from x → Along P from (x ∷ [])
along_one P from x h zero y at = let same : x ≡ y = cc in let here : from ≡ from + 0 = omega arith in subst (λ k. P k y) here (subst (P from) same h)
along_one P from x h (suc i) y at = absurd (let wrong : ⊥ = cc in wrong)

-- entries of cells, and of those behind them
pub join_entries : {X : Type 0} (Is : ℕ → X → Type 0) (from n m : ℕ) (xs ys : List X) → AreEntries Is from n xs → AreEntries Is (from + n) m ys
    → AreEntries Is from (n + m) (xs ++ ys)
join_entries Is from n m xs ys a b = record {
  count_is = length-append xs ys ∙ ap (λ k. k + length ys) a.count_is ∙ ap (λ k. n + k) b.count_is;
  each = along_append Is from xs ys a.each (let P : ℕ → Type 0 = λ k. Along Is (from + k) ys in subst P (sym a.count_is) b.each);
}

pub no_entries : {X : Type 0} (Is : ℕ → X → Type 0) (from : ℕ) → AreEntries Is from 0 []
no_entries Is from = record {
  count_is = refl;
  each = λ i entry at. absurd (let wrong : ⊥ = cc in wrong);
}

-- the entry of the next cell
pub more_entries : {X : Type 0} (Is : ℕ → X → Type 0) (from cell : ℕ) (xs : List X) (x : X) → from ≤ cell → AreEntries Is from (cell - from) xs → Is cell x
    → AreEntries Is from (cell + 1 - from) (xs ++ x ∷ [])
more_entries Is from cell xs x least a v =
    let here : cell ≡ from + (cell - from) = omega arith in
    let count : cell - from + 1 ≡ cell + 1 - from = omega arith in
    let one : AreEntries Is (from + (cell - from)) 1 (x ∷ []) = record {
      count_is = refl;
      each = along_one Is (from + (cell - from)) x (subst (λ k. Is k x) here v);
    } in
    subst (λ n. AreEntries Is from n (xs ++ x ∷ [])) count (join_entries Is from (cell - from) 1 xs (x ∷ []) a one)

-- what is made of each tile by its number is made of tiles that follow one another
pub chain : {O : Type 0} (Makes : ℕ → ℕ → O → Type 0) (from : ℕ) (lengths : List ℕ) (outputs : List O) → length outputs ≡ length lengths
    → ((tile : ℕ) (output : O) → slice_get outputs tile ≡ Some output → Makes (from + start_of lengths tile) (get_or lengths tile 0) output)
    → Chain Makes from lengths outputs
chain Makes from [] [] e given = tt
chain Makes from [] (output ∷ outputs) e given = absurd (omega (arith, e))
chain Makes from (n ∷ lengths) [] e given = absurd (omega (arith, e))
chain Makes from (n ∷ lengths) (output ∷ outputs) e given = (
  (let same : from + 0 ≡ from = omega arith in subst (λ k. Makes k n output) same (given zero output refl)),
  chain Makes (from + n) lengths outputs (omega (arith, e))
      (λ tile o at.
      let same : from + start_of (n ∷ lengths) (suc tile) ≡ from + n + start_of lengths tile = omega (arith, sum_by-cons (λ (x : ℕ). x) n (take tile lengths)) in
      subst (λ k. Makes k (get_or lengths tile 0) o) same (given (suc tile) o at)),
)

pub chain_entries : {O X : Type 0} (Is : ℕ → X → Type 0) (items : O → List X) (from : ℕ) (lengths : List ℕ) (outputs : List O)
    → Chain (λ f n output. AreEntries Is f n (items output)) from lengths outputs → AreEntries Is from (sum lengths) (flat_map items outputs)
chain_entries Is items from [] [] c = no_entries Is from
chain_entries Is items from [] (output ∷ outputs) c = absurd c
chain_entries Is items from (n ∷ lengths) [] c = absurd c
chain_entries {O} {X} Is items from (n ∷ lengths) (output ∷ outputs) c =
    let rest = chain_entries Is items (from + n) lengths outputs c.1 in
    let all = join_entries Is from n (sum lengths) (items output) (flat_map items outputs) c.0 rest in
    let sums : n + sum lengths ≡ sum (n ∷ lengths) = omega (arith, sum_by-cons (λ (x : ℕ). x) n lengths) in
    let P : ℕ → Type 0 = λ k. AreEntries Is from k (items output ++ flat_map items outputs) in
    let Q : List X → Type 0 = λ xs. AreEntries Is from (sum (n ∷ lengths)) xs in
    subst Q (sym (flat_map-cons items output outputs)) (subst P sums all)

-- the entries of all cells
pub whole : {X : Type 0} (Is : WorldValue → ℕ → X → Type 0) (world : WorldValue) (lengths : List ℕ) (entries : List X) → sum lengths ≡ world_cells world
    → AreEntries (Is world) 0 (sum lengths) entries → IsMatrix Is world entries
whole Is world lengths entries e a = record { count = a.count_is ∙ e; each = a.each }

-- the same from the first cell on
pub chain_all : {O : Type 0} (Makes : ℕ → ℕ → O → Type 0) (lengths : List ℕ) (outputs : List O) → length outputs ≡ length lengths
    → ((tile : ℕ) (output : O) → slice_get outputs tile ≡ Some output → Makes (start_of lengths tile) (get_or lengths tile 0) output)
    → Chain Makes 0 lengths outputs
chain_all Makes lengths outputs e given =
    chain Makes 0 lengths outputs e
    (λ tile output at. let same : start_of lengths tile ≡ 0 + start_of lengths tile = omega arith in
    subst (λ k. Makes k (get_or lengths tile 0) output) same (given tile output at))
