-- The numbers of cells.
use Rattle.std.proofs.Common.{◌≡◌, List, ℕ, suc, zero, ◌+◌, ◌*◌, ◌/◌, ◌%◌, ◌<◌, length, sym, ap, ◌∙◌, subst, arith}
use Rattle.std.proofs.Math.Nat.{div-lt_iff_lt-mul, mul-add-div_right, div-eq_of_lt, div-add-mod, mod-lt, mul_comm, mul-zero}
use Rattle.std.proofs.lemmas.Option.{get_or_from_slice_get, slice_get_within}
use Rattle.std.specs.List.{Contains}
use Rattle.iam_world.specs.World.{WorldValue}
use Rattle.iam_layers.specs.Cell.{IsAction}
use Rattle.iam_layers.specs.Laws

-- the row of a place in rows of n places
row_of : (n i j : ℕ) → j < n → (i * n + j) / n ≡ i
row_of n i j place =
    let some : 0 < n = omega arith in mul-add-div_right some i j ∙ ap (λ k. i + k) (div-eq_of_lt place) ∙ (omega arith)

-- a place in one of m rows of n places
row_below : (m n i j : ℕ) → i < m → j < n → i * n + j < m * n
row_below m n i j row place =
    let some : 0 < n = omega arith in
    (div-lt_iff_lt-mul some).0 (subst (λ k. k < m) (sym (row_of n i j place)) row)

-- the number of a cell is below that of all
pub cell_below : (P A R p a r : ℕ) → p < P → a < A → r < R → (p * A + a) * R + r < P * A * R
cell_below P A R p a r principal action resource = row_below (P * A) R (p * A + a) r (row_below P A p a principal action) resource

some_factor : (m n k : ℕ) → k < m * n → 0 < n
some_factor m zero k below = let none : m * zero ≡ 0 = mul-zero m in absurd (omega arith)
some_factor m (suc n) k below = omega arith

-- the parts of the number of a cell
pub cell_parts : (P A R cell : ℕ) → cell < P * A * R
    → (cell / R / A < P) × (cell / R % A < A) × (cell % R < R) × (cell ≡ (cell / R / A * A + cell / R % A) * R + cell % R)
cell_parts P A R cell below =
    let resources : 0 < R = some_factor (P * A) R cell below in
    let row : cell / R < P * A = (div-lt_iff_lt-mul resources).1 below in
    let actions : 0 < A = some_factor P A (cell / R) row in
    let rows : cell / R / A * A + cell / R % A ≡ cell / R =
    ap (λ k. k + cell / R % A) (mul_comm (cell / R / A) A) ∙ div-add-mod (cell / R) A in
    let whole : cell / R * R + cell % R ≡ cell = ap (λ k. k + cell % R) (mul_comm (cell / R) R) ∙ div-add-mod cell R in (
      (div-lt_iff_lt-mul actions).1 row,
      mod-lt (cell / R) actions,
      mod-lt cell resources,
      sym (ap (λ k. k * R + cell % R) rows ∙ whole),
    )

-- a place in rows of n places has one row and one number there
same_place : (n i j k l : ℕ) → j < n → l < n → i * n + j ≡ k * n + l → (i ≡ k) × (j ≡ l)
same_place n i j k l here there e =
    let row : i ≡ k = sym (row_of n i j here) ∙ ap (λ m. m / n) e ∙ row_of n k l there in
    let rows : i * n ≡ k * n = ap (λ m. m * n) row in (row, omega arith)

pub some_triple : Laws.SomeTriple
some_triple world cell below =
    let parts = cell_parts (length world.principals) (length world.actions) (length world.resources) cell below in
    let p = cell / length world.resources / length world.actions in
    let a = cell / length world.resources % length world.actions in
    (p, a, cell % length world.resources, record { principal = parts.0; action = parts.1; resource = parts.2; number = parts.3 })

pub one_triple : Laws.OneTriple
one_triple world cell p a r q b s here there =
    let m = length world.actions in
    let n = length world.resources in
    let outer = same_place n (p * m + a) r (q * m + b) s here.resource there.resource (sym here.number ∙ there.number) in
    let inner = same_place m p a q b here.action there.action outer.0 in
    (inner.0, inner.1, outer.1)

-- an action of the world is one of its actions
pub is_asked : (world : WorldValue) (a : ℕ) (text : List ℕ) → IsAction world a text → Contains world.actions text
is_asked world a text at = (a, slice_get_within world.actions a text at, get_or_from_slice_get world.actions a text text at)
