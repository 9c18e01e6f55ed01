-- The cells of a row, and what is said of them.
use Rattle.std.proofs.Common.{◌≡◌, ℕ, ◌+◌, ◌-◌, ◌<◌, ◌≤◌, List, [], ◌∷◌, ◌++◌, length, length-append, refl, sym, ap, ◌∙◌, append-nil, append_assoc, subst, arith}
use Rattle.std.proofs.lemmas.Option.{slice_get_within}
use Rattle.iam_world.specs.World.{WorldValue}
use Rattle.iam_layers.specs.Cell.{IsCell}
use Rattle.iam_row.specs.declared.position.Position.{Position}
use Rattle.iam_matrix.specs.Code.Tiles.{Adds, AreEntries, IsOf}
use Rattle.iam_matrix.proofs.Tiles.{along_one, join_entries, no_entries}

-- a cell further along its row
pub along_row : (world : WorldValue) (cell p a r n : ℕ) → IsCell world cell p a r → r + n < length world.resources → IsCell world (cell + n) p a (r + n)
along_row world cell p a r n is below = record {
  principal = is.principal;
  action = is.action;
  resource = below;
  number = omega (arith, is.number);
}

-- nothing is said yet, and of one more
pub adds_none : {X : Type 0} (Is : ℕ → X → Type 0) (from : ℕ) (old : List X) → Adds Is from 0 old old
adds_none Is from old = ([], sym (append-nil old), no_entries Is from)

pub adds_one : {X : Type 0} (Is : ℕ → X → Type 0) (from n : ℕ) (old mid new : List X) (entry : X) → Adds Is from n old mid → Is (from + n) entry
    → new ≡ mid ++ entry ∷ [] → Adds Is from (n + 1) old new
adds_one {X} Is from n old mid new entry (more, behind, are) is next =
    let one : AreEntries Is (from + n) 1 (entry ∷ []) = record { count_is = refl; each = along_one Is (from + n) entry is } in (
      more ++ entry ∷ [],
      next ∙ ap (λ (es : List X). es ++ entry ∷ []) behind ∙ append_assoc old more (entry ∷ []),
      join_entries Is from n 1 more (entry ∷ []) are one,
    )

-- what is said of requests of a row is said of their cells
pub row_entries : {X : Type 0} (Is : WorldValue → ℕ → ℕ → ℕ → X → Type 0) (world : WorldValue) (at : Position) (count from : ℕ) (old new : List X)
    → IsCell world at.cell at.principal at.action at.resource → at.resource + count ≤ length world.resources → from ≤ at.cell
    → AreEntries (IsOf Is world) from (at.cell - from) old → Adds (Is world at.principal at.action) at.resource count old new
    → AreEntries (IsOf Is world) from (at.cell + count - from) new
row_entries {X} Is world at count from old new is row least so_far (more, behind, are) =
    let Of : ℕ → X → Type 0 = IsOf Is world in
    let here : at.cell ≡ from + (at.cell - from) = omega (arith, least) in
    let many : at.cell - from + count ≡ at.cell + count - from = omega (arith, least) in
    let next : AreEntries Of at.cell count more = record {
      count_is = are.count_is;
      each = λ i entry there.
          let within = slice_get_within more i entry there in
          let below : at.resource + i < length world.resources = omega (arith, row, within, are.count_is) in
          (at.principal, at.action, at.resource + i, along_row world at.cell at.principal at.action at.resource i is below, are.each i entry there);
    } in
    let F : ℕ → Type 0 = λ k. AreEntries Of k count more in
    let N : ℕ → Type 0 = λ k. AreEntries Of from k (old ++ more) in
    let E : List X → Type 0 = λ es. AreEntries Of from (at.cell + count - from) es in
    subst E (sym behind) (subst N many (join_entries Of from (at.cell - from) count old more so_far (subst F here next)))

pub adds_length : {X : Type 0} (Is : ℕ → X → Type 0) (from count : ℕ) (old new : List X) → Adds Is from count old new → length new ≡ length old + count
adds_length Is from count old new (more, behind, are) = omega (arith, ap length behind, length-append old more, are.count_is)
