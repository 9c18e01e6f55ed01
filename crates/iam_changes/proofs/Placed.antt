-- Rows by their gaps.
use Rattle.std.proofs.Common.{◌≡◌, ℕ, zero, suc, ◌+◌, ◌<◌, ◌≤◌, List, [], ◌∷◌, ◌++◌, All, get_or, length, map, refl, ap, ◌∙◌, arith}
use Rattle.std.proofs.lemmas.List.{get_or-map}
use Rattle.std.proofs.lemmas.List.Elements.{All-head, All-tail}
use Rattle.iam_tiles.specs.Code.Numbered.{no_tail, picked}
use Rattle.iam_changes.specs.Code.Kept.{cell_behind, end_of, placed}
use Rattle.iam_changes.specs.Code.Pieces.{PartValue}

-- one more row
pub placed_more : {A : Type 0} (from : ℕ) (gaps : List ℕ) (items : List A) (gap : ℕ) (item : A) → length gaps ≡ length items
    → placed from (gaps ++ gap ∷ []) (items ++ item ∷ []) ≡ placed from gaps items ++ (end_of from gaps + gap, item) ∷ []
placed_more from [] [] gap item same = refl
placed_more from [] (x ∷ items) gap item same = absurd (omega (arith, same))
placed_more from (g ∷ gaps) [] gap item same = absurd (omega (arith, same))
placed_more from (g ∷ gaps) (x ∷ items) gap item same =
    ap (λ rows. (from + g, x) ∷ rows) (placed_more (from + g + 1) gaps items gap item (omega (arith, same)))

pub end_more : (from : ℕ) (gaps : List ℕ) (gap : ℕ) → end_of from (gaps ++ gap ∷ []) ≡ end_of from gaps + gap + 1
end_more from [] gap = refl
end_more from (g ∷ gaps) gap = end_more (from + g + 1) gaps gap

-- the images of the items
pub placed_images : {A B : Type 0} (f : A → B) (from : ℕ) (gaps : List ℕ) (items : List A)
    → placed from gaps (map f items) ≡ map (λ (row : ℕ × A). (row.0, f row.1)) (placed from gaps items)
placed_images f from [] items = refl
placed_images f from (g ∷ gaps) [] = refl
placed_images f from (g ∷ gaps) (x ∷ items) = ap (λ rows. (from + g, f x) ∷ rows) (placed_images f (from + g + 1) gaps items)

pub length_placed : {A : Type 0} (from : ℕ) (gaps : List ℕ) (items : List A) → length gaps ≡ length items → length (placed from gaps items) ≡ length items
length_placed from [] [] same = refl
length_placed from [] (x ∷ items) same = absurd (omega (arith, same))
length_placed from (g ∷ gaps) [] same = absurd (omega (arith, same))
length_placed from (g ∷ gaps) (x ∷ items) same = omega (arith, length_placed (from + g + 1) gaps items (omega (arith, same)))

-- the item of a row
pub placed_item : {A : Type 0} (from : ℕ) (gaps : List ℕ) (items : List A) (i : ℕ) (d : ℕ × A) → length gaps ≡ length items → i < length items
    → (get_or (placed from gaps items) i d).1 ≡ get_or items i d.1
placed_item from [] [] i d same below = absurd (omega (arith, below))
placed_item from [] (x ∷ items) i d same below = absurd (omega (arith, same))
placed_item from (g ∷ gaps) [] i d same below = absurd (omega (arith, same))
placed_item from (g ∷ gaps) (x ∷ items) zero d same below = refl
placed_item from (g ∷ gaps) (x ∷ items) (suc i) d same below = placed_item (from + g + 1) gaps items i d (omega (arith, same)) (omega (arith, below))

-- the cell behind the row before one
abbrev pub behind : {A : Type 0} → ℕ → List (ℕ × A) → ℕ → ℕ × A → ℕ
behind from rows zero d = from
behind from rows (suc i) d = (get_or rows i d).0 + 1

pub behind_is : (part : PartValue) (i : ℕ) → cell_behind part i ≡ behind part.from part.rows i (0, no_tail)
behind_is part zero = refl
behind_is part (suc i) = refl

behind_next : {A : Type 0} (from : ℕ) (row : ℕ × A) (rows : List (ℕ × A)) (i : ℕ) (d : ℕ × A) → behind (row.0 + 1) rows i d ≡ behind from (row ∷ rows) (suc i) d
behind_next from row rows zero d = refl
behind_next from row rows (suc i) d = refl

-- the cell of a row
pub placed_cell : {A : Type 0} (from : ℕ) (gaps : List ℕ) (items : List A) (i : ℕ) (d : ℕ × A) → length gaps ≡ length items → i < length items
    → (get_or (placed from gaps items) i d).0 ≡ behind from (placed from gaps items) i d + get_or gaps i 0
placed_cell from [] [] i d same below = absurd (omega (arith, below))
placed_cell from [] (x ∷ items) i d same below = absurd (omega (arith, same))
placed_cell from (g ∷ gaps) [] i d same below = absurd (omega (arith, same))
placed_cell from (g ∷ gaps) (x ∷ items) zero d same below = refl
placed_cell from (g ∷ gaps) (x ∷ items) (suc i) d same below =
    placed_cell (from + g + 1) gaps items i d (omega (arith, same)) (omega (arith, below))
    ∙ ap (λ n. n + get_or gaps i 0) (behind_next from (from + g, x) (placed (from + g + 1) gaps items) i d)

from_end : (from : ℕ) (gaps : List ℕ) → from ≤ end_of from gaps
from_end from [] = omega arith
from_end from (g ∷ gaps) = let more = from_end (from + g + 1) gaps in omega (arith, more)

pub placed_below : {A : Type 0} (from : ℕ) (gaps : List ℕ) (items : List A) (i : ℕ) (d : ℕ × A) → length gaps ≡ length items → i < length items
    → (get_or (placed from gaps items) i d).0 < end_of from gaps
placed_below from [] [] i d same below = absurd (omega (arith, below))
placed_below from [] (x ∷ items) i d same below = absurd (omega (arith, same))
placed_below from (g ∷ gaps) [] i d same below = absurd (omega (arith, same))
placed_below from (g ∷ gaps) (x ∷ items) zero d same below = let more = from_end (from + g + 1) gaps in omega (arith, more)
placed_below from (g ∷ gaps) (x ∷ items) (suc i) d same below = placed_below (from + g + 1) gaps items i d (omega (arith, same)) (omega (arith, below))

-- the images of items that are kept once
pub picked_images : {A B : Type 0} (f : A → B) (none : A) (other : B) (items : List A) (numbers : List ℕ) → All (λ n. n < length items) numbers
    → picked other (map f items) numbers ≡ map f (picked none items numbers)
picked_images f none other items [] w = refl
picked_images f none other items (n ∷ numbers) w =
    ap (λ y. y ∷ picked other (map f items) numbers) (get_or-map f items n none other (All-head (λ k. k < length items) n numbers w))
    ∙ ap (λ ys. f (get_or items n none) ∷ ys) (picked_images f none other items numbers (All-tail (λ k. k < length items) n numbers w))
