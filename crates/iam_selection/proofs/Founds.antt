-- Rows of some cells: their cells, their tails, and those of tiles that follow one another.
use Rattle.std.proofs.Common.{◌≡◌, ℕ, zero, suc, ◌+◌, ◌<◌, Bool, List, [], ◌∷◌, ◌++◌, get_or, length, map, sum, refl, sym, ap, subst, ◌∙◌, arith}
use Rattle.std.specs.List.{AllByRecursion, AllZip, flat_map}
use Rattle.std.proofs.lemmas.List.{length-map, map-append}
use Rattle.std.proofs.lemmas.List.Concat.{flat_map-cons}
use Rattle.std.proofs.lemmas.List.Sums.{sum_by-cons}
use Rattle.iam_decision.specs.declared.verdict.Verdict.{Verdict}
use Rattle.iam_tiles.specs.Code.Numbered.{no_tail}
use Rattle.iam_row.specs.Piece.{tail_of}
use Rattle.iam_row.specs.declared.quoted.Format.{Format}
use Rattle.iam_row.specs.declared.tail.Tail.{Tail}
use Rattle.iam_world.specs.World.{WorldValue}
use Rattle.iam_matrix.specs.Code.Tiles.{Chain}
use Rattle.iam_selection.specs.Report.{AreAsked}
use Rattle.iam_selection.specs.Selection.{IsAsked, IsPassed, SelectionValue}
use Rattle.iam_selection.specs.Code.Listing.{AreFound, IsEntryOf, IsTailed, RowValue, no_row, rows_in}
use Rattle.iam_selection.proofs.Picks.{picked_both}

abbrev pub cells_of : List RowValue → List ℕ
cells_of rows = map (λ row. row.cell) rows

-- as many rows as cells, where there are as many tails
pub count_rows : (cells : List ℕ) (tails : List Tail) → length cells ≡ length tails → length (rows_in cells tails) ≡ length cells
count_rows [] tails e = refl
count_rows (cell ∷ cells) [] e = absurd (omega (arith, e))
count_rows (cell ∷ cells) (tail ∷ tails) e = let more = count_rows cells tails (omega (arith, e)) in omega (arith, more)

pub row_cells : (cells : List ℕ) (tails : List Tail) → length cells ≡ length tails → cells_of (rows_in cells tails) ≡ cells
row_cells [] tails e = refl
row_cells (cell ∷ cells) [] e = absurd (omega (arith, e))
row_cells (cell ∷ cells) (tail ∷ tails) e = ap (λ l. cell ∷ l) (row_cells cells tails (omega (arith, e)))

-- row i
pub row_at : (cells : List ℕ) (tails : List Tail) (i : ℕ) → length cells ≡ length tails → i < length cells
    → get_or (rows_in cells tails) i no_row ≡ record { cell = get_or cells i 0; tail = get_or tails i no_tail }
row_at [] tails i e h = absurd (omega (arith, h))
row_at (cell ∷ cells) [] i e h = absurd (omega (arith, e))
row_at (cell ∷ cells) (tail ∷ tails) zero e h = refl
row_at (cell ∷ cells) (tail ∷ tails) (suc i) e h = row_at cells tails i (omega (arith, e)) (omega (arith, h))

-- lists whose items belong together are as long
pub zip_count : {A B : Type 0} (R : A → B → Type 0) (xs : List A) (ys : List B) → AllZip R xs ys → length xs ≡ length ys
zip_count R [] [] z = refl
zip_count R [] (y ∷ ys) z = absurd z
zip_count R (x ∷ xs) [] z = absurd z
zip_count R (x ∷ xs) (y ∷ ys) z = let more = zip_count R xs ys z.1 in omega (arith, more)

-- the rows of cells with the tails of their entries
pub tailed_rows : (format : Format) (brief : Bool) (world : WorldValue) (cells : List ℕ) (entries : List Verdict) → AllZip (IsEntryOf brief world) cells entries
    → AllByRecursion (IsTailed format brief world) (rows_in cells (map (tail_of format brief) entries))
tailed_rows format brief world [] [] z = tt
tailed_rows format brief world [] (entry ∷ entries) z = absurd z
tailed_rows format brief world (cell ∷ cells) [] z = absurd z
tailed_rows format brief world (cell ∷ cells) (entry ∷ entries) z = ((entry, z.0, refl), tailed_rows format brief world cells entries z.1)

pub all_both : {X : Type 0} (P : X → Type 0) (xs ys : List X) → AllByRecursion P xs → AllByRecursion P ys → AllByRecursion P (xs ++ ys)
all_both P [] ys a b = b
all_both P (x ∷ xs) ys a b = (a.0, all_both P xs ys a.1 b)

-- the rows of tiles that follow one another
pub found_all : (format : Format) (brief : Bool) (selection : SelectionValue) (world : WorldValue) (from : ℕ) (lengths : List ℕ) (tiles : List (List RowValue))
    → Chain (AreFound format brief selection world) from lengths tiles → AreFound format brief selection world from (sum lengths) (flat_map (λ tile. tile) tiles)
found_all format brief selection world from [] [] c = record { picked = refl; tailed = tt }
found_all format brief selection world from [] (tile ∷ tiles) c = absurd c
found_all format brief selection world from (n ∷ lengths) [] c = absurd c
found_all format brief selection world from (n ∷ lengths) (tile ∷ tiles) c =
    let rest = found_all format brief selection world (from + n) lengths tiles c.1 in
    let others = flat_map (λ (t : List RowValue). t) tiles in
    let sums : n + sum lengths ≡ sum (n ∷ lengths) = omega (arith, sum_by-cons (λ (x : ℕ). x) n lengths) in
    let picked = picked_both (IsAsked selection world) (IsPassed selection world) from n (sum lengths) (cells_of tile) (cells_of others) c.0.picked rest.picked in
    let both : AreFound format brief selection world from (n + sum lengths) (tile ++ others) = record {
      picked = subst (AreAsked selection world from (n + sum lengths)) (sym (map-append (λ (row : RowValue). row.cell) tile others)) picked;
      tailed = all_both (IsTailed format brief world) tile others c.0.tailed rest.tailed;
    } in
    subst (λ rows. AreFound format brief selection world from (sum (n ∷ lengths)) rows) (sym (flat_map-cons (λ (t : List RowValue). t) tile tiles))
    (subst (λ k. AreFound format brief selection world from k (tile ++ others)) sums both)

-- the rows of cells that are asked for
pub found_rows : (format : Format) (brief : Bool) (selection : SelectionValue) (world : WorldValue) (from n : ℕ) (cells : List ℕ) (entries : List Verdict) (tails : List Tail)
    → AreAsked selection world from n cells → AllZip (IsEntryOf brief world) cells entries → tails ≡ map (tail_of format brief) entries
    → AreFound format brief selection world from n (rows_in cells tails)
found_rows format brief selection world from n cells entries tails are zip e =
    let count : length cells ≡ length (map (tail_of format brief) entries) =
    zip_count (IsEntryOf brief world) cells entries zip ∙ sym (length-map entries (tail_of format brief)) in
    let found : AreFound format brief selection world from n (rows_in cells (map (tail_of format brief) entries)) = record {
      picked = subst (AreAsked selection world from n) (sym (row_cells cells (map (tail_of format brief) entries) count)) are;
      tailed = tailed_rows format brief world cells entries zip;
    } in
    subst (λ ts. AreFound format brief selection world from n (rows_in cells ts)) (sym e) found
