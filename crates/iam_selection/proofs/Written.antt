-- The text of a report of some cells, in parts.
use Rattle.std.proofs.Common.{◌≡◌, ℕ, ◌+◌, ◌<◌, List, [], ◌∷◌, ◌++◌, drop, get_or, length, take, refl, sym, ap, ◌∙◌, arith}
use Rattle.std.specs.List.{flat_map}
use Rattle.std.proofs.lemmas.Grind.{flat_map-append}
use Rattle.std.proofs.lemmas.List.Concat.{flat_map-cons}
use Rattle.iam_row.specs.Piece.{closing_text, opening_text}
use Rattle.iam_row.specs.declared.quoted.Quoted.{Quoted}
use Rattle.iam_report.proofs.Buffered.{flat_map_at}
use Rattle.iam_selection.specs.Code.Listing.{ListValue, RowValue, lead_of, list_text, no_row, row_text, rows_text}

-- the rows of all tiles
abbrev pub all_rows : List (List RowValue) → List RowValue
all_rows tiles = flat_map (λ tile. tile) tiles

-- their text is that of each tile, one behind the other
pub tiles_text : (quoted : Quoted) (lead : ℕ) (tiles : List (List RowValue)) → flat_map (rows_text quoted lead) tiles ≡ rows_text quoted lead (all_rows tiles)
tiles_text quoted lead [] = refl
tiles_text quoted lead (tile ∷ tiles) =
    flat_map-cons (rows_text quoted lead) tile tiles ∙ ap (λ t. rows_text quoted lead tile ++ t) (tiles_text quoted lead tiles)
    ∙ sym (flat_map-append (row_text quoted lead) tile (all_rows tiles)) ∙ ap (rows_text quoted lead) (sym (flat_map-cons (λ (t : List RowValue). t) tile tiles))

pub text_parts : (list whole : ListValue) (rows : List RowValue) (lead : ℕ) (front : List ℕ) → list ≡ whole → rows ≡ list.rows → lead ≡ lead_of list.rows
    → front ≡ opening_text list.quoted.format list.brief → list_text whole ≡ front ++ (rows_text list.quoted lead rows ++ closing_text list.quoted.format)
text_parts list whole rows lead front is e first opens =
    let rest : ℕ → List RowValue → List ℕ = λ l rs. rows_text list.quoted l rs ++ closing_text list.quoted.format in
    ap list_text (sym is) ∙ ap (λ t. t ++ rest (lead_of list.rows) list.rows) (sym opens) ∙ ap (λ l. front ++ rest l list.rows) (sym first)
    ∙ ap (λ rs. front ++ rest lead rs) (sym e)

-- the cell of the first row, where the tiles before this one have none
pub lead_at : (tiles : List (List RowValue)) (i : ℕ) (tile : List RowValue) → i < length tiles → tile ≡ get_or tiles i tile → all_rows (take i tiles) ≡ []
    → 0 < length tile → (get_or tile 0 no_row).cell ≡ lead_of (all_rows tiles)
lead_at tiles i tile inside is none some =
    let rest = all_rows (drop (i + 1) tiles) in
    let parts : all_rows tiles ≡ tile ++ rest =
    flat_map_at (λ (t : List RowValue). t) tiles i tile inside ∙ ap (λ rows. rows ++ (get_or tiles i tile ++ rest)) none ∙ ap (λ rows. rows ++ rest) (sym is) in
    first_of tile rest some ∙ ap lead_of (sym parts)
  where
    first_of : (rows rest : List RowValue) → 0 < length rows → (get_or rows 0 no_row).cell ≡ lead_of (rows ++ rest)
    first_of [] rest h = absurd (omega (arith, h))
    first_of (row ∷ rows) rest h = refl
