-- The text of rows that follow one another, in parts.
use Rattle.std.proofs.Common.{◌≡◌, ℕ, ◌+◌, ◌<◌, ◌≤◌, List, [], ◌∷◌, ◌++◌, Option, drop, get_or, length, take, refl, sym, ap, ◌∙◌, subst, arith, append_assoc, append-nil, take-append-drop}
use Rattle.std.specs.List.{flat_map}
use Rattle.std.proofs.lemmas.List.{drop_more, length-append, length-take-le, take_more}
use Rattle.iam_row.specs.Piece.{closing_text, comma_before, opening_text, row_at, row_text}
use Rattle.iam_row.specs.Report.{CellTexts}
use Rattle.iam_row.specs.declared.position.Position.{Position}
use Rattle.iam_row.specs.declared.quoted.Format.{Format}
use Rattle.iam_row.specs.declared.quoted.Format.TheVariants.{Csv, Json}
use Rattle.iam_row.specs.declared.quoted.Quoted.{Quoted}
use Rattle.iam_row.specs.declared.tail.Tail.{Tail}
use Rattle.iam_tiles.specs.Code.Numbered.{no_tail}
use Rattle.iam_report.specs.Code.Buffer.{Passes}
use Rattle.iam_report.specs.Code.Line.{row_behind, text_behind}
use Rattle.iam_report.specs.Streams.{AppendsBeginning}
use Rattle.iam_report.proofs.Buffered.{flat_map_at, flat_map_next, passes_both, passes_fails_more}
use Rattle.iam_asked.specs.Request.{AskedValue}
use Rattle.iam_ask.specs.Code.Rows.{AskValue, ask_text, position_at, rows_text}

-- rows, and others behind them
rows_both : (quoted : Quoted) (asked : List AskedValue) (n : ℕ) (xs ys : List Tail)
    → rows_text quoted asked n (xs ++ ys) ≡ rows_text quoted asked n xs ++ rows_text quoted asked (n + length xs) ys
rows_both quoted asked n [] ys = let same : n ≡ n + 0 = omega arith in ap (λ k. rows_text quoted asked k ys) same
rows_both quoted asked n (x ∷ xs) ys =
    let row = row_at quoted (position_at asked n) x in
    let same : n + 1 + length xs ≡ n + length (x ∷ xs) = omega arith in
    ap (λ t. row ++ t) (rows_both quoted asked (n + 1) xs ys ∙ ap (λ k. rows_text quoted asked (n + 1) xs ++ rows_text quoted asked k ys) same)
    ∙ sym (append_assoc row (rows_text quoted asked (n + 1) xs) (rows_text quoted asked (n + length (x ∷ xs)) ys))

-- the rows up to row i and behind it
rows_next : (quoted : Quoted) (asked : List AskedValue) (n : ℕ) (xs : List Tail) (i : ℕ) → i < length xs
    → rows_text quoted asked n (take (i + 1) xs) ≡ rows_text quoted asked n (take i xs) ++ row_at quoted (position_at asked (n + i)) (get_or xs i no_tail)
rows_next quoted asked n xs i inside =
    let count : n + length (take i xs) ≡ n + i = ap (λ k. n + k) (length-take-le i xs (omega (arith, inside))) in
    let row = get_or xs i no_tail in
    ap (rows_text quoted asked n) (take_more xs i no_tail inside) ∙ rows_both quoted asked n (take i xs) (row ∷ [])
    ∙ ap (λ k. rows_text quoted asked n (take i xs) ++ rows_text quoted asked k (row ∷ [])) count
    ∙ ap (λ t. rows_text quoted asked n (take i xs) ++ t) (append-nil (row_at quoted (position_at asked (n + i)) row))

rows_around : (quoted : Quoted) (asked : List AskedValue) (n : ℕ) (xs : List Tail) (i : ℕ) → i < length xs
    → rows_text quoted asked n xs
    ≡ rows_text quoted asked n (take i xs) ++ (row_at quoted (position_at asked (n + i)) (get_or xs i no_tail) ++ rows_text quoted asked (n + i + 1) (drop (i + 1) xs))
rows_around quoted asked n xs i inside =
    let count : n + length (take i xs) ≡ n + i = ap (λ k. n + k) (length-take-le i xs (omega (arith, inside))) in
    ap (rows_text quoted asked n) (sym (take-append-drop i xs)) ∙ rows_both quoted asked n (take i xs) (drop i xs)
    ∙ ap (λ k. rows_text quoted asked n (take i xs) ++ rows_text quoted asked k (drop i xs)) count
    ∙ ap (λ ys. rows_text quoted asked n (take i xs) ++ rows_text quoted asked (n + i) ys) (drop_more xs i no_tail inside)

-- a row with its comma
behind_row : (format : Format) (cell : ℕ) (pieces : CellTexts) (tail : Tail) → text_behind format (comma_before cell) cell pieces tail ≡ row_text format cell pieces tail
behind_row Csv cell pieces tail = refl
behind_row Json cell pieces tail = refl

pub same_row : (quoted : Quoted) (asked : List AskedValue) (n m : ℕ) (comma : List ℕ) (at : Position) (tail own : Tail) → m ≡ n → comma ≡ comma_before n → at ≡ position_at asked n
    → tail ≡ own → row_behind quoted comma at tail ≡ row_at quoted (position_at asked n) own
same_row quoted asked n m comma at tail own e f g h =
    ap (λ c. row_behind quoted c at tail) f ∙ ap (λ (p : Position). row_behind quoted (comma_before n) p tail) g
    ∙ ap (λ (t : Tail). row_behind quoted (comma_before n) (position_at asked n) t) h
    ∙ behind_row quoted.format n _ own

-- one more row, or a beginning of it
pub row_more : (quoted : Quoted) (asked : List AskedValue) (n : ℕ) (xs : List Tail) (i : ℕ) (a b c : Option (List ℕ)) (k l m : List ℕ) → i < length xs
    → Passes a b k l (rows_text quoted asked n (take i xs)) → Passes b c l m (row_at quoted (position_at asked (n + i)) (get_or xs i no_tail))
    → Passes a c k m (rows_text quoted asked n (take (i + 1) xs))
row_more quoted asked n xs i a b c k l m inside first last =
    subst (Passes a c k m) (sym (rows_next quoted asked n xs i inside)) (passes_both a b c k l m _ _ first last)

pub row_fails : (quoted : Quoted) (asked : List AskedValue) (n : ℕ) (xs : List Tail) (i : ℕ) (a b c : Option (List ℕ)) (k l : List ℕ) → i < length xs
    → Passes a b k l (rows_text quoted asked n (take i xs)) → AppendsBeginning b c (l ++ row_at quoted (position_at asked (n + i)) (get_or xs i no_tail))
    → AppendsBeginning a c (k ++ rows_text quoted asked n xs)
row_fails quoted asked n xs i a b c k l inside first last =
    passes_fails_more a b c k l _ _ _ _ (rows_around quoted asked n xs i inside) first last

-- the tails of all tiles
abbrev pub all_tails : List (List Tail) → List Tail
all_tails tiles = flat_map (λ tile. tile) tiles

-- one more tile, or a beginning of it
pub tile_more : (quoted : Quoted) (asked : List AskedValue) (tiles : List (List Tail)) (i from : ℕ) (tile : List Tail) (a b c : Option (List ℕ)) (k l m : List ℕ)
    → i < length tiles → tile ≡ get_or tiles i tile → from ≡ length (all_tails (take i tiles)) → Passes a b k l (rows_text quoted asked 0 (all_tails (take i tiles)))
    → Passes b c l m (rows_text quoted asked from tile) → Passes a c k m (rows_text quoted asked 0 (all_tails (take (i + 1) tiles)))
tile_more quoted asked tiles i from tile a b c k l m inside is e first last =
    let so_far = all_tails (take i tiles) in
    let number : from ≡ 0 + length so_far = omega (arith, e) in
    let parts : rows_text quoted asked 0 (all_tails (take (i + 1) tiles)) ≡ rows_text quoted asked 0 so_far ++ rows_text quoted asked from tile =
    ap (rows_text quoted asked 0) (flat_map_next (λ (t : List Tail). t) tiles i tile inside ∙ ap (λ t. so_far ++ t) (sym is)) ∙ rows_both quoted asked 0 so_far tile
    ∙ ap (λ n. rows_text quoted asked 0 so_far ++ rows_text quoted asked n tile) (sym number) in
    subst (Passes a c k m) (sym parts) (passes_both a b c k l m _ _ first last)

pub tile_fails : (quoted : Quoted) (asked : List AskedValue) (tiles : List (List Tail)) (i from : ℕ) (tile : List Tail) (a b c : Option (List ℕ)) (k l : List ℕ)
    → i < length tiles → tile ≡ get_or tiles i tile → from ≡ length (all_tails (take i tiles)) → Passes a b k l (rows_text quoted asked 0 (all_tails (take i tiles)))
    → AppendsBeginning b c (l ++ rows_text quoted asked from tile) → AppendsBeginning a c (k ++ rows_text quoted asked 0 (all_tails tiles))
tile_fails quoted asked tiles i from tile a b c k l inside is e first last =
    let so_far = all_tails (take i tiles) in
    let rest = all_tails (drop (i + 1) tiles) in
    let number : from ≡ 0 + length so_far = omega (arith, e) in
    let parts : rows_text quoted asked 0 (all_tails tiles) ≡ rows_text quoted asked 0 so_far ++ (rows_text quoted asked from tile ++ rows_text quoted asked (from + length tile) rest) =
    ap (rows_text quoted asked 0) (flat_map_at (λ (t : List Tail). t) tiles i tile inside ∙ ap (λ t. so_far ++ (t ++ rest)) (sym is))
    ∙ rows_both quoted asked 0 so_far (tile ++ rest)
    ∙ ap (λ n. rows_text quoted asked 0 so_far ++ rows_text quoted asked n (tile ++ rest)) (sym number)
    ∙ ap (λ t. rows_text quoted asked 0 so_far ++ t) (rows_both quoted asked from tile rest) in
    passes_fails_more a b c k l _ _ _ _ parts first last

-- how many tails there are up to a tile and with it
pub count_more : (tiles : List (List Tail)) (i : ℕ) (tile : List Tail) → i < length tiles → tile ≡ get_or tiles i tile
    → length (all_tails (take (i + 1) tiles)) ≡ length (all_tails (take i tiles)) + length tile
count_more tiles i tile inside is =
    ap (λ (t : List Tail). length t) (flat_map_next (λ (t : List Tail). t) tiles i tile inside ∙ ap (λ t. all_tails (take i tiles) ++ t) (sym is))
    ∙ length-append (all_tails (take i tiles)) tile

pub count_within : (tiles : List (List Tail)) (i : ℕ) (tile : List Tail) → i < length tiles → tile ≡ get_or tiles i tile
    → length (all_tails (take i tiles)) + length tile ≤ length (all_tails tiles)
count_within tiles i tile inside is =
    let so_far = all_tails (take i tiles) in
    let rest = all_tails (drop (i + 1) tiles) in
    let parts : all_tails tiles ≡ so_far ++ (tile ++ rest) = flat_map_at (λ (t : List Tail). t) tiles i tile inside ∙ ap (λ t. so_far ++ (t ++ rest)) (sym is) in
    omega (arith, ap (λ (t : List Tail). length t) parts, length-append so_far (tile ++ rest), length-append tile rest)

-- the text of a report
pub text_parts : (ask whole : AskValue) (tails : List Tail) (front : List ℕ) → ask ≡ whole → tails ≡ ask.tails
    → front ≡ opening_text ask.quoted.format ask.brief
    → ask_text whole ≡ front ++ (rows_text ask.quoted ask.asked 0 tails ++ closing_text ask.quoted.format)
text_parts ask whole tails front is e opens =
    let rest : List Tail → List ℕ = λ ts. rows_text ask.quoted ask.asked 0 ts ++ closing_text ask.quoted.format in
    ap ask_text (sym is) ∙ ap (λ t. t ++ rest ask.tails) (sym opens) ∙ ap (λ ts. front ++ rest ts) (sym e)
