-- What is written of texts and rows by way of a buffer.
use Rattle.std.proofs.Common.{◌≡◌, ℕ, ◌+◌, ◌<◌, ◌≤◌, List, [], ◌∷◌, ◌++◌, Option, length, take, refl, sym, ap, ◌∙◌, subst, arith, Bool, true, false, Some, drop, get_or, append_assoc, append-nil, length-append, take-append-drop}
use Rattle.std.proofs.Math.Seq.{take-append-add, take-append-le}
use Rattle.std.proofs.KnownBytes.{Appends-nil, Appends-trans}
use Rattle.std.proofs.lemmas.List.{drop_more, take_all, take_more}
use Rattle.std.proofs.lemmas.Grind.{flat_map-append}
use Rattle.std.proofs.lemmas.Option.{get_or_from_slice_get, slice_get_within}
use Rattle.std.specs.List.{flat_map, slice_get}
use Rattle.std.specs.Io.KnownBytes.{Appends}
use Rattle.iam_report.specs.Code.Buffer.{IsWithin, Passes, PutsRows}
use Rattle.iam_row.specs.Piece.{MatrixValue, closing_text, first_position, next_by, next_in, opening_text, row_at, rows_text, text_of}
use Rattle.iam_report.specs.Streams.{AppendsBeginning}
use Rattle.iam_row.specs.declared.position.Position.{Position}
use Rattle.iam_row.specs.declared.quoted.Quoted.{Quoted}
use Rattle.iam_row.specs.declared.tail.Tail.{Tail}

-- a beginning of a text that stands behind another is a beginning of both and of what follows
pub beginning_behind : (a b c : Option (List ℕ)) (before text rest : List ℕ) → Appends a b before → AppendsBeginning b c text → AppendsBeginning a c (before ++ (text ++ rest))
beginning_behind a b c before text rest first last =
    let n = last.0 in
    let few : length before + n ≤ length (before ++ (text ++ rest)) =
    omega (arith, last.1, length-append before (text ++ rest), length-append text rest) in
    let parts : take (length before + n) (before ++ (text ++ rest)) ≡ before ++ take n text =
    take-append-add before (text ++ rest) n ∙ ap (λ l. before ++ l) (take-append-le n text rest last.1) in
    (length before + n, few, subst (Appends a c) (sym parts) (Appends-trans a b c before (take n text) first last.2))

-- a beginning of a text is a beginning of it and of what follows
pub beginning_of_more : (a b : Option (List ℕ)) (text rest all : List ℕ) → text ++ rest ≡ all → AppendsBeginning a b text → AppendsBeginning a b all
beginning_of_more a b text rest all e h = subst (AppendsBeginning a b) e (beginning_behind a a b [] text rest (Appends-nil a) h)

pub passes_none : (a : Option (List ℕ)) (kept : List ℕ) → Passes a a kept kept []
passes_none a kept = record { front = []; parts = append-nil kept; gained = Appends-nil a }

-- a text that is kept
pub passes_kept : (a : Option (List ℕ)) (kept rest text : List ℕ) → rest ≡ kept ++ text → Passes a a kept rest text
passes_kept a kept rest text e = record { front = []; parts = sym e; gained = Appends-nil a }

-- a text behind another
pub passes_both : (a b c : Option (List ℕ)) (k l m s t : List ℕ) → Passes a b k l s → Passes b c l m t → Passes a c k m (s ++ t)
passes_both a b c k l m s t first second = record {
  front = first.front ++ second.front;
  parts =
      sym (append_assoc k s t) ∙ ap (λ x. x ++ t) first.parts ∙ append_assoc first.front l t
      ∙ ap (λ x. first.front ++ x) second.parts ∙ sym (append_assoc first.front second.front m);
  gained = Appends-trans a b c first.front second.front first.gained second.gained;
}

-- a text, and a beginning of what follows
pub passes_fails : (a b c : Option (List ℕ)) (k l s t all : List ℕ) → all ≡ s ++ t → Passes a b k l s → AppendsBeginning b c (l ++ t) → AppendsBeginning a c (k ++ all)
passes_fails a b c k l s t all e first last =
    let parts : first.front ++ ((l ++ t) ++ []) ≡ k ++ all =
    ap (λ x. first.front ++ x) (append-nil (l ++ t)) ∙ sym (append_assoc first.front l t) ∙ ap (λ x. x ++ t) (sym first.parts)
    ∙ append_assoc k s t ∙ ap (λ x. k ++ x) (sym e) in
    subst (AppendsBeginning a c) parts (beginning_behind a b c first.front (l ++ t) [] first.gained last)

-- a text, a beginning of the next, and what follows
pub passes_fails_more : (a b c : Option (List ℕ)) (k l s t rest all : List ℕ) → all ≡ s ++ (t ++ rest) → Passes a b k l s → AppendsBeginning b c (l ++ t)
    → AppendsBeginning a c (k ++ all)
passes_fails_more a b c k l s t rest all e first last =
    passes_fails a b c k l s (t ++ rest) all e first (beginning_of_more b c (l ++ t) rest (l ++ (t ++ rest)) (append_assoc l t rest) last)

-- two texts that are written
pub written_second : (a b c : Option (List ℕ)) (x before y text : List ℕ) → x ≡ before → y ≡ text → Appends a b x → AppendsBeginning b c y → AppendsBeginning a c (before ++ text)
written_second a b c x before y text e f first last =
    let parts : x ++ (y ++ []) ≡ before ++ text = ap (λ l. x ++ l) (append-nil y ∙ f) ∙ ap (λ l. l ++ text) e in
    subst (AppendsBeginning a c) parts (beginning_behind a b c x y [] first last)

pub passes_written : (a b c : Option (List ℕ)) (x before y text rest : List ℕ) → x ≡ before → y ≡ text → rest ≡ [] → Appends a b x → Appends b c y → Passes a c before rest text
passes_written a b c x before y text rest e f none first last = record {
  front = x ++ y;
  parts = ap (λ l. l ++ text) (sym e) ∙ ap (λ l. x ++ l) (sym f) ∙ sym (append-nil (x ++ y)) ∙ ap (λ l. (x ++ y) ++ l) (sym none);
  gained = Appends-trans a b c x y first last;
}

-- what is kept is written in the end
pub passes_done : (a b c : Option (List ℕ)) (k l s text : List ℕ) → s ≡ text → Passes a b k l s → Appends b c l → Appends a c (k ++ text)
passes_done a b c k l s text e first last =
    subst (Appends a c) (sym first.parts ∙ ap (λ x. k ++ x) e) (Appends-trans a b c first.front l first.gained last)

pub passes_undone : (a b c : Option (List ℕ)) (k l s text : List ℕ) → s ≡ text → Passes a b k l s → AppendsBeginning b c l → AppendsBeginning a c (k ++ text)
passes_undone a b c k l s text e first last =
    let parts : first.front ++ (l ++ []) ≡ k ++ text = ap (λ x. first.front ++ x) (append-nil l) ∙ sym first.parts ∙ ap (λ x. k ++ x) e in
    subst (AppendsBeginning a c) parts (beginning_behind a b c first.front l [] first.gained last)

-- a front, rows and an end, where nothing was kept before: the rows fail, or the end does, or all is written
pub rows_fail : (a b c : Option (List ℕ)) (k l front rows end all : List ℕ) → k ≡ [] → all ≡ front ++ (rows ++ end) → Passes a b k l front
    → AppendsBeginning b c (l ++ rows) → AppendsBeginning a c all
rows_fail a b c k l front rows end all none e first last =
    subst (λ x. AppendsBeginning a c (x ++ all)) none (passes_fails_more a b c k l front rows end all e first last)

pub end_fails : (a b c d : Option (List ℕ)) (k l m front rows end all : List ℕ) → k ≡ [] → all ≡ front ++ (rows ++ end) → Passes a b k l front → Passes b c l m rows
    → AppendsBeginning c d (m ++ end) → AppendsBeginning a d all
end_fails a b c d k l m front rows end all none e first second last =
    subst (λ x. AppendsBeginning a d (x ++ all)) none
    (passes_fails a c d k m (front ++ rows) end all (e ∙ sym (append_assoc front rows end)) (passes_both a b c k l m front rows first second) last)

pub end_done : (a b c d : Option (List ℕ)) (k l m front rows end all : List ℕ) → k ≡ [] → all ≡ front ++ (rows ++ end) → Passes a b k l front → Passes b c l m rows
    → Appends c d (m ++ end) → Appends a d all
end_done a b c d k l m front rows end all none e first second last =
    let both = passes_both a b c k l m front rows first second in
    let parts : both.front ++ (m ++ end) ≡ all =
    sym (append_assoc both.front m end) ∙ ap (λ x. x ++ end) (sym both.parts) ∙ ap (λ x. (x ++ (front ++ rows)) ++ end) none ∙ append_assoc front rows end ∙ sym e in
    subst (Appends a d) parts (Appends-trans a c d both.front (m ++ end) both.gained last)

-- the texts before one of them, this one, and those behind it
pub flat_map_at : {X A : Type 0} (f : X → List A) (xs : List X) (i : ℕ) (d : X) → i < length xs
    → flat_map f xs ≡ flat_map f (take i xs) ++ (f (get_or xs i d) ++ flat_map f (drop (i + 1) xs))
flat_map_at f xs i d few =
    ap (flat_map f) (sym (take-append-drop i xs)) ∙ flat_map-append f (take i xs) (drop i xs)
    ∙ ap (λ l. flat_map f (take i xs) ++ flat_map f l) (drop_more xs i d few)

pub flat_map_next : {X A : Type 0} (f : X → List A) (xs : List X) (i : ℕ) (d : X) → i < length xs
    → flat_map f (take (i + 1) xs) ≡ flat_map f (take i xs) ++ f (get_or xs i d)
flat_map_next f xs i d few =
    ap (flat_map f) (take_more xs i d few) ∙ flat_map-append f (take i xs) (get_or xs i d ∷ []) ∙ ap (λ l. flat_map f (take i xs) ++ l) (append-nil (f (get_or xs i d)))

pub texts_fail : {X : Type 0} (f : X → List ℕ) (xs : List X) (i : ℕ) (d : X) (a b c : Option (List ℕ)) (k l : List ℕ) → i < length xs → Passes a b k l (flat_map f (take i xs))
    → AppendsBeginning b c (l ++ f (get_or xs i d)) → AppendsBeginning a c (k ++ flat_map f xs)
texts_fail f xs i d a b c k l inside first last =
    passes_fails_more a b c k l (flat_map f (take i xs)) (f (get_or xs i d)) (flat_map f (drop (i + 1) xs)) (flat_map f xs) (flat_map_at f xs i d inside) first last

pub texts_more : {X : Type 0} (f : X → List ℕ) (xs : List X) (i : ℕ) (d : X) (a b c : Option (List ℕ)) (k l m : List ℕ) → i < length xs → Passes a b k l (flat_map f (take i xs))
    → Passes b c l m (f (get_or xs i d)) → Passes a c k m (flat_map f (take (i + 1) xs))
texts_more f xs i d a b c k l m inside first last =
    subst (Passes a c k m) (sym (flat_map_next f xs i d inside)) (passes_both a b c k l m (flat_map f (take i xs)) (f (get_or xs i d)) first last)

-- ---- rows

pub puts_none : (quoted : Quoted) (at : Position) (a : Option (List ℕ)) (k : List ℕ) → PutsRows quoted [] at at a a k k
puts_none quoted at a k = record { text = []; rows = λ more. refl; passes = passes_none a k }

pub puts_one : (quoted : Quoted) (tail : Tail) (at : Position) (a b : Option (List ℕ)) (k l : List ℕ) → Passes a b k l (row_at quoted at tail)
    → PutsRows quoted (tail ∷ []) at (next_in quoted at) a b k l
puts_one quoted tail at a b k l row = record { text = row_at quoted at tail; rows = λ more. refl; passes = row }

pub puts_both : (quoted : Quoted) (xs ys : List Tail) (at mid behind : Position) (a b c : Option (List ℕ)) (k l m : List ℕ)
    → PutsRows quoted xs at mid a b k l → PutsRows quoted ys mid behind b c l m → PutsRows quoted (xs ++ ys) at behind a c k m
puts_both quoted xs ys at mid behind a b c k l m first second = record {
  text = first.text ++ second.text;
  rows = λ more.
      ap (rows_text quoted at) (append_assoc xs ys more) ∙ first.rows (ys ++ more) ∙ ap (λ t. first.text ++ t) (second.rows more)
      ∙ sym (append_assoc first.text second.text (rows_text quoted behind more));
  passes = passes_both a b c k l m first.text second.text first.passes second.passes;
}

-- rows, and a beginning of those that follow
pub puts_fails : (quoted : Quoted) (xs ys all : List Tail) (at mid : Position) (a b c : Option (List ℕ)) (k l : List ℕ) → xs ++ ys ≡ all
    → PutsRows quoted xs at mid a b k l → AppendsBeginning b c (l ++ rows_text quoted mid ys) → AppendsBeginning a c (k ++ rows_text quoted at all)
puts_fails quoted xs ys all at mid a b c k l e first last =
    passes_fails a b c k l first.text (rows_text quoted mid ys) (rows_text quoted at all) (ap (rows_text quoted at) (sym e) ∙ first.rows ys) first.passes last

-- all rows, where no others follow
pub puts_all : (quoted : Quoted) (all : List Tail) (at behind : Position) (a b : Option (List ℕ)) (k l : List ℕ) → PutsRows quoted all at behind a b k l
    → Passes a b k l (rows_text quoted at all)
puts_all quoted all at behind a b k l puts =
    let text : puts.text ≡ rows_text quoted at all =
    sym (append-nil puts.text) ∙ sym (puts.rows []) ∙ ap (rows_text quoted at) (append-nil all) in
    subst (Passes a b k l) text puts.passes

next_within : (r a : Bool) (at : Position) → IsWithin at → IsWithin (next_by r a at)
next_within true a at w = record { principal = omega (arith, w.principal); action = omega (arith, w.action); resource = omega (arith, w.resource) }
next_within false true at w = record { principal = omega (arith, w.principal); action = omega (arith, w.action); resource = omega arith }
next_within false false at w = record { principal = omega (arith, w.principal); action = omega arith; resource = omega arith }

pub within_next : (quoted : Quoted) (at next : Position) → next ≡ next_in quoted at → IsWithin at → IsWithin next
within_next quoted at next e w = subst IsWithin (sym e) (next_within _ _ at w)

next_cell : (r a : Bool) (at : Position) → (next_by r a at).cell ≡ at.cell + 1
next_cell true a at = refl
next_cell false true at = refl
next_cell false false at = refl

pub cell_next : (quoted : Quoted) (at next : Position) → next ≡ next_in quoted at → next.cell ≡ at.cell + 1
cell_next quoted at next e = ap (λ (p : Position). p.cell) e ∙ next_cell _ _ at

-- a tile, one of its tails, and what follows the tile
split_tile : (tile more : List Tail) (i : ℕ) (tail : Tail) → slice_get tile i ≡ Some tail → take i tile ++ (tail ∷ (drop (i + 1) tile ++ more)) ≡ tile ++ more
split_tile tile more i tail at =
    let inside = slice_get_within tile i tail at in
    sym (append_assoc (take i tile) (tail ∷ drop (i + 1) tile) more)
    ∙ ap (λ x. (take i tile ++ (x ∷ drop (i + 1) tile)) ++ more) (sym (get_or_from_slice_get tile i tail tail at))
    ∙ ap (λ l. (take i tile ++ l) ++ more) (sym (drop_more tile i tail inside))
    ∙ ap (λ l. l ++ more) (take-append-drop i tile)

pub row_fails : (quoted : Quoted) (tile more : List Tail) (i : ℕ) (tail : Tail) (at here : Position) (a b c : Option (List ℕ)) (k l : List ℕ) → slice_get tile i ≡ Some tail
    → PutsRows quoted (take i tile) at here a b k l → AppendsBeginning b c (l ++ row_at quoted here tail) → AppendsBeginning a c (k ++ rows_text quoted at (tile ++ more))
row_fails quoted tile more i tail at here a b c k l there first last =
    let rest = drop (i + 1) tile ++ more in
    let others = rows_text quoted (next_in quoted here) rest in
    puts_fails quoted (take i tile) (tail ∷ rest) (tile ++ more) at here a b c k l (split_tile tile more i tail there) first
    (beginning_of_more b c (l ++ row_at quoted here tail) others (l ++ (row_at quoted here tail ++ others)) (append_assoc l (row_at quoted here tail) others) last)

pub row_more : (quoted : Quoted) (tile : List Tail) (i : ℕ) (tail : Tail) (at here next : Position) (a b c : Option (List ℕ)) (k l m : List ℕ) → slice_get tile i ≡ Some tail
    → next ≡ next_in quoted here → PutsRows quoted (take i tile) at here a b k l → Passes b c l m (row_at quoted here tail)
    → PutsRows quoted (take (i + 1) tile) at next a c k m
row_more quoted tile i tail at here next a b c k l m there e first last =
    let inside = slice_get_within tile i tail there in
    let list : take i tile ++ tail ∷ [] ≡ take (i + 1) tile =
    ap (λ x. take i tile ++ x ∷ []) (sym (get_or_from_slice_get tile i tail tail there)) ∙ sym (take_more tile i tail inside) in
    let both = puts_both quoted (take i tile) (tail ∷ []) at here (next_in quoted here) a b c k l m first (puts_one quoted tail here b c l m last) in
    subst (λ (p : Position). PutsRows quoted (take (i + 1) tile) at p a c k m) (sym e)
    (subst (λ (ts : List Tail). PutsRows quoted ts at (next_in quoted here) a c k m) list both)

-- the tails of tiles
abbrev pub all_tails : List (List Tail) → List Tail
all_tails tiles = flat_map (λ tile. tile) tiles

-- the tiles before one, this one, and those behind it
split_tiles : (tiles : List (List Tail)) (i : ℕ) (tile : List Tail) → i < length tiles → tile ≡ get_or tiles i tile
    → all_tails (take i tiles) ++ (tile ++ all_tails (drop (i + 1) tiles)) ≡ all_tails tiles
split_tiles tiles i tile inside is =
    ap (λ (t : List Tail). all_tails (take i tiles) ++ (t ++ all_tails (drop (i + 1) tiles))) is ∙ sym (flat_map_at (λ (t : List Tail). t) tiles i tile inside)

next_tiles : (tiles : List (List Tail)) (i : ℕ) (tile : List Tail) → i < length tiles → tile ≡ get_or tiles i tile
    → all_tails (take i tiles) ++ tile ≡ all_tails (take (i + 1) tiles)
next_tiles tiles i tile inside is =
    ap (λ (t : List Tail). all_tails (take i tiles) ++ t) is ∙ sym (flat_map_next (λ (t : List Tail). t) tiles i tile inside)

pub few_at : (tiles : List (List Tail)) (i : ℕ) (tile : List Tail) → i < length tiles → tile ≡ get_or tiles i tile → length (all_tails (take i tiles)) + length tile ≤ length (all_tails tiles)
few_at tiles i tile inside is =
    let rest = all_tails (drop (i + 1) tiles) in
    omega (arith, ap length (split_tiles tiles i tile inside is), length-append (all_tails (take i tiles)) (tile ++ rest), length-append tile rest)

pub count_next : (tiles : List (List Tail)) (i : ℕ) (tile : List Tail) → i < length tiles → tile ≡ get_or tiles i tile
    → length (all_tails (take (i + 1) tiles)) ≡ length (all_tails (take i tiles)) + length tile
count_next tiles i tile inside is = ap length (sym (next_tiles tiles i tile inside is)) ∙ length-append (all_tails (take i tiles)) tile

pub tile_fails : (quoted : Quoted) (tiles : List (List Tail)) (i : ℕ) (tile : List Tail) (at here : Position) (a b c : Option (List ℕ)) (k l : List ℕ) → i < length tiles
    → tile ≡ get_or tiles i tile → PutsRows quoted (all_tails (take i tiles)) at here a b k l
    → ((more : List Tail) → AppendsBeginning b c (l ++ rows_text quoted here (tile ++ more))) → AppendsBeginning a c (k ++ rows_text quoted at (all_tails tiles))
tile_fails quoted tiles i tile at here a b c k l inside is first last =
    let rest = all_tails (drop (i + 1) tiles) in
    puts_fails quoted (all_tails (take i tiles)) (tile ++ rest) (all_tails tiles) at here a b c k l (split_tiles tiles i tile inside is) first (last rest)

pub tile_more : (quoted : Quoted) (tiles : List (List Tail)) (i : ℕ) (tile : List Tail) (at here next : Position) (a b c : Option (List ℕ)) (k l m : List ℕ) → i < length tiles
    → tile ≡ get_or tiles i tile → PutsRows quoted (all_tails (take i tiles)) at here a b k l → PutsRows quoted tile here next b c l m
    → PutsRows quoted (all_tails (take (i + 1) tiles)) at next a c k m
tile_more quoted tiles i tile at here next a b c k l m inside is first last =
    subst (λ (ts : List Tail). PutsRows quoted ts at next a c k m) (next_tiles tiles i tile inside is)
    (puts_both quoted (all_tails (take i tiles)) tile at here next a b c k l m first last)

-- all tiles, where no others follow
pub tiles_all : (quoted : Quoted) (tiles : List (List Tail)) (i : ℕ) (at behind : Position) (a b : Option (List ℕ)) (k l : List ℕ) → length tiles ≤ i
    → PutsRows quoted (all_tails (take i tiles)) at behind a b k l → Passes a b k l (rows_text quoted at (all_tails tiles))
tiles_all quoted tiles i at behind a b k l past puts =
    puts_all quoted (all_tails tiles) at behind a b k l
    (subst (λ (ts : List (List Tail)). PutsRows quoted (all_tails ts) at behind a b k l) (take_all i tiles past) puts)

-- the parts of a whole text
pub text_parts : (matrix whole : MatrixValue) (tails : List Tail) (front : List ℕ) → matrix ≡ whole → tails ≡ matrix.tails → front ≡ opening_text matrix.quoted.format matrix.brief
    → text_of whole ≡ front ++ (rows_text matrix.quoted first_position tails ++ closing_text matrix.quoted.format)
text_parts matrix whole tails front is e f =
    let rest : List Tail → List ℕ = λ ts. rows_text matrix.quoted first_position ts ++ closing_text matrix.quoted.format in
    ap text_of (sym is) ∙ ap (λ x. x ++ rest matrix.tails) (sym f) ∙ ap (λ ts. front ++ rest ts) (sym e)
