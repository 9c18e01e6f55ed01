-- Rows that follow one another, put into a block, and what is written of them.
use Rattle.std.proofs.Common.{◌≡◌, ℕ, zero, suc, ◌+◌, ◌-◌, ◌<◌, ◌≤◌, List, [], ◌∷◌, ◌++◌, Option, length, map, nat_lt, Some, slice_get, take, drop, get_or, sym, ap, ◌∙◌, subst, arith, append_assoc, append-nil}
use Rattle.std.proofs.Math.Seq.{take-add}
use Rattle.std.proofs.KnownBytes.{Appends-trans}
use Rattle.std.proofs.lemmas.Bool.{lt-ltb}
use Rattle.std.proofs.lemmas.List.{drop-append-le, drop-map, length-drop, map-append, take-append-le, take-map, take_more}
use Rattle.std.proofs.lemmas.Option.{get_or_from_slice_get, slice_get_within}
use Rattle.std.specs.Io.KnownBytes.{Appends}
use Rattle.iam_report.specs.Code.Buffer.{Passes, PutsRows}
use Rattle.iam_report.specs.Code.Line.{tail_at}
use Rattle.iam_report.specs.Code.Run.{AddsRows, behind_in, behind_rows, further}
use Rattle.iam_report.specs.Streams.{AppendsBeginning}
use Rattle.iam_tiles.specs.Code.Numbered.{no_tail, picked}
use Rattle.iam_row.specs.Piece.{next_by, next_in, next_of, row_at, rows_text}
use Rattle.iam_row.specs.declared.position.Position.{Position}
use Rattle.iam_row.specs.declared.quoted.Quoted.{Quoted}
use Rattle.iam_row.specs.declared.tail.Tail.{Tail}
use Rattle.iam_report.proofs.Buffered.{beginning_behind, passes_kept, puts_both}

-- ---- positions

same_place : (at : Position) (c d r s : ℕ) → c ≡ d → r ≡ s
    → ◌≡◌ {A = Position} (record { cell = c; principal = at.principal; action = at.action; resource = r })
    (record { cell = d; principal = at.principal; action = at.action; resource = s })
same_place at c d r s e f =
    ap (λ x. record { cell = x; principal = at.principal; action = at.action; resource = r }) e
    ∙ ap (λ x. record { cell = d; principal = at.principal; action = at.action; resource = x }) f

pub further_none : (at : Position) → at ≡ further at 0
further_none at = same_place at at.cell (at.cell + 0) at.resource (at.resource + 0) (omega arith) (omega arith)

pub further_one : (at : Position) (n : ℕ) → further (further at n) 1 ≡ further at (n + 1)
further_one at n = same_place at (at.cell + n + 1) (at.cell + (n + 1)) (at.resource + n + 1) (at.resource + (n + 1)) (omega arith) (omega arith)

-- behind rows that are not the last of their action
pub behind_is : (actions resources : ℕ) (at : Position) (n : ℕ) → at.resource + n < resources → behind_rows actions resources at n ≡ further at n
behind_is actions resources at zero few = further_none at
behind_is actions resources at (suc n) few =
    ap (λ more. next_by more (nat_lt (at.action + 1) actions) (further at n)) (lt-ltb (at.resource + n + 1) resources (omega (arith, few)))
    ∙ same_place at (at.cell + n + 1) (at.cell + suc n) (at.resource + n + 1) (at.resource + suc n) (omega arith) (omega arith)

pub behind_next : (actions resources : ℕ) (at : Position) (n : ℕ) → behind_rows actions resources at (n + 1) ≡ next_of actions resources (further at n)
behind_next actions resources at n =
    let one : n + 1 ≡ suc n = omega arith in
    ap (λ m. behind_rows actions resources at m) one

-- ---- rows

-- one more row
pub adds_next : (quoted : Quoted) (tails : List Tail) (tail : Tail) (at here : Position) (old mid new : List ℕ) → AddsRows quoted tails at here old mid
    → new ≡ mid ++ row_at quoted here tail → AddsRows quoted (tails ++ tail ∷ []) at (next_in quoted here) old new
adds_next quoted tails tail at here old mid new first e = record {
  text = first.text ++ row_at quoted here tail;
  rows = λ more.
      ap (rows_text quoted at) (append_assoc tails (tail ∷ []) more) ∙ first.rows (tail ∷ more)
      ∙ sym (append_assoc first.text (row_at quoted here tail) (rows_text quoted (next_in quoted here) more));
  added = e ∙ ap (λ l. l ++ row_at quoted here tail) first.added ∙ append_assoc old first.text (row_at quoted here tail);
}

-- the items of one more number
picked_more : {A : Type 0} (none : A) (items : List A) (numbers : List ℕ) (i n : ℕ) → slice_get numbers i ≡ Some n
    → picked none items (take i numbers) ++ get_or items n none ∷ [] ≡ picked none items (take (i + 1) numbers)
picked_more {A} none items numbers i n there =
    let f : ℕ → A = λ k. get_or items k none in
    sym (ap (map f) (take_more numbers i 0 (slice_get_within numbers i n there)) ∙ map-append f (take i numbers) (get_or numbers i 0 ∷ [])
    ∙ ap (λ k. map f (take i numbers) ++ f k ∷ []) (get_or_from_slice_get numbers i n 0 there))

-- one more row with the same principal and action
pub run_more : (quoted : Quoted) (tails : List Tail) (numbers : List ℕ) (i n : ℕ) (at : Position) (old mid new : List ℕ) → slice_get numbers i ≡ Some n
    → at.resource + i < length quoted.resources → AddsRows quoted (picked no_tail tails (take i numbers)) at (behind_in quoted at i) old mid
    → new ≡ mid ++ row_at quoted (further at i) (tail_at tails n)
    → AddsRows quoted (picked no_tail tails (take (i + 1) numbers)) at (behind_in quoted at (i + 1)) old new
run_more quoted tails numbers i n at old mid new there few first e =
    let actions = length quoted.actions in
    let resources = length quoted.resources in
    let before = picked no_tail tails (take i numbers) in
    let here : AddsRows quoted before at (further at i) old mid =
    subst (λ (p : Position). AddsRows quoted before at p old mid) (behind_is actions resources at i few) first in
    let next = adds_next quoted before (tail_at tails n) at (further at i) old mid new here e in
    subst (λ (ts : List Tail). AddsRows quoted ts at (behind_in quoted at (i + 1)) old new) (picked_more no_tail tails numbers i n there)
    (subst (λ (p : Position). AddsRows quoted (before ++ tail_at tails n ∷ []) at p old new) (sym (behind_next actions resources at i)) next)

-- rows that were put into a block, behind those that were put before
pub rows_added : (quoted : Quoted) (all : List Tail) (i j : ℕ) (at here behind : Position) (a b : Option (List ℕ)) (k kept old new : List ℕ) → i ≤ j
    → PutsRows quoted (take i all) at here a b k (kept ++ old) → AddsRows quoted (take (j - i) (drop i all)) here behind old new
    → PutsRows quoted (take j all) at behind a b k (kept ++ new)
rows_added quoted all i j at here behind a b k kept old new before first adds =
    let more = take (j - i) (drop i all) in
    let count : i + (j - i) ≡ j = omega (arith, before) in
    let list : take i all ++ more ≡ take j all = sym (take-add i (j - i) all) ∙ ap (λ n. take n all) count in
    let second : PutsRows quoted more here behind b b (kept ++ old) (kept ++ new) = record {
      text = adds.text;
      rows = adds.rows;
      passes = passes_kept b (kept ++ old) (kept ++ new) adds.text (ap (λ l. kept ++ l) adds.added ∙ sym (append_assoc kept old adds.text));
    } in
    subst (λ (ts : List Tail). PutsRows quoted ts at behind a b k (kept ++ new)) list
    (puts_both quoted (take i all) more at here behind a b b k (kept ++ old) (kept ++ new) first second)

-- the items of some numbers among the first ones
pub picked_part : {A : Type 0} (none : A) (items : List A) (narrow wide numbers : List ℕ) (i n : ℕ) → numbers ≡ narrow ++ wide → i + n ≤ length narrow
    → take n (drop i (picked none items numbers)) ≡ picked none items (take n (drop i narrow))
picked_part {A} none items narrow wide numbers i n e few =
    let f : ℕ → A = λ k. get_or items k none in
    let here : i ≤ length narrow = omega (arith, few) in
    let there : n ≤ length (drop i narrow) = omega (arith, few, length-drop i narrow) in
    ap (λ (l : List ℕ). take n (drop i (map f l))) e ∙ ap (take n) (drop-map f i (narrow ++ wide)) ∙ take-map f n (drop i (narrow ++ wide))
    ∙ ap (λ (l : List ℕ). map f (take n l)) (drop-append-le i narrow wide here) ∙ ap (map f) (take-append-le n (drop i narrow) wide there)

-- ---- what is kept, and a block

-- all was written, and then a text was taken
pub passes_behind : (a b c : Option (List ℕ)) (k l m s : List ℕ) → l ≡ [] → Appends a b k → Passes b c l m s → Passes a c k m s
passes_behind a b c k l m s none first second = record {
  front = k ++ second.front;
  parts = ap (λ x. k ++ x) (ap (λ x. x ++ s) (sym none) ∙ second.parts) ∙ sym (append_assoc k second.front m);
  gained = Appends-trans a b c k second.front first second.gained;
}

-- what a block has was taken too
pub passes_handed : (a b c : Option (List ℕ)) (k l m s t : List ℕ) → Passes a b k (l ++ t) s → Passes b c l m t → Passes a c k m s
passes_handed a b c k l m s t first second = record {
  front = first.front ++ second.front;
  parts = first.parts ∙ ap (λ x. first.front ++ x) second.parts ∙ sym (append_assoc first.front second.front m);
  gained = Appends-trans a b c first.front second.front first.gained second.gained;
}

pub handed_fails : (a b c : Option (List ℕ)) (k l s : List ℕ) → Passes a b k l s → AppendsBeginning b c l → AppendsBeginning a c (k ++ s)
handed_fails a b c k l s first last =
    let parts : first.front ++ (l ++ []) ≡ k ++ s = ap (λ x. first.front ++ x) (append-nil l) ∙ sym first.parts in
    subst (AppendsBeginning a c) parts (beginning_behind a b c first.front l [] first.gained last)
