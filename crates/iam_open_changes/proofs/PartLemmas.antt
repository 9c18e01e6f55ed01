-- Rows of cells that follow one another.
use Rattle.std.proofs.Common.{◌≡◌, ◌⊎◌, ◌∙◌, inl, inr, ℕ, zero, suc, ◌+◌, ◌*◌, ◌<◌, Bool, List, [], ◌∷◌, ◌++◌, Some, ap, append_assoc, arith, get_or, length, min, refl, string_bytes, subst, sym, take}
use Rattle.std.proofs.Math.Nat.{add-mul}
use Rattle.std.proofs.lemmas.Grind.{flat_map-append}
use Rattle.std.proofs.lemmas.List.{append-nil, length-append}
use Rattle.iam_open.proofs.ListLemmas.{taken_more}
use Rattle.iam_open_changes.specs.Report.{IsAnyKeyChanges}
use Rattle.iam_open_changes.specs.declared.report.Side.TheVariants.{After, Before}
use Rattle.std.specs.List.{flat_map, slice_get}
use Rattle.iam_open_changes.specs.Code.Adds.{Adds, joined_kinds, kinds_with, no_kinds}
use Rattle.iam_open_changes.specs.Code.Parts.{AreRowsAt, IsPart, from_of, to_of, world_at}
use Rattle.iam_open_changes.specs.Rows.{RowValue, all_rows, kinds_of, report_text, rows_behind}
use Rattle.iam_open_changes.specs.declared.report.Side.{Side}
use Rattle.iam_open_changes.specs.declared.rows.Kinds.{Kinds}
use Rattle.iam_open_changes.specs.declared.rows.Part.{Part}
use Rattle.iam_open_changes.proofs.AddsLemmas.{all_append, all_single, behind_append, kinds_append, with_more}
use Rattle.iam_row.specs.declared.quoted.Format.{Format}
use Rattle.iam_world.specs.World.{WorldValue, world_cells}

-- an element of two lists one behind the other
at_either : {X : Type 0} (xs ys : List X) (x : X) (i : ℕ) → slice_get (xs ++ ys) i ≡ Some x
    → (slice_get xs i ≡ Some x) ⊎ ((j : ℕ) × (i ≡ length xs + j) × (slice_get ys j ≡ Some x))
at_either [] ys x i at = inr (i, (let same : i ≡ 0 + i = omega arith in same), at)
at_either (z ∷ xs) ys x zero at = inl at
at_either (z ∷ xs) ys x (suc i) at = elim (at_either xs ys x i at) [
  | inl there ↦ inl there
  | inr (j, same, there) ↦ inr (j, (let next : suc i ≡ suc (length xs) + j = omega (arith, same) in next), there)
]

pub part_none : (format : Format) (brief : Bool) (side : Side) (before after : WorldValue) (from : ℕ)
    → IsPart format brief side before after from from [] no_kinds
part_none format brief side before after from = record {
  entries = [];
  count = omega arith;
  each = λ i entry at. let wrong : ⊥ = cc in absurd wrong;
  is = refl;
  kinds_are = refl;
}

part_one : (format : Format) (brief : Bool) (side : Side) (before after : WorldValue) (cell : ℕ) (rows : List RowValue)
    → AreRowsAt side before after cell rows
    → IsPart format brief side before after cell (cell + 1) (rows_behind format brief rows) (kinds_of rows)
part_one format brief side before after cell rows are = record {
  entries = rows ∷ [];
  count = omega arith;
  each = each;
  is = ap (rows_behind format brief) (sym (all_single rows));
  kinds_are = ap kinds_of (sym (all_single rows));
}
  where
    each : (i : ℕ) (entry : List RowValue) → slice_get (rows ∷ []) i ≡ Some entry → AreRowsAt side before after (cell + i) entry
    each zero entry at =
        let same : rows ≡ entry = cc in
        let here : cell ≡ cell + 0 = omega arith in
        let F : ℕ → List RowValue → Type 0 = AreRowsAt side before after in
        subst (λ n. F n entry) here (subst (F cell) same are)
    each (suc i) entry at = let wrong : ⊥ = cc in absurd wrong

-- two parts, one behind the other
parts_join : (format : Format) (brief : Bool) (side : Side) (before after : WorldValue) (from mid to : ℕ) (one other : List ℕ) (k m : Kinds)
    → IsPart format brief side before after from mid one k → IsPart format brief side before after mid to other m
    → IsPart format brief side before after from to (one ++ other) (joined_kinds k m)
parts_join format brief side before after from mid to one other k m a b = record {
  entries = a.entries ++ b.entries;
  count = omega (arith, a.count, b.count, length-append a.entries b.entries);
  each = λ i entry at. elim (at_either a.entries b.entries entry i at) [
    | inl there ↦ a.each i entry there
    | inr (j, same, there) ↦
        (let F : ℕ → List RowValue → Type 0 = AreRowsAt side before after in
        let place : mid + j ≡ from + i = omega (arith, a.count, same) in
        subst (λ n. F n entry) place (b.each j entry there))
  ];
  is =
      ap (λ it. it ++ other) a.is ∙ ap (λ it. rows_behind format brief (all_rows a.entries) ++ it) b.is
      ∙ sym (behind_append format brief (all_rows a.entries) (all_rows b.entries))
      ∙ ap (rows_behind format brief) (sym (all_append a.entries b.entries));
  kinds_are =
      ap (λ it. joined_kinds it m) a.kinds_are ∙ ap (joined_kinds (kinds_of (all_rows a.entries))) b.kinds_are
      ∙ sym (kinds_append (all_rows a.entries) (all_rows b.entries)) ∙ ap kinds_of (sym (all_append a.entries b.entries));
}

-- the rows of one more cell
pub part_more : (format : Format) (brief : Bool) (side : Side) (before after : WorldValue) (from cell : ℕ) (rows : List RowValue) (old new : Part)
    → IsPart format brief side before after from cell (string_bytes old.text) old.kinds → AreRowsAt side before after cell rows
    → Adds format brief old rows new → IsPart format brief side before after from (cell + 1) (string_bytes new.text) new.kinds
part_more format brief side before after from cell rows old new part are adds =
    let joined =
    parts_join format brief side before after from cell (cell + 1) (string_bytes old.text) (rows_behind format brief rows) old.kinds (kinds_of rows) part
    (part_one format brief side before after cell rows are) in
    let F : List ℕ → Kinds → Type 0 = IsPart format brief side before after from (cell + 1) in
    subst (λ (k : Kinds). F (string_bytes new.text) k) (sym adds.kinds)
    (subst (λ (t : List ℕ). F t (joined_kinds old.kinds (kinds_of rows))) (sym adds.text) joined)

-- ---- the parts of tiles

next_tile : (cells each product : ℕ) → min (product + each) cells ≡ min (min product cells + each) cells
next_tile cells each product = omega arith

abbrev pub text_of : Part → List ℕ
text_of part = string_bytes part.text

pub all_parts : (format : Format) (brief : Bool) (side : Side) (before after : WorldValue) (each : ℕ) (done : ℕ) (parts : List Part) (text : List ℕ)
    (kinds : Kinds) → IsPart format brief side before after 0 (from_of (world_at side before after) each done) text kinds
    → ((i : ℕ) (part : Part) → slice_get parts i ≡ Some part
    → IsPart format brief side before after (from_of (world_at side before after) each (done + i)) (to_of (world_at side before after) each (done + i))
    (text_of part) part.kinds)
    → IsPart format brief side before after 0 (from_of (world_at side before after) each (done + length parts)) (text ++ flat_map text_of parts)
    (kinds_with kinds parts)
all_parts format brief side before after each done [] text kinds has given =
    let world = world_at side before after in
    let F : ℕ → List ℕ → Type 0 = λ n it. IsPart format brief side before after 0 (from_of world each n) it kinds in
    let same : done ≡ done + 0 = omega arith in
    subst (λ n. F n (text ++ [])) same (subst (F done) (sym (append-nil text)) has)
all_parts format brief side before after each done (part ∷ parts) text kinds has given =
    let world = world_at side before after in
    let all = kinds_with (joined_kinds kinds part.kinds) parts in
    let here : done + 0 ≡ done = omega arith in
    let one : IsPart format brief side before after (from_of world each done) (to_of world each done) (text_of part) part.kinds =
    subst (λ n. IsPart format brief side before after (from_of world each n) (to_of world each n) (text_of part) part.kinds) here (given 0 part refl) in
    let joined =
    parts_join format brief side before after 0 (from_of world each done) (to_of world each done) text (text_of part) kinds part.kinds has one in
    let product : (done + 1) * each ≡ done * each + each = next_product done each in
    let next : to_of world each done ≡ from_of world each (done + 1) =
    sym (ap (λ n. min n (world_cells world)) product ∙ next_tile (world_cells world) each (done * each)) in
    let more : IsPart format brief side before after 0 (from_of world each (done + 1)) (text ++ text_of part) (joined_kinds kinds part.kinds) =
    subst (λ n. IsPart format brief side before after 0 n (text ++ text_of part) (joined_kinds kinds part.kinds)) next joined in
    let rest = all_parts format brief side before after each (done + 1) parts (text ++ text_of part) (joined_kinds kinds part.kinds) more (
    λ i it at.
    let place : done + suc i ≡ (done + 1) + i = omega arith in
    subst (λ n. IsPart format brief side before after (from_of world each n) (to_of world each n) (text_of it) it.kinds) place (given (suc i) it at)
    ) in
    let F : ℕ → List ℕ → Type 0 = λ n it. IsPart format brief side before after 0 (from_of world each n) it all in
    let count : (done + 1) + length parts ≡ done + suc (length parts) = omega arith in
    subst (λ n. F n (text ++ (text_of part ++ flat_map text_of parts))) count
    (subst (F ((done + 1) + length parts)) (append_assoc text (text_of part) (flat_map text_of parts)) rest)
  where
    next_product : (n k : ℕ) → (n + 1) * k ≡ n * k + k
    next_product n k = omega (arith, add-mul n 1 k)

-- one more part that is put behind a text and kinds
pub put_more : (old : List ℕ) (k : Kinds) (parts : List Part) (i : ℕ) (x : Part) (text more : List ℕ) (kinds with_x : Kinds) → i < length parts
    → x ≡ get_or parts i x → text ≡ old ++ flat_map text_of (take i parts) → more ≡ text ++ text_of x → kinds ≡ kinds_with k (take i parts)
    → with_x ≡ joined_kinds kinds x.kinds
    → (more ≡ old ++ flat_map text_of (take (i + 1) parts)) × (with_x ≡ kinds_with k (take (i + 1) parts))
put_more old k parts i x text more kinds with_x below at text_is more_is kinds_are with_are =
    let taken = taken_more parts i x below at in
    let front = flat_map text_of (take i parts) in (
      more_is ∙ ap (λ it. it ++ text_of x) text_is ∙ append_assoc old front (text_of x)
          ∙ ap (λ it. old ++ (front ++ it)) (sym (append-nil (text_of x)))
          ∙ ap (λ it. old ++ it) (sym (flat_map-append text_of (take i parts) (x ∷ [])))
          ∙ ap (λ it. old ++ flat_map text_of it) (sym taken),
      with_are ∙ ap (λ it. joined_kinds it x.kinds) kinds_are ∙ sym (with_more k (take i parts) x) ∙ ap (kinds_with k) (sym taken),
    )

-- ---- the whole

pub whole_is : (format : Format) (brief : Bool) (before after : WorldValue) (one other : List ℕ) (k m : Kinds) (text : List ℕ) (kinds : Kinds)
    → IsPart format brief After before after 0 (world_cells after) one k → IsPart format brief Before before after 0 (world_cells before) other m
    → ((all : List RowValue) → one ++ other ≡ rows_behind format brief all → text ≡ report_text format brief all)
    → kinds ≡ joined_kinds k m → IsAnyKeyChanges format brief before after text kinds
whole_is format brief before after one other k m text kinds first last made kinds_are =
    let rows = all_rows first.entries ++ all_rows last.entries in
    let all : all_rows (first.entries ++ last.entries) ≡ rows = all_append first.entries last.entries in
    let texts : one ++ other ≡ rows_behind format brief (all_rows (first.entries ++ last.entries)) =
    ap (λ it. it ++ other) first.is ∙ ap (λ it. rows_behind format brief (all_rows first.entries) ++ it) last.is
    ∙ sym (behind_append format brief (all_rows first.entries) (all_rows last.entries)) ∙ ap (rows_behind format brief) (sym all) in
    record {
      firsts = first.entries;
      lasts = last.entries;
      of_after = record { count = omega (arith, first.count); each = first.each };
      of_before = record { count = omega (arith, last.count); each = last.each };
      is = made (all_rows (first.entries ++ last.entries)) texts;
      kinds_are =
          kinds_are ∙ ap (λ it. joined_kinds it m) first.kinds_are ∙ ap (joined_kinds (kinds_of (all_rows first.entries))) last.kinds_are
          ∙ sym (kinds_append (all_rows first.entries) (all_rows last.entries)) ∙ ap kinds_of (sym all);
    }
