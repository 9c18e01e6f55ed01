-- Rows of cells that follow one another.
use Rattle.std.proofs.Common.{◌≡◌, ◌⊎◌, ◌∙◌, inl, inr, ℕ, zero, suc, ◌+◌, ◌*◌, Bool, Global, List, [], ◌∷◌, ◌++◌, Option, Some, String, ap, append_assoc, arith, codes, length, min, refl, string_bytes, subst, sym}
use Rattle.std.specs.List.{slice_get}
use Rattle.std.proofs.Math.Nat.{add-mul}
use Rattle.std.proofs.lemmas.List.{append-nil, length-append}
use Rattle.iam_open.specs.Asked.{AskedValue}
use Rattle.iam_open.specs.Code.Parts.{IsPart, all_together, from_of, to_of}
use Rattle.iam_open.specs.Report.{IsTold}
use Rattle.iam_open.specs.Rows.{TurnedRow, rows_text, together, told_text}
use Rattle.iam_row.specs.declared.quoted.Format.{Format}
use Rattle.iam_row.specs.declared.quoted.Format.TheVariants.{Csv, Json}
use Rattle.iam_world.specs.World.{WorldValue, world_cells}

-- ---- texts of rows one behind the other

pub together_nil : (format : Format) (text : List ℕ) → together format text [] ≡ text
together_nil Csv text = append-nil text
together_nil Json [] = refl
together_nil Json (c ∷ text) = refl

pub nil_together : (format : Format) (text : List ℕ) → together format [] text ≡ text
nil_together Csv text = refl
nil_together Json text = refl

together_more : (format : Format) (one other last : List ℕ)
    → together format (together format one other) last ≡ together format one (together format other last)
together_more Csv one other last = append_assoc one other last
together_more Json [] other last = refl
together_more Json (c ∷ one) [] last = refl
together_more Json (c ∷ one) (d ∷ other) [] = refl
together_more Json (c ∷ one) (d ∷ other) (e ∷ last) =
    let comma = codes "," in
    append_assoc (c ∷ one) (comma ++ (d ∷ other)) (comma ++ (e ∷ last))
    ∙ ap (λ it. (c ∷ one) ++ it) (append_assoc comma (d ∷ other) (comma ++ (e ∷ last)))

pub all_together_pushed : (format : Format) (text : List ℕ) (parts : List (String Global)) (part : String Global)
    → all_together format text (parts ++ part ∷ []) ≡ together format (all_together format text parts) (string_bytes part)
all_together_pushed format text [] part = refl
all_together_pushed format text (first ∷ parts) part = all_together_pushed format (together format text (string_bytes first)) parts part

-- an element of two lists one behind the other
at_either : {X : Type 0} (xs ys : List X) (x : X) (i : ℕ) → slice_get (xs ++ ys) i ≡ Some x
    → (slice_get xs i ≡ Some x) ⊎ ((j : ℕ) × (i ≡ length xs + j) × (slice_get ys j ≡ Some x))
at_either [] ys x i at = inr (i, (let same : i ≡ 0 + i = omega arith in same), at)
at_either (z ∷ xs) ys x zero at = inl at
at_either (z ∷ xs) ys x (suc i) at = elim (at_either xs ys x i at) [
  | inl there ↦ inl there
  | inr (j, same, there) ↦ inr (j, (let next : suc i ≡ suc (length xs) + j = omega (arith, same) in next), there)
]

rows_behind : (format : Format) (brief : Bool) (cell : ℕ) (xs ys : List (Option TurnedRow))
    → rows_text format brief cell (xs ++ ys) ≡ together format (rows_text format brief cell xs) (rows_text format brief (cell + length xs) ys)
rows_behind format brief cell [] ys =
    ap (λ n. rows_text format brief n ys) (let same : cell ≡ cell + 0 = omega arith in same)
    ∙ sym (nil_together format (rows_text format brief (cell + 0) ys))
rows_behind format brief cell (x ∷ xs) ys =
    let next : (cell + 1) + length xs ≡ cell + suc (length xs) = omega arith in
    let here = told_text format brief cell x in
    ap (λ it. together format here it)
    (rows_behind format brief (cell + 1) xs ys
    ∙ ap (λ n. together format (rows_text format brief (cell + 1) xs) (rows_text format brief n ys)) next)
    ∙ sym (together_more format here (rows_text format brief (cell + 1) xs) (rows_text format brief (cell + suc (length xs)) ys))

-- ---- parts

pub part_none : (format : Format) (brief : Bool) (asked : AskedValue) (world : WorldValue) (from : ℕ) → IsPart format brief asked world from from []
part_none format brief asked world from = record {
  told = [];
  count = omega arith;
  each = λ i entry at. let wrong : ⊥ = cc in absurd wrong;
  is = refl;
}

pub part_one : (format : Format) (brief : Bool) (asked : AskedValue) (world : WorldValue) (cell : ℕ) (told : Option TurnedRow) (text : List ℕ)
    → IsTold brief asked world cell told → text ≡ told_text format brief cell told → IsPart format brief asked world cell (cell + 1) text
part_one format brief asked world cell told text is made = record {
  told = told ∷ [];
  count = omega arith;
  each = each;
  is = made ∙ sym (together_nil format (told_text format brief cell told));
}
  where
    each : (i : ℕ) (entry : Option TurnedRow) → slice_get (told ∷ []) i ≡ Some entry → IsTold brief asked world (cell + i) entry
    each zero entry at =
        let same : told ≡ entry = cc in
        let here : cell ≡ cell + 0 = omega arith in
        let F : ℕ → Option TurnedRow → Type 0 = IsTold brief asked world in
        subst (λ n. F n entry) here (subst (F cell) same is)
    each (suc i) entry at = let wrong : ⊥ = cc in absurd wrong

-- two parts, one behind the other
pub parts_join : (format : Format) (brief : Bool) (asked : AskedValue) (world : WorldValue) (from mid to : ℕ) (one other : List ℕ)
    → IsPart format brief asked world from mid one → IsPart format brief asked world mid to other
    → IsPart format brief asked world from to (together format one other)
parts_join format brief asked world from mid to one other a b = record {
  told = a.told ++ b.told;
  count = omega (arith, a.count, b.count, length-append a.told b.told);
  each = λ i entry at. elim (at_either a.told b.told entry i at) [
    | inl there ↦ a.each i entry there
    | inr (j, same, there) ↦
        (let F : ℕ → Option TurnedRow → Type 0 = IsTold brief asked world in
        let place : mid + j ≡ from + i = omega (arith, a.count, same) in
        subst (λ n. F n entry) place (b.each j entry there))
  ];
  is =
      ap (λ it. together format it other) a.is
      ∙ ap (λ it. together format (rows_text format brief from a.told) it) (b.is ∙ ap (λ n. rows_text format brief n b.told) (sym a.count))
      ∙ sym (rows_behind format brief from a.told b.told);
}

-- a part, and what is told of the cell behind it
pub part_more : (format : Format) (brief : Bool) (asked : AskedValue) (world : WorldValue) (from cell : ℕ) (one other : List ℕ) (told : Option TurnedRow)
    → IsPart format brief asked world from cell one → IsTold brief asked world cell told
    → other ≡ together format one (told_text format brief cell told) → IsPart format brief asked world from (cell + 1) other
part_more format brief asked world from cell one other told before is made =
    subst (λ (text : List ℕ). IsPart format brief asked world from (cell + 1) text) (sym made)
    (parts_join format brief asked world from cell (cell + 1) one (told_text format brief cell told) before
    (part_one format brief asked world cell told (told_text format brief cell told) is refl))

-- ---- the parts of tiles

next_tile : (cells each product : ℕ) → min (product + each) cells ≡ min (min product cells + each) cells
next_tile cells each product = omega arith

pub all_parts : (format : Format) (brief : Bool) (asked : AskedValue) (world : WorldValue) (each : ℕ) (done : ℕ) (parts : List (String Global)) (text : List ℕ)
    → IsPart format brief asked world 0 (from_of world each done) text
    → ((i : ℕ) (part : String Global) → slice_get parts i ≡ Some part
    → IsPart format brief asked world (from_of world each (done + i)) (to_of world each (done + i)) (string_bytes part))
    → IsPart format brief asked world 0 (from_of world each (done + length parts)) (all_together format text parts)
all_parts format brief asked world each done [] text has given =
    let F : ℕ → Type 0 = λ n. IsPart format brief asked world 0 (from_of world each n) text in
    let same : done ≡ done + 0 = omega arith in
    subst F same has
all_parts format brief asked world each done (part ∷ parts) text has given =
    let F : ℕ → List ℕ → Type 0 = λ n it. IsPart format brief asked world 0 (from_of world each n) it in
    let here : done + 0 ≡ done = omega arith in
    let one : IsPart format brief asked world (from_of world each done) (to_of world each done) (string_bytes part) =
    subst (λ n. IsPart format brief asked world (from_of world each n) (to_of world each n) (string_bytes part)) here (given 0 part refl) in
    let both = together format text (string_bytes part) in
    let joined = parts_join format brief asked world 0 (from_of world each done) (to_of world each done) text (string_bytes part) has one in
    let product : (done + 1) * each ≡ done * each + each = next_product done each in
    let next : to_of world each done ≡ from_of world each (done + 1) =
    sym (ap (λ n. min n (world_cells world)) product ∙ next_tile (world_cells world) each (done * each)) in
    let more : F (done + 1) both = subst (λ n. IsPart format brief asked world 0 n both) next joined in
    let rest = all_parts format brief asked world each (done + 1) parts both more (
    λ i it at.
    let place : done + suc i ≡ (done + 1) + i = omega arith in
    subst (λ n. IsPart format brief asked world (from_of world each n) (to_of world each n) (string_bytes it)) place (given (suc i) it at)
    ) in
    let count : (done + 1) + length parts ≡ done + suc (length parts) = omega arith in
    subst (λ n. F n (all_together format both parts)) count rest
  where
    next_product : (n k : ℕ) → (n + 1) * k ≡ n * k + k
    next_product n k = omega (arith, add-mul n 1 k)
