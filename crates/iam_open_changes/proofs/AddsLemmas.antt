-- Rows that are put behind others.
use Rattle.std.proofs.Common.{◌≡◌, ◌∙◌, ◌++◌, List, [], ◌∷◌, Bool, false, ◌||◌, ap, append_assoc, refl, string_bytes, sym}
use Rattle.std.proofs.Math.Bool.{or-false, or_assoc}
use Rattle.std.proofs.lemmas.Grind.{flat_map-append}
use Rattle.std.proofs.lemmas.List.{append-nil}
use Rattle.std.proofs.lemmas.List.Folds.{list_any-append}
use Rattle.iam_open_changes.specs.Code.Adds.{Adds, joined_kinds, kinds_with, no_kinds}
use Rattle.iam_open_changes.specs.Rows.{RowValue, all_rows, between_text, is_gained, is_lost, is_open, kinds_of, row_text, rows_behind}
use Rattle.iam_open_changes.specs.declared.rows.Kinds.{Kinds}
use Rattle.iam_open_changes.specs.declared.rows.Part.{Part}
use Rattle.iam_row.specs.declared.quoted.Format.{Format}

abbrev kinds : Bool → Bool → Bool → Kinds
kinds gained lost unknown = record { gained = gained; lost = lost; unknown = unknown }

kinds_same : (a b c d e f : Bool) → a ≡ d → b ≡ e → c ≡ f → kinds a b c ≡ kinds d e f
kinds_same a b c d e f x y z = ap (λ v. kinds v b c) x ∙ ap (λ v. kinds d v c) y ∙ ap (λ v. kinds d e v) z

pub joined_none : (k : Kinds) → joined_kinds k no_kinds ≡ k
joined_none k = kinds_same (k.gained || false) (k.lost || false) (k.unknown || false) k.gained k.lost k.unknown (or-false k.gained) (or-false k.lost) (or-false k.unknown)

pub joined_joined : (a b c : Kinds) → joined_kinds (joined_kinds a b) c ≡ joined_kinds a (joined_kinds b c)
joined_joined a b c =
    kinds_same ((a.gained || b.gained) || c.gained) ((a.lost || b.lost) || c.lost) ((a.unknown || b.unknown) || c.unknown) (a.gained || (b.gained || c.gained))
    (a.lost || (b.lost || c.lost)) (a.unknown || (b.unknown || c.unknown)) (or_assoc a.gained b.gained c.gained) (or_assoc a.lost b.lost c.lost)
    (or_assoc a.unknown b.unknown c.unknown)

pub kinds_append : (xs ys : List RowValue) → kinds_of (xs ++ ys) ≡ joined_kinds (kinds_of xs) (kinds_of ys)
kinds_append xs ys =
    let all = kinds_of (xs ++ ys) in
    let both = joined_kinds (kinds_of xs) (kinds_of ys) in
    kinds_same all.gained all.lost all.unknown both.gained both.lost both.unknown (list_any-append (λ (row : RowValue). is_gained row.word) xs ys)
    (list_any-append (λ (row : RowValue). is_lost row.word) xs ys) (list_any-append (λ (row : RowValue). is_open row.word) xs ys)

pub behind_append : (format : Format) (brief : Bool) (xs ys : List RowValue)
    → rows_behind format brief (xs ++ ys) ≡ rows_behind format brief xs ++ rows_behind format brief ys
behind_append format brief xs ys = flat_map-append (λ (row : RowValue). between_text format ++ row_text format brief row) xs ys

pub adds_none : (format : Format) (brief : Bool) (part : Part) → Adds format brief part [] part
adds_none format brief part = record { text = sym (append-nil (string_bytes part.text)); kinds = sym (joined_none part.kinds) }

pub adds_same : (format : Format) (brief : Bool) (part : Part) (rows : List RowValue) → rows ≡ [] → Adds format brief part rows part
adds_same format brief part rows none = record {
  text = sym (append-nil (string_bytes part.text)) ∙ ap (λ x. string_bytes part.text ++ rows_behind format brief x) (sym none);
  kinds = sym (joined_none part.kinds) ∙ ap (λ x. joined_kinds part.kinds (kinds_of x)) (sym none);
}

pub adds_both : (format : Format) (brief : Bool) (a b c : Part) (xs ys : List RowValue) → Adds format brief a xs b → Adds format brief b ys c
    → Adds format brief a (xs ++ ys) c
adds_both format brief a b c xs ys one other = record {
  text =
      other.text ∙ ap (λ x. x ++ rows_behind format brief ys) one.text
      ∙ append_assoc (string_bytes a.text) (rows_behind format brief xs) (rows_behind format brief ys)
      ∙ ap (λ x. string_bytes a.text ++ x) (sym (behind_append format brief xs ys));
  kinds =
      other.kinds ∙ ap (λ x. joined_kinds x (kinds_of ys)) one.kinds ∙ joined_joined a.kinds (kinds_of xs) (kinds_of ys)
      ∙ ap (joined_kinds a.kinds) (sym (kinds_append xs ys));
}

-- the rows of requests one behind the other
pub all_append : (xs ys : List (List RowValue)) → all_rows (xs ++ ys) ≡ all_rows xs ++ all_rows ys
all_append xs ys = flat_map-append (λ (rows : List RowValue). rows) xs ys

pub all_single : (rows : List RowValue) → all_rows (rows ∷ []) ≡ rows
all_single rows = append-nil rows

-- kinds of parts behind others
pub with_joined : (k m : Kinds) (parts : List Part) → kinds_with (joined_kinds k m) parts ≡ joined_kinds k (kinds_with m parts)
with_joined k m [] = refl
with_joined k m (part ∷ parts) =
    ap (λ x. kinds_with x parts) (joined_joined k m part.kinds) ∙ with_joined k (joined_kinds m part.kinds) parts

pub with_behind : (k : Kinds) (parts : List Part) → kinds_with k parts ≡ joined_kinds k (kinds_with no_kinds parts)
with_behind k parts = ap (λ x. kinds_with x parts) (sym (joined_none k)) ∙ with_joined k no_kinds parts

-- ---- one row

kinds_single : (row : RowValue) → kinds (is_gained row.word) (is_lost row.word) (is_open row.word) ≡ kinds_of (row ∷ [])
kinds_single row =
    kinds_same (is_gained row.word) (is_lost row.word) (is_open row.word) (is_gained row.word || false) (is_lost row.word || false)
    (is_open row.word || false) (sym (or-false (is_gained row.word))) (sym (or-false (is_lost row.word))) (sym (or-false (is_open row.word)))

pub adds_row : (format : Format) (brief : Bool) (old new : Part) (row : RowValue)
    → string_bytes new.text ≡ (string_bytes old.text ++ between_text format) ++ row_text format brief row
    → new.kinds ≡ joined_kinds old.kinds (record { gained = is_gained row.word; lost = is_lost row.word; unknown = is_open row.word })
    → Adds format brief old (row ∷ []) new
adds_row format brief old new row text kinds_are = record {
  text =
      text ∙ append_assoc (string_bytes old.text) (between_text format) (row_text format brief row)
      ∙ ap (λ x. string_bytes old.text ++ x) (sym (append-nil (between_text format ++ row_text format brief row)));
  kinds = kinds_are ∙ ap (joined_kinds old.kinds) (kinds_single row);
}

-- one more part
pub with_more : (k : Kinds) (parts : List Part) (part : Part) → kinds_with k (parts ++ part ∷ []) ≡ joined_kinds (kinds_with k parts) part.kinds
with_more k [] part = refl
with_more k (x ∷ parts) part = with_more (joined_kinds k x.kinds) parts part
