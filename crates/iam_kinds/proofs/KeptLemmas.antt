-- Answers that are kept for questions that come again.
use Rattle.std.proofs.Common.{◌≡◌, inl, inr, ◌⊎◌, ℕ, zero, suc, ◌∙◌, List, [], ◌∷◌, Option, Some, None, String, chars, false, length, map, string_bytes, replicate, refl, sym, ap}
use Rattle.std.proofs.Math.ListN.{set}
use Rattle.std.proofs.lemmas.List.{length-map}
use Rattle.std.specs.Global.{Global, Vec}
use Rattle.std.specs.List.{slice_get}
use Rattle.iam_glob.specs.declared.signs.Signs.{Signs}
use Rattle.iam_kinds.specs.Answers.{patterns_in, signs_of}
use Rattle.iam_kinds.specs.Kept.{IsAskedOf, question_with}

-- ---- slots
pub nothing_kept : {T : Type 0} (n i : ℕ) (kept : T) → ¬ (slice_get (replicate n None) i ≡ Some (Some kept))
nothing_kept zero i kept at = cc
nothing_kept (suc n) zero kept at = cc
nothing_kept (suc n) (suc i) kept at = nothing_kept n i kept at

-- once something is kept in a slot, a slot has it or what was there
pub kept_one : {T : Type 0} (slots : List (Option T)) (i : ℕ) (kept : T) (j : ℕ) (other : T) → slice_get (set slots i (Some kept)) j ≡ Some (Some other)
    → (other ≡ kept) ⊎ (slice_get slots j ≡ Some (Some other))
kept_one [] i kept j other at = inr at
kept_one (s ∷ slots) zero kept zero other at = let same : other ≡ kept = cc in inl same
kept_one (s ∷ slots) zero kept (suc j) other at = inr at
kept_one (s ∷ slots) (suc i) kept zero other at = inr at
kept_one (s ∷ slots) (suc i) kept (suc j) other at = kept_one slots i kept j other at

-- ---- questions
pub asked_with : (within : List Signs) (groups : List (Vec Signs)) (named : List (List ℕ))
    → IsAskedOf (question_with within groups named) named (patterns_in false within groups) (length within) (length groups)
asked_with within groups named = record {
  grammar = refl;
  named_are = refl;
  patterns_are = refl;
  within_are = sym (length-map within (signs_of false));
  groups_are = sym (length-map groups (λ g. map (signs_of false) g.items));
}

-- ---- answers
joined : (texts : List (String Global)) → map (λ text. chars (string_bytes text)) texts ≡ map chars (map string_bytes texts)
joined [] = refl
joined (text ∷ texts) = ap (λ l. chars (string_bytes text) ∷ l) (joined texts)

-- texts of the same bytes have the same characters
pub same_texts : (ones others : List (String Global)) → map string_bytes ones ≡ map string_bytes others
    → map (λ text. chars (string_bytes text)) ones ≡ map (λ text. chars (string_bytes text)) others
same_texts ones others same = joined ones ∙ ap (map chars) same ∙ sym (joined others)
