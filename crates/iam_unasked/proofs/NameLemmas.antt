-- Keys that are there already.
use Rattle.std.proofs.Common.{◌≡◌, ◌∙◌, ℕ, List, [], ◌∷◌, ◌++◌, Bool, true, false, ◌||◌, map, refl, sym, ap}
use Rattle.std.proofs.lemmas.List.Folds.{list_any-append}
use Rattle.std.proofs.lemmas.Slice.Eq.{bytes_eq-Decides}
use Rattle.std.specs.Char.{to_ascii_lowercase}
use Rattle.std.specs.List.{list_any}
use Rattle.std.specs.Str.{bytes_eq}
use Rattle.iam_context.specs.Context.{has_key, is_same_key}

-- a key that is the same as another is there where that one is
same_has : (list : List (List ℕ)) (one other : List ℕ) → is_same_key one other ≡ true → has_key list one ≡ has_key list other
same_has list one other same =
    let both : map to_ascii_lowercase one ≡ map to_ascii_lowercase other =
    (bytes_eq-Decides (map to_ascii_lowercase one) (map to_ascii_lowercase other)).0 same in
    ap (λ (t : List ℕ). list_any (λ k. bytes_eq (map to_ascii_lowercase k) t) list) both

-- a key that is there adds none
pub key_again : (list : List (List ℕ)) (key other : List ℕ) → has_key list key ≡ true → has_key list other ≡ has_key (list ++ key ∷ []) other
key_again list key other there = go (is_same_key key other) refl ∙ sym (list_any-append (λ (k : List ℕ). is_same_key k other) list (key ∷ []))
  where
    right_false : (b : Bool) → b ≡ (b || false)
    right_false true = refl
    right_false false = refl

    go : (same : Bool) → is_same_key key other ≡ same → has_key list other ≡ (has_key list other || (is_same_key key other || false))
    go false is = right_false (has_key list other) ∙ ap (λ (b : Bool). has_key list other || (b || false)) (sym is)
    go true is =
        let so : has_key list other ≡ true = sym (same_has list key other is) ∙ there in
        so ∙ ap (λ (b : Bool). b || (is_same_key key other || false)) (sym so)
