-- The order of keys, and a set and a map with one key more.
use Rattle.std.proofs.Common.{◌≡◌, ℕ, suc, ◌+◌, ◌<◌, List, [], ◌∷◌, ◌++◌, Bool, true, false, ◌||◌, cond, length, get_or, take, drop, map, reverse, refl, sym, ap, ◌∙◌, subst, add-one, drop-cons}
use Rattle.std.proofs.lemmas.List.{map-append, reverse-reverse, take_more}
use Rattle.std.proofs.lemmas.List.Folds.{list_any-append}
use Rattle.std.proofs.lemmas.Map.Text.{is_eq-slice_cmp}
use Rattle.std.proofs.lemmas.Slice.Eq.{bytes_eq-Decides}
use Rattle.std.specs.Bool.{one_answer}
use Rattle.std.specs.BTreeSet as sorted
use Rattle.std.specs.Char.{to_ascii_lowercase}
use Rattle.std.specs.Ordering.{is_eq}
use Rattle.std.specs.Str.{bytes_eq}
use Rattle.std.specs.declared.cmp.Ordering.{Ordering}
use Rattle.iam_context.specs.Keys.{HasKeys, contains_key, key_cmp}
use Rattle.iam_context.specs.Order.{backwards}
use Rattle.iam_context.specs.Context.{ContextValue, has_key, is_same_key, keys_of}
use Rattle.iam_context.specs.declared.key.Key.{Key}
use Rattle.iam_context.specs.declared.keys.Keys.{Keys}

-- the folded bytes of a key
abbrev folded : List ℕ → List ℕ
folded key = map to_ascii_lowercase key

-- texts are the same from their ends
same_backwards : (a b : List ℕ) → bytes_eq a b ≡ bytes_eq (reverse a) (reverse b)
same_backwards a b =
    let (back, go) = bytes_eq-Decides (reverse a) (reverse b) in
    one_answer (bytes_eq a b) (bytes_eq (reverse a) (reverse b)) (bytes_eq-Decides a b)
    (λ e. sym (reverse-reverse a) ∙ ap reverse (back e) ∙ reverse-reverse b, λ e. go (ap reverse e))

-- keys that are equal by their order are the same
told_same : (key other : List ℕ) → is_eq (key_cmp key other) ≡ is_same_key key other
told_same key other = is_eq-slice_cmp (backwards key) (backwards other) ∙ sym (same_backwards (folded key) (folded other))

-- the order of keys that are lent
abbrev order : Key → Key → Ordering
order x y = key_cmp x.0.now y.0.now

-- a set with one key more
pub has_more : (old new : Keys) (key : Key) (list : List (List ℕ)) → HasKeys old list
    → sorted.Updates order old.set new.set key true → HasKeys new (list ++ (key.0.now ∷ []))
has_more old new key list has updates text =
    updates.0 (record { 0 = record { ref_ptr = (0, 0); now = text } })
    ∙ ap (λ b. cond b true (contains_key old.set text)) (told_same key.0.now text)
    ∙ ap (λ b. cond (is_same_key key.0.now text) true b) (has text)
    ∙ either (is_same_key key.0.now text) (has_key list text)
    ∙ sym (list_any-append (λ k. is_same_key k text) list (key.0.now ∷ []))
  where
    either : (a b : Bool) → cond a true b ≡ (b || (a || false))
    either true true = refl
    either true false = refl
    either false true = refl
    either false false = refl

-- the keys of one entry more
pub keys_more : (xs : ContextValue) (i : ℕ) (e : List ℕ × List (List ℕ)) → i < length xs → e ≡ get_or xs i e
    → keys_of (take (i + 1) xs) ≡ keys_of (take i xs) ++ (e.0 ∷ [])
keys_more xs i e below is =
    ap keys_of (take_more xs i e below) ∙ map-append (λ (entry : List ℕ × List (List ℕ)). entry.0) (take i xs) (get_or xs i e ∷ [])
    ∙ ap (λ (x : List ℕ × List (List ℕ)). keys_of (take i xs) ++ (x.0 ∷ [])) (sym is)

-- the same, where the list goes by another name
pub keys_more_of : (xs ys : ContextValue) (i : ℕ) (e : List ℕ × List (List ℕ)) → ys ≡ xs → i < length ys → e ≡ get_or ys i e
    → keys_of (take (i + 1) xs) ≡ keys_of (take i xs) ++ (e.0 ∷ [])
keys_more_of xs ys i e same below is =
    subst (λ (zs : ContextValue). keys_of (take (i + 1) zs) ≡ keys_of (take i zs) ++ (e.0 ∷ [])) same (keys_more ys i e below is)

-- the keys that are left, with the first of them
pub keys_left_of : (xs ys : ContextValue) (i : ℕ) (e : List ℕ × List (List ℕ)) → ys ≡ xs → i < length ys → e ≡ get_or ys i e
    → keys_of (drop i xs) ≡ e.0 ∷ keys_of (drop (i + 1) xs)
keys_left_of xs ys i e same below is =
    subst (λ (zs : ContextValue). keys_of (drop i zs) ≡ e.0 ∷ keys_of (drop (i + 1) zs)) same
    (ap keys_of (drop-cons ys i e below)
    ∙ ap (λ (x : List ℕ × List (List ℕ)). x.0 ∷ keys_of (drop (suc i) ys)) (sym is)
    ∙ ap (λ k. e.0 ∷ keys_of (drop k ys)) (sym (add-one i)))
