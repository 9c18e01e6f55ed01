-- The first entry with a key.
use Rattle.std.proofs.Common.{◌≡◌, ℕ, suc, ◌+◌, ◌<◌, List, [], ◌∷◌, ◌++◌, true, false, cond, length, get_or, drop, refl, sym, ap, ◌∙◌, add-one, drop-cons, subst, Option, Some, None, map, option_map}
use Rattle.std.proofs.lemmas.List.{append-nil}
use Rattle.std.proofs.lemmas.List.Folds.{find-append}
use Rattle.std.specs.List.{find}
use Rattle.std.specs.Option.{option_or}
use Rattle.iam_context.specs.Code.Values.{first_values}
use Rattle.iam_context.specs.Context.{ContextValue, all_of, is_same_key}
use Rattle.iam_context.proofs.Joining.{parts_left}

abbrev Entry : Type 0
Entry = List ℕ × List (List ℕ)

-- the entries that are left, by the first of them
left : (xs ys : ContextValue) (i : ℕ) (e : Entry) (key : List ℕ) → ys ≡ xs → i < length ys → e ≡ get_or ys i e
    → first_values (drop i xs) key
    ≡ option_map (λ (entry : Entry). entry.1) (cond (is_same_key e.0 key) (Some e) (find (λ entry. is_same_key entry.0 key) (drop (i + 1) xs)))
left xs ys i e key same below is =
    subst (λ (zs : ContextValue). first_values (drop i zs) key
    ≡ option_map (λ (entry : Entry). entry.1) (cond (is_same_key e.0 key) (Some e) (find (λ entry. is_same_key entry.0 key) (drop (i + 1) zs)))) same
    (ap (λ l. first_values l key) (drop-cons ys i e below)
    ∙ ap (λ (x : Entry). first_values (x ∷ drop (suc i) ys) key) (sym is)
    ∙ ap (λ k. first_values (e ∷ drop k ys) key) (sym (add-one i)))

-- the first of them has the key
pub first_here : (xs ys : ContextValue) (i : ℕ) (e : Entry) (key name : List ℕ) (values : List (List ℕ)) → ys ≡ xs → i < length ys → e ≡ get_or ys i e
    → name ≡ e.0 → values ≡ e.1 → is_same_key name key ≡ true → first_values (drop i xs) key ≡ Some values
first_here xs ys i e key name values same below is named valued has =
    left xs ys i e key same below is
    ∙ ap (λ b. option_map (λ (entry : Entry). entry.1) (cond b (Some e) (find (λ entry. is_same_key entry.0 key) (drop (i + 1) xs))))
    (ap (λ n. is_same_key n key) (sym named) ∙ has)
    ∙ ap (λ v. Some v) (sym valued)

-- it has not
pub first_next : (xs ys : ContextValue) (i : ℕ) (e : Entry) (key name : List ℕ) → ys ≡ xs → i < length ys → e ≡ get_or ys i e
    → name ≡ e.0 → is_same_key name key ≡ false → first_values (drop i xs) key ≡ first_values (drop (i + 1) xs) key
first_next xs ys i e key name same below is named has =
    left xs ys i e key same below is
    ∙ ap (λ b. option_map (λ (entry : Entry). entry.1) (cond b (Some e) (find (λ entry. is_same_key entry.0 key) (drop (i + 1) xs))))
    (ap (λ n. is_same_key n key) (sym named) ∙ has)

-- of two contexts, one behind the other, the first that has the key
pub first_append : (a b : ContextValue) (key : List ℕ) → first_values (a ++ b) key ≡ option_or (first_values a key) (first_values b key)
first_append a b key =
    ap (λ o. option_map (λ (entry : Entry). entry.1) o) (find-append (λ (entry : Entry). is_same_key entry.0 key) a b)
    ∙ go (find (λ (entry : Entry). is_same_key entry.0 key) a)
  where
    go : (o : Option Entry) → option_map (λ (entry : Entry). entry.1) (option_or o (find (λ (entry : Entry). is_same_key entry.0 key) b))
        ≡ option_or (option_map (λ (entry : Entry). entry.1) o) (first_values b key)
    go None = refl
    go (Some e) = refl

-- the first of the parts that are left has the key
pub found_here : {A : Type 0} (f : A → ContextValue) (parts : List A) (i : ℕ) (e : A) (key : List ℕ) (values : List (List ℕ)) → i < length parts → e ≡ get_or parts i e
    → Some values ≡ first_values (f e) key → first_values (all_of (map f (drop i parts))) key ≡ Some values
found_here f parts i e key values below is has =
    ap (λ l. first_values l key) (parts_left f parts i e below is)
    ∙ first_append (f e) (all_of (map f (drop (i + 1) parts))) key
    ∙ ap (λ o. option_or o (first_values (all_of (map f (drop (i + 1) parts))) key)) (sym has)

-- it has not
pub found_next : {A : Type 0} (f : A → ContextValue) (parts : List A) (i : ℕ) (e : A) (key : List ℕ) → i < length parts → e ≡ get_or parts i e
    → None ≡ first_values (f e) key → first_values (all_of (map f (drop i parts))) key ≡ first_values (all_of (map f (drop (i + 1) parts))) key
found_next f parts i e key below is has =
    ap (λ l. first_values l key) (parts_left f parts i e below is)
    ∙ first_append (f e) (all_of (map f (drop (i + 1) parts))) key
    ∙ ap (λ o. option_or o (first_values (all_of (map f (drop (i + 1) parts))) key)) (sym has)

-- of four contexts, one behind the other
pub four_first : (a b c d : ContextValue) (key : List ℕ) → first_values (all_of (a ∷ (b ∷ (c ∷ (d ∷ []))))) key
    ≡ option_or (first_values a key) (option_or (first_values b key) (option_or (first_values c key) (first_values d key)))
four_first a b c d key =
    first_append a (b ++ (c ++ (d ++ []))) key
    ∙ ap (option_or (first_values a key)) (
    first_append b (c ++ (d ++ [])) key
    ∙ ap (option_or (first_values b key)) (
    first_append c (d ++ []) key ∙ ap (λ (l : ContextValue). option_or (first_values c key) (first_values l key)) (append-nil d)
    )
    )
