-- Values of keys in parts one behind the other, and what contexts in question have in common.
use Rattle.std.proofs.Common.{◌≡◌, ◌∙◌, ℕ, List, [], ◌∷◌, ◌++◌, Bool, true, false, ◌||◌, cond, Option, Some, ap, refl, sym}
use Rattle.std.proofs.lemmas.List.Folds.{list_any-append}
use Rattle.std.specs.List.{find, list_any}
use Rattle.std.specs.Option.{option_map_or}
use Rattle.iam_context.specs.Context.{ContextValue, derived_names, has_key, is_same_key, keys_of, values_of}
use Rattle.iam_open.specs.Code.Known.{AgreeOn}
use Rattle.iam_open.proofs.AgreeLemmas.{no_values, same_in}
use Rattle.iam_open.proofs.ListLemmas.{neither}

abbrev Entry : Type 0
Entry = List ℕ × List (List ℕ)

abbrev valued : Option Entry → List (List ℕ)
valued found = option_map_or (λ (e : Entry). e.1) found []

-- where the first part has the key, it has its values there
front_more : (entry : Entry) (xs ys : ContextValue) (key : List ℕ) → (has_key (keys_of xs) key ≡ true → values_of (xs ++ ys) key ≡ values_of xs key)
    → (is_same_key entry.0 key || has_key (keys_of xs) key) ≡ true → values_of ((entry ∷ xs) ++ ys) key ≡ values_of (entry ∷ xs) key
front_more entry xs ys key rest is = go (is_same_key entry.0 key) refl is
  where
    go : (b : Bool) → is_same_key entry.0 key ≡ b → (b || has_key (keys_of xs) key) ≡ true
        → values_of ((entry ∷ xs) ++ ys) key ≡ values_of (entry ∷ xs) key
    go true same has =
        ap (λ b. valued (cond b (Some entry) (find (λ (e : Entry). is_same_key e.0 key) (xs ++ ys)))) same
        ∙ sym (ap (λ b. valued (cond b (Some entry) (find (λ (e : Entry). is_same_key e.0 key) xs))) same)
    go false same has =
        ap (λ b. valued (cond b (Some entry) (find (λ (e : Entry). is_same_key e.0 key) (xs ++ ys)))) same ∙ rest has
        ∙ sym (ap (λ b. valued (cond b (Some entry) (find (λ (e : Entry). is_same_key e.0 key) xs))) same)

front_has : (xs ys : ContextValue) (key : List ℕ) → has_key (keys_of xs) key ≡ true → values_of (xs ++ ys) key ≡ values_of xs key
front_has [] ys key is = absurd (let wrong : ⊥ = cc in wrong)
front_has (entry ∷ xs) ys key is = front_more entry xs ys key (front_has xs ys key) is

-- where it has not, those behind it have them
pub front_has_not : (xs ys : ContextValue) (key : List ℕ) → has_key (keys_of xs) key ≡ false → values_of (xs ++ ys) key ≡ values_of ys key
front_has_not [] ys key free = refl
front_has_not (entry ∷ xs) ys key free =
    let each = neither (is_same_key entry.0 key) (has_key (keys_of xs) key) free in
    ap (λ b. valued (cond b (Some entry) (find (λ (e : Entry). is_same_key e.0 key) (xs ++ ys)))) each.0 ∙ front_has_not xs ys key each.1

-- and where these have none, the first part has all
pub back_has_none : (xs ys : ContextValue) (key : List ℕ) → values_of ys key ≡ [] → values_of (xs ++ ys) key ≡ values_of xs key
back_has_none xs ys key none = go (has_key (keys_of xs) key) refl
  where
    go : (b : Bool) → has_key (keys_of xs) key ≡ b → values_of (xs ++ ys) key ≡ values_of xs key
    go true is = front_has xs ys key is
    go false free = front_has_not xs ys key free ∙ none ∙ sym (no_values xs key free)

pub front_same : (xs ys zs : ContextValue) (key : List ℕ) → values_of ys key ≡ values_of zs key → values_of (xs ++ ys) key ≡ values_of (xs ++ zs) key
front_same xs ys zs key same = go (has_key (keys_of xs) key) refl
  where
    go : (b : Bool) → has_key (keys_of xs) key ≡ b → values_of (xs ++ ys) key ≡ values_of (xs ++ zs) key
    go true is = front_has xs ys key is ∙ sym (front_has xs zs key is)
    go false free = front_has_not xs ys key free ∙ same ∙ sym (front_has_not xs zs key free)

-- all keys of the one list are of the other, or none is
abbrev pub AreOf : List (List ℕ) → List (List ℕ) → Type 0
AreOf keys others = (key : List ℕ) → has_key keys key ≡ true → has_key others key ≡ true

abbrev pub AreNotOf : List (List ℕ) → List (List ℕ) → Type 0
AreNotOf keys others = (key : List ℕ) → has_key keys key ≡ true → has_key others key ≡ false

-- by a test of each
abbrev pub all_of_others : List (List ℕ) → List (List ℕ) → Bool
all_of_others [] others = true
all_of_others (key ∷ keys) others = cond (has_key others key) (all_of_others keys others) false

of_more : (k : List ℕ) (keys others : List (List ℕ)) (key : List ℕ) → has_key others k ≡ true
    → (has_key keys key ≡ true → has_key others key ≡ true) → (is_same_key k key || has_key keys key) ≡ true → has_key others key ≡ true
of_more k keys others key there rest is = at (is_same_key k key) refl is
  where
    at : (b : Bool) → is_same_key k key ≡ b → (b || has_key keys key) ≡ true → has_key others key ≡ true
    at true same either = sym (same_in others k key same) ∙ there
    at false same either = rest either

first_of : (a b : Bool) → cond a b false ≡ true → (a ≡ true) × (b ≡ true)
first_of true b is = (refl, is)
first_of false b is = absurd (let wrong : ⊥ = cc in wrong)

pub are_of : (keys others : List (List ℕ)) → all_of_others keys others ≡ true → AreOf keys others
are_of [] others told key is = absurd (let wrong : ⊥ = cc in wrong)
are_of (k ∷ keys) others told key is =
    let each = first_of (has_key others k) (all_of_others keys others) told in
    of_more k keys others key each.0 (are_of keys others each.1 key) is

not_of_more : (k : List ℕ) (keys others : List (List ℕ)) (key : List ℕ) → has_key others k ≡ false
    → (has_key keys key ≡ true → has_key others key ≡ false) → (is_same_key k key || has_key keys key) ≡ true → has_key others key ≡ false
not_of_more k keys others key free rest is = at (is_same_key k key) refl is
  where
    at : (b : Bool) → is_same_key k key ≡ b → (b || has_key keys key) ≡ true → has_key others key ≡ false
    at true same either = sym (same_in others k key same) ∙ free
    at false same either = rest either

pub are_not_of : (keys others : List (List ℕ)) → list_any (has_key others) keys ≡ false → AreNotOf keys others
are_not_of [] others told key is = absurd (let wrong : ⊥ = cc in wrong)
are_not_of (k ∷ keys) others told key is =
    let each = neither (has_key others k) (list_any (has_key others) keys) told in
    not_of_more k keys others key each.0 (are_not_of keys others each.1 key) is

pub has_of : (xs ys : List (List ℕ)) (key : List ℕ) → has_key (xs ++ ys) key ≡ (has_key xs key || has_key ys key)
has_of xs ys key = list_any-append (λ k. is_same_key k key) xs ys

pub second : (a b : Bool) → (a || b) ≡ true → a ≡ false → b ≡ true
second true b either none = absurd (let wrong : ⊥ = cc in wrong)
second false b either none = either

-- derived keys have no values of a key that is not derived
pub none_derived : (part : ContextValue) (key : List ℕ) → AreOf (keys_of part) derived_names → has_key derived_names key ≡ false → values_of part key ≡ []
none_derived part key are free = go (has_key (keys_of part) key) refl
  where
    go : (b : Bool) → has_key (keys_of part) key ≡ b → values_of part key ≡ []
    go false absent = no_values part key absent
    go true there = absurd (let wrong : true ≡ false = sym (are key there) ∙ free in let bad : ⊥ = cc in bad)

-- and a part without derived keys has none that is derived
pub not_derived : (part : ContextValue) (key : List ℕ) → AreNotOf (keys_of part) derived_names → has_key derived_names key ≡ true
    → has_key (keys_of part) key ≡ false
not_derived part key are is = go (has_key (keys_of part) key) refl
  where
    go : (b : Bool) → has_key (keys_of part) key ≡ b → has_key (keys_of part) key ≡ false
    go false absent = absent
    go true there = absurd (let wrong : true ≡ false = sym is ∙ are key there in let bad : ⊥ = cc in bad)

-- contexts that begin with the same keys agree on these, on the keys that are tried, and on derived keys whose values are the same
pub turns_agree : (given tried own before after : ContextValue) (derived : List (List ℕ)) → AreNotOf (keys_of tried) derived_names
    → AreNotOf (keys_of own) derived_names → AreOf (keys_of before) derived_names → AreOf (keys_of after) derived_names
    → ((key : List ℕ) → has_key (keys_of tried) key ≡ true → values_of own key ≡ values_of tried key) → AreOf derived derived_names
    → ((key : List ℕ) → has_key derived key ≡ true → values_of before key ≡ values_of after key)
    → AgreeOn (keys_of given ++ (keys_of tried ++ derived)) (given ++ (tried ++ before)) (given ++ (own ++ after))
turns_agree given tried own before after derived tried_free own_free before_of after_of same derived_of told key is =
    go (has_key (keys_of given) key) refl
  where
    behind : (b : Bool) → has_key (keys_of tried) key ≡ b → has_key (keys_of tried ++ derived) key ≡ true
        → values_of (tried ++ before) key ≡ values_of (own ++ after) key
    behind true there either =
        let free = tried_free key there in
        back_has_none tried before key (none_derived before key before_of free) ∙ sym (same key there)
        ∙ sym (back_has_none own after key (none_derived after key after_of free))
    behind false absent either =
        let known = second (has_key (keys_of tried) key) (has_key derived key) (sym (has_of (keys_of tried) derived key) ∙ either) absent in
        front_has_not tried before key absent ∙ told key known ∙ sym (front_has_not own after key (not_derived own key own_free (derived_of key known)))

    go : (b : Bool) → has_key (keys_of given) key ≡ b → values_of (given ++ (tried ++ before)) key ≡ values_of (given ++ (own ++ after)) key
    go true there = front_has given (tried ++ before) key there ∙ sym (front_has given (own ++ after) key there)
    go false absent =
        let rest = second (has_key (keys_of given) key) (has_key (keys_of tried ++ derived) key)
        (sym (has_of (keys_of given) (keys_of tried ++ derived) key) ∙ is) absent in
        front_same given (tried ++ before) (own ++ after) key (behind (has_key (keys_of tried) key) refl rest)
