-- Parts, one behind the other.
use Rattle.std.proofs.Common.{◌≡◌, ℕ, suc, ◌+◌, ◌<◌, List, [], ◌∷◌, ◌++◌, Bool, true, false, ◌||◌, length, get_or, take, drop, map, refl, sym, ap, ◌∙◌, append_assoc, add-one, drop-cons, subst}
use Rattle.std.proofs.lemmas.List.{append-nil, map-append, take_more}
use Rattle.std.proofs.lemmas.List.Concat.{flat_map-append}
use Rattle.iam_context.specs.Keys.{shares}
use Rattle.iam_context.specs.Context.{ContextValue, all_of, has_derived, has_twice, joined, keys_of}
use Rattle.iam_context.specs.ContextFault.{IsClean}
use Rattle.iam_context.specs.declared.fault.ContextFault.TheVariants.{KeyTwice, DerivedKeyGiven, OutOfMemory}
use Rattle.iam_context.proofs.Shares.{shares_append, shares_none}

abbrev Entry : Type 0
Entry = List ℕ × List (List ℕ)

-- one entry more
pub entries_more : (context xs ys : ContextValue) (i : ℕ) (e : Entry) (k : List ℕ) (v : List (List ℕ)) → ys ≡ xs → i < length ys
    → e ≡ get_or ys i e → k ≡ e.0 → v ≡ e.1 → context ++ take (i + 1) xs ≡ (context ++ take i xs) ++ ((k, v) ∷ [])
entries_more context xs ys i e k v same below is key values =
    subst (λ (zs : ContextValue). context ++ take (i + 1) zs ≡ (context ++ take i zs) ++ ((k, v) ∷ [])) same
    (ap (λ l. context ++ l) (take_more ys i e below)
    ∙ sym (append_assoc context (take i ys) (get_or ys i e ∷ []))
    ∙ ap (λ (x : Entry). (context ++ take i ys) ++ (x ∷ [])) (sym is)
    ∙ ap (λ (t : List ℕ). (context ++ take i ys) ++ ((t, e.1) ∷ [])) (sym key)
    ∙ ap (λ (t : List (List ℕ)). (context ++ take i ys) ++ ((k, t) ∷ [])) (sym values))

-- one part more
pub parts_more : {A : Type 0} (f : A → ContextValue) (given : List A) (i : ℕ) (e : A) → i < length given → e ≡ get_or given i e
    → all_of (map f (take (i + 1) given)) ≡ all_of (map f (take i given)) ++ f e
parts_more f given i e below is =
    ap (λ l. all_of (map f l)) (take_more given i e below)
    ∙ ap all_of (map-append f (take i given) (get_or given i e ∷ []))
    ∙ flat_map-append (λ (part : ContextValue). part) (map f (take i given)) (f (get_or given i e) ∷ [])
    ∙ ap (λ l. all_of (map f (take i given)) ++ l) (append-nil (f (get_or given i e)))
    ∙ ap (λ x. all_of (map f (take i given)) ++ f x) (sym is)

-- the parts that are left, with the first of them
pub parts_left : {A : Type 0} (f : A → ContextValue) (given : List A) (i : ℕ) (e : A) → i < length given → e ≡ get_or given i e
    → all_of (map f (drop i given)) ≡ f e ++ all_of (map f (drop (i + 1) given))
parts_left f given i e below is =
    ap (λ l. all_of (map f l)) (drop-cons given i e below)
    ∙ ap (λ x. f x ++ all_of (map f (drop (suc i) given))) (sym is)
    ∙ ap (λ k. f e ++ all_of (map f (drop k given))) (sym (add-one i))

-- the derived keys behind the given parts
pub joined_of : {A : Type 0} (f : A → ContextValue) (given parts all : List A) (derived : A) → parts ≡ given → all ≡ parts ++ (derived ∷ [])
    → all_of (map f all) ≡ joined (map f given) (f derived)
joined_of f given parts all derived same behind =
    ap (λ l. all_of (map f l)) (behind ∙ ap (λ l. l ++ (derived ∷ [])) same)
    ∙ ap all_of (map-append f given (derived ∷ []))
    ∙ flat_map-append (λ (part : ContextValue). part) (map f given) (f derived ∷ [])
    ∙ ap (λ l. all_of (map f given) ++ l) (append-nil (f derived))

-- the same of their keys
pub part_keys_more : {A : Type 0} (f : A → ContextValue) (given : List A) (i : ℕ) (e : A) → i < length given → e ≡ get_or given i e
    → keys_of (all_of (map f (take (i + 1) given))) ≡ keys_of (all_of (map f (take i given))) ++ keys_of (f e)
part_keys_more f given i e below is =
    ap keys_of (parts_more f given i e below is) ∙ map-append (λ (entry : Entry). entry.0) (all_of (map f (take i given))) (f e)

-- what is left beside the parts before, by its first part
parts_shared : {A : Type 0} (f : A → ContextValue) (given : List A) (i : ℕ) (e : A) (shared : Bool) → i < length given → e ≡ get_or given i e
    → shared ≡ shares (keys_of (all_of (map f (take i given)))) (keys_of (f e))
    → shares (keys_of (all_of (map f (take i given)))) (keys_of (all_of (map f (drop i given))))
    ≡ (shared || shares (keys_of (all_of (map f (take (i + 1) given)))) (keys_of (all_of (map f (drop (i + 1) given)))))
parts_shared f given i e shared below is found =
    let before = all_of (map f (take i given)) in
    let rest = all_of (map f (drop (i + 1) given)) in
    ap (λ l. shares (keys_of before) (keys_of l)) (parts_left f given i e below is)
    ∙ ap (shares (keys_of before)) (map-append (λ (entry : Entry). entry.0) (f e) rest)
    ∙ shares_append (keys_of before) (keys_of (f e)) (keys_of rest)
    ∙ ap (λ l. shares (keys_of before) (keys_of (f e)) || shares l (keys_of rest)) (sym (map-append (λ (entry : Entry). entry.0) before (f e)))
    ∙ ap (λ l. shares (keys_of before) (keys_of (f e)) || shares (keys_of l) (keys_of rest)) (sym (parts_more f given i e below is))
    ∙ ap (λ b. b || shares (keys_of (all_of (map f (take (i + 1) given)))) (keys_of rest)) (sym found)

-- the part shares a key
pub part_shared : {A : Type 0} (f : A → ContextValue) (given : List A) (i : ℕ) (e : A) (shared : Bool) → i < length given → e ≡ get_or given i e
    → shared ≡ shares (keys_of (all_of (map f (take i given)))) (keys_of (f e)) → shared ≡ true
    → shares (keys_of (all_of (map f (take i given)))) (keys_of (all_of (map f (drop i given)))) ≡ true
part_shared f given i e shared below is found is_shared =
    parts_shared f given i e shared below is found
    ∙ ap (λ b. b || shares (keys_of (all_of (map f (take (i + 1) given)))) (keys_of (all_of (map f (drop (i + 1) given))))) is_shared

-- it shares none
pub part_new : {A : Type 0} (f : A → ContextValue) (given : List A) (i : ℕ) (e : A) (shared : Bool) → i < length given → e ≡ get_or given i e
    → shared ≡ shares (keys_of (all_of (map f (take i given)))) (keys_of (f e)) → shared ≡ false
    → shares (keys_of (all_of (map f (take i given)))) (keys_of (all_of (map f (drop i given))))
    ≡ shares (keys_of (all_of (map f (take (i + 1) given)))) (keys_of (all_of (map f (drop (i + 1) given))))
part_new f given i e shared below is found is_new =
    parts_shared f given i e shared below is found
    ∙ ap (λ b. b || shares (keys_of (all_of (map f (take (i + 1) given)))) (keys_of (all_of (map f (drop (i + 1) given))))) is_new

-- a part without either fault
pub is_clean : (part : ContextValue) → has_twice (keys_of part) ≡ false → has_derived (keys_of part) ≡ false → IsClean [] part
is_clean part once given KeyTwice = shares_none (keys_of part) ∙ once
is_clean part once given DerivedKeyGiven = given
is_clean part once given OutOfMemory = refl
