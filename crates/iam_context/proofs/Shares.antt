-- Keys that stand twice, by walking over them.
use Rattle.std.proofs.Common.{◌≡◌, ℕ, List, [], ◌∷◌, ◌++◌, Bool, true, false, ◌||◌, not, map, refl, sym, ap, ◌∙◌, append_assoc}
use Rattle.std.proofs.lemmas.List.{append-nil}
use Rattle.std.proofs.lemmas.List.Folds.{list_any-append}
use Rattle.std.proofs.lemmas.Slice.Eq.{bytes_eq-Decides}
use Rattle.std.specs.Bool.{Decides}
use Rattle.std.specs.Char.{to_ascii_lowercase}
use Rattle.std.specs.List.{list_any}
use Rattle.std.specs.Str.{bytes_eq}
use Rattle.iam_context.specs.Keys.{shares}
use Rattle.iam_context.specs.Context.{has_key, has_twice, is_same_key}

same_way : (a b : List ℕ) → bytes_eq a b ≡ bytes_eq b a
same_way a b = go (bytes_eq a b) (bytes_eq b a) (bytes_eq-Decides a b) (bytes_eq-Decides b a)
  where
    go : (x y : Bool) → Decides x (a ≡ b) → Decides y (b ≡ a) → x ≡ y
    go true true p q = refl
    go false false p q = refl
    go true false p q = sym (q.1 (sym (p.0 refl)))
    go false true p q = p.1 (sym (q.0 refl))

-- one key more among those that the keys may be of
any_more : (others keys : List (List ℕ)) (k : List ℕ)
    → list_any (has_key (others ++ (k ∷ []))) keys ≡ (list_any (has_key others) keys || has_key keys k)
any_more others [] k = refl
any_more others (x ∷ xs) k =
    ap (λ b. b || list_any (has_key (others ++ (k ∷ []))) xs) (list_any-append (λ other. is_same_key other x) others (k ∷ []))
    ∙ ap (λ b. (has_key others x || (is_same_key k x || false)) || b) (any_more others xs k)
    ∙ ap (λ b. (has_key others x || (b || false)) || (list_any (has_key others) xs || has_key xs k))
    (same_way (map to_ascii_lowercase k) (map to_ascii_lowercase x))
    ∙ swap (has_key others x) (is_same_key x k) (list_any (has_key others) xs) (has_key xs k)
  where
    swap : (a b c d : Bool) → ((a || (b || false)) || (c || d)) ≡ ((a || c) || (b || d))
    swap true b c d = refl
    swap false true true d = refl
    swap false true false d = refl
    swap false false c d = refl

-- the first key decides, or the others beside it
pub shares_cons : (others keys : List (List ℕ)) (k : List ℕ)
    → shares others (k ∷ keys) ≡ (has_key others k || shares (others ++ (k ∷ [])) keys)
shares_cons others keys k =
    swap (has_key others k) (list_any (has_key others) keys) (has_key keys k) (has_twice keys)
    ∙ ap (λ b. has_key others k || (b || has_twice keys)) (sym (any_more others keys k))
  where
    swap : (a b c d : Bool) → ((a || b) || (c || d)) ≡ (a || ((b || c) || d))
    swap true b c d = refl
    swap false true c d = refl
    swap false false c d = refl

-- the first keys decide, or the others beside them
pub shares_append : (others keys rest : List (List ℕ))
    → shares others (keys ++ rest) ≡ (shares others keys || shares (others ++ keys) rest)
shares_append others [] rest = ap (λ l. shares l rest) (sym (append-nil others))
shares_append others (k ∷ keys) rest =
    shares_cons others (keys ++ rest) k
    ∙ ap (λ b. has_key others k || b) (shares_append (others ++ (k ∷ [])) keys rest)
    ∙ ap (λ l. has_key others k || (shares (others ++ (k ∷ [])) keys || shares l rest)) (append_assoc others (k ∷ []) keys)
    ∙ group (has_key others k) (shares (others ++ (k ∷ [])) keys) (shares (others ++ (k ∷ keys)) rest)
    ∙ ap (λ b. b || shares (others ++ (k ∷ keys)) rest) (sym (shares_cons others keys k))
  where
    group : (a b c : Bool) → (a || (b || c)) ≡ ((a || b) || c)
    group true b c = refl
    group false b c = refl

-- beside no keys
pub shares_none : (keys : List (List ℕ)) → shares [] keys ≡ has_twice keys
shares_none keys = ap (λ b. b || has_twice keys) (none keys)
  where
    none : (ks : List (List ℕ)) → list_any (has_key []) ks ≡ false
    none [] = refl
    none (k ∷ ks) = none ks

-- the first key is one of those before
pub shares_here : (seen keys : List (List ℕ)) (k : List ℕ) → has_key seen k ≡ true → shares seen (k ∷ keys) ≡ true
shares_here seen keys k has = shares_cons seen keys k ∙ ap (λ b. b || shares (seen ++ (k ∷ [])) keys) has

-- the first key is none of those before
pub shares_next : (seen keys : List (List ℕ)) (k : List ℕ) → has_key seen k ≡ false → shares seen (k ∷ keys) ≡ shares (seen ++ (k ∷ [])) keys
shares_next seen keys k has = shares_cons seen keys k ∙ ap (λ b. b || shares (seen ++ (k ∷ [])) keys) has

-- what is new was not there
pub not_there : (has is_new : Bool) → is_new ≡ not has → is_new ≡ true → has ≡ false
not_there false is_new e f = refl
not_there true is_new e f = cc

-- what is not new was there
pub there : (has is_new : Bool) → is_new ≡ not has → is_new ≡ false → has ≡ true
there true is_new e f = refl
there false is_new e f = cc
