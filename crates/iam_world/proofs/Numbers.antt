-- Accounts by their numbers.
use Rattle.std.proofs.Common.{◌≡◌, ℕ, ◌+◌, List, [], ◌∷◌, ◌++◌, map, length, Bool, true, false, ◌||◌, cond, Option, Some, None, is_some, option_map, refl, sym, ap, ◌∙◌, append_assoc}
use Rattle.std.specs.Bool.{Decides}
use Rattle.std.specs.Borrow.{Bor}
use Rattle.std.specs.List.{find, list_any, position_from, slice_get}
use Rattle.std.specs.Option.{option_and_then}
use Rattle.std.specs.Slice.{IsItemAt}
use Rattle.std.specs.Str.{bytes_eq}
use Rattle.std.proofs.lemmas.List.{length_push}
use Rattle.std.proofs.lemmas.Option.{slice_get_past, slice_get_read}
use Rattle.std.proofs.lemmas.Slice.Eq.{bytes_eq-Decides}
use Rattle.iam_world.specs.World.{AccountValue}

-- a text has a place where some text passes
pub has_place : {X : Type 0} (test : X → Bool) (i : ℕ) (xs : List X) → is_some (position_from test i xs) ≡ list_any test xs
has_place test i [] = refl
has_place {X} test i (x ∷ xs) = step (test x) (has_place test (i + 1) xs)
  where
    step : (b : Bool) → is_some (position_from test (i + 1) xs) ≡ list_any test xs → is_some (cond b (Some i) (position_from test (i + 1) xs)) ≡ (b || list_any test xs)
    step true later = refl
    step false later = later

-- what is lent at a number
pub lent_at : {X : Type 0} (xs : List X) (i : ℕ) (found : Option (Bor X)) → IsItemAt xs i found → option_map (λ x. x.now) found ≡ slice_get xs i
lent_at xs i None at = sym (slice_get_past xs i at.3)
lent_at xs i (Some x) at = sym (slice_get_read xs (length xs) i x.now refl at.3.0 at.1)

same_way : (a b : List ℕ) → bytes_eq a b ≡ bytes_eq b a
same_way a b = go (bytes_eq a b) (bytes_eq b a) (bytes_eq-Decides a b) (bytes_eq-Decides b a)
  where
    go : (x y : Bool) → Decides x (a ≡ b) → Decides y (b ≡ a) → x ≡ y
    go true true p q = refl
    go false false p q = refl
    go true false p q = sym (q.1 (sym (p.0 refl)))
    go false true p q = p.1 (sym (q.0 refl))

behind : {X : Type 0} (before xs : List X) (x : X) → slice_get (before ++ (x ∷ xs)) (length before) ≡ Some x
behind [] xs x = refl
behind (y ∷ before) xs x = behind before xs x

-- the first account with an id is that with the first place of the id
first_from : (id : List ℕ) (before accounts : List AccountValue) (i : ℕ) → i ≡ length before
    → find (λ account. bytes_eq account.id id) accounts
    ≡ option_and_then (slice_get (before ++ accounts)) (position_from (bytes_eq id) i (map (λ account. account.id) accounts))
first_from id before [] i same = refl
first_from id before (a ∷ accounts) i same =
    ap (λ b. cond b (Some a) (find (λ account. bytes_eq account.id id) accounts)) (same_way a.id id)
    ∙ step (bytes_eq id a.id) (ap (slice_get (before ++ (a ∷ accounts))) same ∙ behind before accounts a)
    (first_from id (before ++ (a ∷ [])) accounts (i + 1) (ap (λ n. n + 1) same ∙ sym (length_push before a))
    ∙ ap (λ l. option_and_then (slice_get l) (position_from (bytes_eq id) (i + 1) (map (λ (account : AccountValue). account.id) accounts))) (append_assoc before (a ∷ []) accounts))
  where
    step : (b : Bool) → slice_get (before ++ (a ∷ accounts)) i ≡ Some a
        → find (λ account. bytes_eq account.id id) accounts
        ≡ option_and_then (slice_get (before ++ (a ∷ accounts))) (position_from (bytes_eq id) (i + 1) (map (λ account. account.id) accounts))
        → cond b (Some a) (find (λ account. bytes_eq account.id id) accounts)
        ≡ option_and_then (slice_get (before ++ (a ∷ accounts))) (cond b (Some i) (position_from (bytes_eq id) (i + 1) (map (λ account. account.id) accounts)))
    step true here later = sym here
    step false here later = later

pub first_account : (id : List ℕ) (accounts : List AccountValue)
    → find (λ account. bytes_eq account.id id) accounts ≡ option_and_then (slice_get accounts) (position_from (bytes_eq id) 0 (map (λ account. account.id) accounts))
first_account id accounts = first_from id [] accounts 0 refl
