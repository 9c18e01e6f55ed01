-- The keys that requests give, each once, and how large they are.
use Rattle.std.proofs.Common.{◌≡◌, ◌≢◌, ◌⊎◌, ◌∙◌, inl, inr, ℕ, zero, suc, ◌+◌, ◌≤◌, List, [], ◌∷◌, ◌++◌, Some, ap, arith, length, refl, sym}
use Rattle.std.specs.List.{slice_get, sum_by}
use Rattle.std.proofs.lemmas.List.Sums.{sum_by-cons}
use Rattle.iam_context.specs.Context.{ContextValue}
use Rattle.iam_asked.specs.Request.{AskedValue}
use Rattle.iam_asked.specs.Size.{AreKeysOf, IsSizeOf, own_size}

-- ---- one element more

pub at_before : {X : Type 0} (xs : List X) (x y : X) (i : ℕ) → slice_get xs i ≡ Some y → slice_get (xs ++ x ∷ []) i ≡ Some y
at_before [] x y i at = let wrong : ⊥ = cc in absurd wrong
at_before (z ∷ xs) x y zero at = at
at_before (z ∷ xs) x y (suc i) at = at_before xs x y i at

pub at_last : {X : Type 0} (xs : List X) (x : X) → slice_get (xs ++ x ∷ []) (length xs) ≡ Some x
at_last [] x = refl
at_last (z ∷ xs) x = at_last xs x

pub at_either : {X : Type 0} (xs : List X) (x y : X) (i : ℕ) → slice_get (xs ++ x ∷ []) i ≡ Some y
    → (slice_get xs i ≡ Some y) ⊎ ((i ≡ length xs) × (x ≡ y))
at_either [] x y zero at = inr (refl, (let same : x ≡ y = cc in same))
at_either [] x y (suc i) at = let wrong : ⊥ = cc in absurd wrong
at_either (z ∷ xs) x y zero at = inl at
at_either (z ∷ xs) x y (suc i) at = elim (at_either xs x y i at) [
  | inl there ↦ inl there
  | inr (last, same) ↦ inr (ap suc last, same)
]

-- ---- lists that have no element twice

abbrev pub IsOnce : {X : Type 0} → List X → Type 0
IsOnce {X} xs = (i k : ℕ) (x : X) → slice_get xs i ≡ Some x → slice_get xs k ≡ Some x → i ≡ k

abbrev pub IsAmong : {X : Type 0} → List X → List X → Type 0
IsAmong {X} xs ys = (i : ℕ) (x : X) → slice_get xs i ≡ Some x → (k : ℕ) × (slice_get ys k ≡ Some x)

-- the list without the element at a place
abbrev without : {X : Type 0} → ℕ → List X → List X
without n [] = []
without zero (x ∷ xs) = xs
without (suc n) (x ∷ xs) = x ∷ without n xs

sum_without : {X : Type 0} (f : X → ℕ) (ys : List X) (k : ℕ) (x : X) → slice_get ys k ≡ Some x → sum_by f ys ≡ f x + sum_by f (without k ys)
sum_without f [] k x at = let wrong : ⊥ = cc in absurd wrong
sum_without f (y ∷ ys) zero x at = let same : y ≡ x = cc in sum_by-cons f y ys ∙ ap (λ it. f it + sum_by f ys) same
sum_without f (y ∷ ys) (suc k) x at =
    let rest = sum_without f ys k x at in
    omega (arith, rest, sum_by-cons f y ys, sum_by-cons f y (without k ys))

stays : {X : Type 0} (ys : List X) (k j : ℕ) (x : X) → slice_get ys j ≡ Some x → j ≢ k → (i : ℕ) × (slice_get (without k ys) i ≡ Some x)
stays [] k j x at apart = let wrong : ⊥ = cc in absurd wrong
stays (y ∷ ys) zero zero x at apart = absurd (apart refl)
stays (y ∷ ys) zero (suc j) x at apart = (j, at)
stays (y ∷ ys) (suc k) zero x at apart = (0, at)
stays (y ∷ ys) (suc k) (suc j) x at apart = let (i, there) = stays ys k j x at (λ same. apart (ap suc same)) in (suc i, there)

-- what has no element twice, and all of whose elements another list has, comes to no more than that
pub sum_among : {X : Type 0} (f : X → ℕ) (xs ys : List X) → IsOnce xs → IsAmong xs ys → sum_by f xs ≤ sum_by f ys
sum_among f [] ys once among = omega arith
sum_among {X} f (x ∷ xs) ys once among =
    let (k, at) = among 0 x refl in
    let rest = sum_among f xs (without k ys) (λ i j y one two. suc_same i j (once (suc i) (suc j) y one two)) (
    λ i y there.
    let (j, found) = among (suc i) y there in
    stays ys k j y found (λ same. other i y there (same_there j k y found at same))
    ) in
    omega (arith, rest, sum_without f ys k x at, sum_by-cons f x xs)
  where
    suc_same : (i j : ℕ) → suc i ≡ suc j → i ≡ j
    suc_same i j same = omega (arith, same)

    same_there : (j k : ℕ) (y : X) → slice_get ys j ≡ Some y → slice_get ys k ≡ Some x → j ≡ k → x ≡ y
    same_there j k y one two same =
        let both : Some x ≡ Some y = sym two ∙ ap (slice_get ys) (sym same) ∙ one in
        let is : x ≡ y = cc in is

    other : (i : ℕ) (y : X) → slice_get xs i ≡ Some y → x ≡ y → ⊥
    other i y there same = let zero_is = once 0 (suc i) y (ap Some same) there in omega (arith, zero_is)

-- ---- the keys of requests

-- each request is one of others
abbrev pub AreAmong : List AskedValue → List AskedValue → Type 0
AreAmong asked others = IsAmong asked others

keys_among : (asked others : List AskedValue) (keys more : List ContextValue) → AreKeysOf asked keys → AreKeysOf others more → AreAmong asked others → IsAmong keys more
keys_among asked others keys more one two among i own at =
    let (some, (n, request, there, is)) = one.given i own at in
    let (k, found) = among n request there in
    let (j, here) = two.all k request found (λ none. some (sym is ∙ none)) in
    (j, here ∙ ap Some is)

-- the keys of some requests are no larger than those of all
pub size_among : (asked others : List AskedValue) (size more : ℕ) → IsSizeOf asked size → IsSizeOf others more → AreAmong asked others → size ≤ more
size_among asked others size more (keys, one, is) (all, two, are) among =
    let most = sum_among own_size keys all one.once (keys_among asked others keys all one two among) in
    omega (arith, most, is, are)

pub one_size : (asked : List AskedValue) (size other : ℕ) → IsSizeOf asked size → IsSizeOf asked other → size ≡ other
one_size asked size other one two =
    let less = size_among asked asked size other one two (λ i request at. (i, at)) in
    let more = size_among asked asked other size two one (λ i request at. (i, at)) in
    omega (arith, less, more)

-- ---- one request more

pub no_keys : AreKeysOf [] []
no_keys = record {
  once = λ i k own at there. let wrong : ⊥ = cc in absurd wrong;
  given = λ i own at. let wrong : ⊥ = cc in absurd wrong;
  all = λ n one at some. let wrong : ⊥ = cc in absurd wrong;
}

given_more : (asked : List AskedValue) (keys : List ContextValue) (one : AskedValue) → AreKeysOf asked keys → (i : ℕ) (own : ContextValue)
    → slice_get keys i ≡ Some own
    → (own ≢ []) × ((n : ℕ) × (it : AskedValue) × (slice_get (asked ++ one ∷ []) n ≡ Some it) × (it.own ≡ own))
given_more asked keys one are i own at =
    let (some, (n, it, there, is)) = are.given i own at in
    (some, (n, it, at_before asked one it n there, is))

-- one that gives no keys, or some that are there
pub keys_same : (asked : List AskedValue) (keys : List ContextValue) (one : AskedValue) → AreKeysOf asked keys
    → (one.own ≢ [] → (i : ℕ) × (slice_get keys i ≡ Some one.own)) → AreKeysOf (asked ++ one ∷ []) keys
keys_same asked keys one are known = record {
  once = are.once;
  given = given_more asked keys one are;
  all = λ n it at some. elim (at_either asked one it n at) [
    | inl there ↦ are.all n it there some
    | inr (last, same) ↦
        (let (i, found) = known (λ none. some (ap (λ (x : AskedValue). x.own) (sym same) ∙ none)) in (i, found ∙ ap (λ (x : AskedValue). Some x.own) same))
  ];
}

-- one that gives some that are not
pub keys_new : (asked : List AskedValue) (keys : List ContextValue) (one : AskedValue) → AreKeysOf asked keys → one.own ≢ []
    → ((i : ℕ) → slice_get keys i ≢ Some one.own) → AreKeysOf (asked ++ one ∷ []) (keys ++ one.own ∷ [])
keys_new asked keys one are some new = record {
  once = λ i k own at there. by i k own (at_either keys one.own own i at) (at_either keys one.own own k there);
  given = λ i own at. elim (at_either keys one.own own i at) [
    | inl there ↦ given_more asked keys one are i own there
    | inr (last, same) ↦ ((λ none. some (same ∙ none)), (length asked, one, at_last asked one, same))
  ];
  all = λ n it at has. elim (at_either asked one it n at) [
    | inl there ↦ (let (i, found) = are.all n it there has in (i, at_before keys one.own it.own i found))
    | inr (last, same) ↦ (length keys, at_last keys one.own ∙ ap (λ (x : AskedValue). Some x.own) same)
  ];
}
  where
    by : (i k : ℕ) (own : ContextValue) → (slice_get keys i ≡ Some own) ⊎ ((i ≡ length keys) × (one.own ≡ own))
        → (slice_get keys k ≡ Some own) ⊎ ((k ≡ length keys) × (one.own ≡ own)) → i ≡ k
    by i k own (inl here) (inl there) = are.once i k own here there
    by i k own (inl here) (inr (last, same)) = absurd (new i (here ∙ ap Some (sym same)))
    by i k own (inr (last, same)) (inl there) = absurd (new k (there ∙ ap Some (sym same)))
    by i k own (inr (one_is, same)) (inr (two_is, same')) = one_is ∙ sym two_is
