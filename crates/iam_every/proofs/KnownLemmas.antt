-- What is known is found again by its number.
use Rattle.std.proofs.Common.{◌≡◌, ◌<◌, ℕ, zero, suc, All, List, [], ◌∷◌, ◌++◌, Some, ap, arith, get_or, length, map, refl, subst, sym}
use Rattle.std.proofs.lemmas.List.Elements.{All-append, All-cons, All-contains, All-nil}
use Rattle.std.specs.List.{AllZip, slice_get}
use Rattle.iam_every.proofs.LineLemmas.{at_in}

pub all_push : {X : Type 0} (P : X → Type 0) (xs ys : List X) (x : X) → All P xs → P x → ys ≡ xs ++ (x ∷ []) → All P ys
all_push {X} P xs ys x all p is = subst (λ (l : List X). All P l) (sym is) (All-append P xs (x ∷ []) all (All-cons P x [] p (All-nil P)))

pub all_at : {X : Type 0} (P : X → Type 0) (xs : List X) (n : ℕ) (x : X) → All P xs → slice_get xs n ≡ Some x → P x
all_at P xs n x all at = All-contains P xs x all (at_in xs n x at)

pub still_at : {X : Type 0} (xs ys : List X) (n : ℕ) (x : X) → slice_get xs n ≡ Some x → slice_get (xs ++ ys) n ≡ Some x
still_at [] ys n x at = absurd (let wrong : ⊥ = cc in wrong)
still_at (y ∷ xs) ys zero x at = at
still_at (y ∷ xs) ys (suc n) x at = still_at xs ys n x at

pub zip_map : {X Y : Type 0} (R S : X → Y → Type 0) → ((x : X) (y : Y) → R x y → S x y) → (xs : List X) (ys : List Y) → AllZip R xs ys → AllZip S xs ys
zip_map R S f [] [] fit = tt
zip_map R S f [] (y ∷ ys) fit = absurd fit
zip_map R S f (x ∷ xs) [] fit = absurd fit
zip_map R S f (x ∷ xs) (y ∷ ys) fit = (f x y fit.0, zip_map R S f xs ys fit.1)

pub zip_get : {X Y : Type 0} (R : X → Y → Type 0) (xs : List X) (ys : List Y) (i : ℕ) (x : X) → AllZip R xs ys → slice_get xs i ≡ Some x
    → (y : Y) × (slice_get ys i ≡ Some y) × R x y
zip_get R [] ys i x fit at = absurd (let wrong : ⊥ = cc in wrong)
zip_get R (z ∷ xs) [] i x fit at = absurd fit
zip_get {X} R (z ∷ xs) (y ∷ ys) zero x fit at = (y, refl, subst (λ (w : X). R w y) (let same : z ≡ x = cc in same) fit.0)
zip_get R (z ∷ xs) (y ∷ ys) (suc i) x fit at = zip_get R xs ys i x fit.1 at

pub get_some : {X : Type 0} (xs : List X) (k : ℕ) → k < length xs → (x : X) × (slice_get xs k ≡ Some x)
get_some [] k below = absurd (let wrong : ⊥ = omega (arith, below) in wrong)
get_some (x ∷ xs) zero below = (x, refl)
get_some (x ∷ xs) (suc k) below = get_some xs k (omega (arith, below))

pub zip_at : {X Y : Type 0} (R : X → Y → Type 0) (xs : List X) (ys : List Y) (i : ℕ) (d : X) (e : Y) → AllZip R xs ys → i < length ys
    → R (get_or xs i d) (get_or ys i e)
zip_at R [] [] i d e fit below = absurd (let wrong : ⊥ = omega (arith, below) in wrong)
zip_at R [] (y ∷ ys) i d e fit below = absurd fit
zip_at R (x ∷ xs) [] i d e fit below = absurd fit
zip_at R (x ∷ xs) (y ∷ ys) zero d e fit below = fit.0
zip_at R (x ∷ xs) (y ∷ ys) (suc i) d e fit below = zip_at R xs ys i d e fit.1 (omega (arith, below))

pub zip_length : {X Y : Type 0} (R : X → Y → Type 0) (xs : List X) (ys : List Y) → AllZip R xs ys → length xs ≡ length ys
zip_length R [] [] fit = refl
zip_length R [] (y ∷ ys) fit = absurd fit
zip_length R (x ∷ xs) [] fit = absurd fit
zip_length R (x ∷ xs) (y ∷ ys) fit = ap (λ n. suc n) (zip_length R xs ys fit.1)

-- what is read is the same, whatever stands for what is not there
pub same_or : {X : Type 0} (xs : List X) (i : ℕ) (d e : X) → i < length xs → get_or xs i d ≡ get_or xs i e
same_or [] i d e below = absurd (let wrong : ⊥ = omega (arith, below) in wrong)
same_or (x ∷ xs) zero d e below = refl
same_or (x ∷ xs) (suc i) d e below = same_or xs i d e (omega (arith, below))

pub map_at : {X Y : Type 0} (f : X → Y) (xs : List X) (n : ℕ) (x : X) → slice_get xs n ≡ Some x → slice_get (map f xs) n ≡ Some (f x)
map_at f [] n x at = absurd (let wrong : ⊥ = cc in wrong)
map_at {X} {Y} f (y ∷ xs) zero x at = let same : y ≡ x = cc in ap (λ (z : X). Some (f z)) same
map_at f (y ∷ xs) (suc n) x at = map_at f xs n x at
