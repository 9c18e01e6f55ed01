-- Texts of a world, and their places.
use Rattle.std.proofs.Common.{◌≡◌, ℕ, zero, suc, ◌+◌, ◌<◌, ◌≤◌, get_or, length, take, cond, Bool, true, false, ◌||◌, Contains, List, [], ◌∷◌, ◌++◌, map, Some, refl, sym, ap, subst, ◌∙◌, ⊎_elim, arith}
use Rattle.std.specs.Bool.{Decides, one_answer}
use Rattle.std.specs.List.{list_any, slice_get}
use Rattle.std.specs.Str.{bytes_eq}
use Rattle.std.proofs.lemmas.Bool.{cases_lt}
use Rattle.std.proofs.lemmas.List.{map_more, take_more}
use Rattle.std.proofs.lemmas.List.Folds.{list_any_more}
use Rattle.std.proofs.lemmas.Option.{get_or_from_slice_get, slice_get-get_or, slice_get_within}
use Rattle.std.proofs.lemmas.Slice.Eq.{bytes_eq-Decides}
use Rattle.iam_changes.specs.Twice.{StandOnce, StandsBefore}

-- one more image, as at a step of a loop
pub one_more : {A : Type 0} (f : A → List ℕ) (xs : List A) (texts : List (List ℕ)) (i : ℕ) (x : A) (text : List ℕ) → texts ≡ map f (take i xs) → slice_get xs i ≡ Some x → text ≡ f x
    → texts ++ text ∷ [] ≡ map f (take (i + 1) xs)
one_more f xs texts i x text all at same =
    let inside = slice_get_within xs i x at in
    ap (λ l. l ++ text ∷ []) all ∙ ap (λ t. map f (take i xs) ++ t ∷ []) (same ∙ ap f (sym (get_or_from_slice_get xs i x x at))) ∙ sym (map_more f xs i x inside)

pub take_next : (xs texts : List (List ℕ)) (i : ℕ) (text : List ℕ) → texts ≡ take i xs → slice_get xs i ≡ Some text → texts ++ text ∷ [] ≡ take (i + 1) xs
take_next xs texts i text all at =
    let inside = slice_get_within xs i text at in
    ap (λ l. l ++ text ∷ []) all ∙ ap (λ t. take i xs ++ t ∷ []) (sym (get_or_from_slice_get xs i text text at)) ∙ sym (take_more xs i text inside)

-- the element of which this is the image
pub image_at : {A : Type 0} (f : A → List ℕ) (xs : List A) (i : ℕ) (text : List ℕ) → slice_get (map f xs) i ≡ Some text → (x : A) × (slice_get xs i ≡ Some x) × (text ≡ f x)
image_at f [] i text at = absurd (let wrong : ⊥ = cc in wrong)
image_at f (x ∷ xs) zero text at = (x, refl, let same : f x ≡ text = cc in sym same)
image_at f (x ∷ xs) (suc i) text at = image_at f xs i text at

-- a text by its place
pub text_at : (texts : List (List ℕ)) (i : ℕ) (text : List ℕ) → i < length texts → text ≡ get_or texts i text → slice_get texts i ≡ Some text
text_at texts i text below e = slice_get-get_or texts i text below ∙ ap Some (sym e)

pub contains_at : (texts : List (List ℕ)) (i : ℕ) (text : List ℕ) → slice_get texts i ≡ Some text → Contains texts text
contains_at texts i text at = (i, slice_get_within texts i text at, get_or_from_slice_get texts i text text at)

pub at_contains : (texts : List (List ℕ)) (text : List ℕ) → Contains texts text → (i : ℕ) × (slice_get texts i ≡ Some text)
at_contains texts text (i, below, e) = (i, text_at texts i text below (sym e))

-- ---- texts that stand again

-- equal texts, either way round
pub flipped : (a b : List ℕ) → bytes_eq a b ≡ bytes_eq b a
flipped a b =
    let back : Decides (bytes_eq b a) (a ≡ b) = (λ h. sym ((bytes_eq-Decides b a).0 h), λ e. (bytes_eq-Decides b a).1 (sym e)) in
    one_answer (bytes_eq a b) (bytes_eq b a) (bytes_eq-Decides a b) back

either_way : (a b : Bool) → cond a true b ≡ (b || a)
either_way true true = refl
either_way true false = refl
either_way false true = refl
either_way false false = refl

-- one more text is known
pub seen_more : (texts : List (List ℕ)) (i : ℕ) (key : List ℕ) (old new : List ℕ → Bool) → i < length texts → key ≡ get_or texts i key
    → ((q : List ℕ) → old q ≡ list_any (bytes_eq q) (take i texts)) → ((q : List ℕ) → new q ≡ cond (bytes_eq key q) true (old q))
    → (q : List ℕ) → new q ≡ list_any (bytes_eq q) (take (i + 1) texts)
seen_more texts i key old new below is before put q =
    put q ∙ either_way (bytes_eq key q) (old q) ∙ ap (λ b. b || bytes_eq key q) (before q)
    ∙ ap (λ b. list_any (bytes_eq q) (take i texts) || b) (flipped key q ∙ ap (bytes_eq q) is) ∙ sym (list_any_more (bytes_eq q) texts i key below)

-- a text is among the first ones
any_before : (texts : List (List ℕ)) (n : ℕ) (text : List ℕ) → list_any (bytes_eq text) (take n texts) ≡ true → (m : ℕ) × (m < n) × (slice_get texts m ≡ Some text)
any_before [] zero text h = absurd (let wrong : ⊥ = cc in wrong)
any_before [] (suc n) text h = absurd (let wrong : ⊥ = cc in wrong)
any_before (x ∷ xs) zero text h = absurd (let wrong : ⊥ = cc in wrong)
any_before (x ∷ xs) (suc n) text h = by (bytes_eq text x) refl (list_any (bytes_eq text) (take n xs)) (λ g. any_before xs n text g) h
  where
    by : (b : Bool) → bytes_eq text x ≡ b → (rest : Bool) → (rest ≡ true → (m : ℕ) × (m < n) × (slice_get xs m ≡ Some text)) → (b || rest) ≡ true
        → (m : ℕ) × (m < suc n) × (slice_get (x ∷ xs) m ≡ Some text)
    by true e rest more g = (0, omega arith, ap Some (sym ((bytes_eq-Decides text x).0 e)))
    by false e rest more g = let found = more g in (suc found.0, (let below = found.1 in omega (arith, below)), found.2)

none_before : (texts : List (List ℕ)) (n : ℕ) (text : List ℕ) → list_any (bytes_eq text) (take n texts) ≡ false → (m : ℕ) → m < n → ¬ (slice_get texts m ≡ Some text)
none_before [] n text h m below at = let wrong : ⊥ = cc in wrong
none_before (x ∷ xs) zero text h m below at = absurd (omega (arith, below))
none_before (x ∷ xs) (suc n) text h m below at = by (bytes_eq text x) refl (list_any (bytes_eq text) (take n xs)) (λ g. none_before xs n text g) h m below at
  where
    by : (b : Bool) → bytes_eq text x ≡ b → (rest : Bool) → (rest ≡ false → (k : ℕ) → k < n → ¬ (slice_get xs k ≡ Some text)) → (b || rest) ≡ false
        → (k : ℕ) → k < suc n → ¬ (slice_get (x ∷ xs) k ≡ Some text)
    by true e rest more g k under there = let wrong : ⊥ = cc in wrong
    by false e rest more g zero under there =
        let same : x ≡ text = cc in
        let on = (bytes_eq-Decides text x).1 (sym same) in
        let wrong : ⊥ = cc in wrong
    by false e rest more g (suc k) under there = more g k (omega (arith, under)) there

pub stands_again : (texts : List (List ℕ)) (i : ℕ) (key : List ℕ) → i < length texts → key ≡ get_or texts i key → list_any (bytes_eq key) (take i texts) ≡ true → StandsBefore texts i
stands_again texts i key below is any = let (m, under, at) = any_before texts i key any in (m, key, under, at, text_at texts i key below is)

pub stands_first : (texts : List (List ℕ)) (i : ℕ) (key : List ℕ) → i < length texts → key ≡ get_or texts i key → list_any (bytes_eq key) (take i texts) ≡ false → ¬ StandsBefore texts i
stands_first texts i key below is none (m, text, under, at, there) =
    let here = text_at texts i key below is in
    let same : text ≡ key = cc in
    none_before texts i key none m under (at ∙ ap Some same)

pub none_more : (texts : List (List ℕ)) (i : ℕ) → ((m : ℕ) → m < i → ¬ StandsBefore texts m) → ¬ StandsBefore texts i → (m : ℕ) → m < i + 1 → ¬ StandsBefore texts m
none_more texts i before here m below =
    ⊎_elim (λ under. before m under) (λ past. let same : i ≡ m = omega (arith, past, below) in subst (λ k. ¬ StandsBefore texts k) same here) (cases_lt m i)

pub all_once : (texts : List (List ℕ)) (i : ℕ) → length texts ≤ i → ((m : ℕ) → m < i → ¬ StandsBefore texts m) → StandOnce texts
all_once texts i past before n (m, text, under, at, there) =
    let inside = slice_get_within texts n text there in
    before n (omega (arith, inside, past)) (m, text, under, at, there)
