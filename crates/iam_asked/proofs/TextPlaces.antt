-- Places of texts among others, when one more text comes behind them.
use Rattle.std.proofs.Common.{◌≡◌, ◌≢◌, ◌⊎◌, ℕ, zero, suc, ◌+◌, ◌<◌, length, take, cond, Bool, true, false, inl, inr, List, [], ◌∷◌, ◌++◌, map, MatchBool, Option, Some, None, refl, sym, ap, subst, ◌∙◌, ⊎_elim, arith}
use Rattle.std.specs.List.{slice_get}
use Rattle.std.specs.Str.{bytes_eq}
use Rattle.std.proofs.lemmas.List.{map_more, take_more}
use Rattle.std.proofs.lemmas.Option.{get_or_from_slice_get, slice_get_within}
use Rattle.std.proofs.lemmas.Slice.Eq.{bytes_eq-Decides}
use Rattle.iam_asked.specs.Code.Found.{IsPlaceOf, place_behind}
use Rattle.iam_asked.specs.Texts.{IsAt, IsOnlyAt, IsTwice}
use Rattle.iam_asked.specs.declared.places.Place.{Place}

-- ---- texts and one more

at_before : (texts : List (List ℕ)) (key q : List ℕ) (m : ℕ) → IsAt texts q m → IsAt (texts ++ key ∷ []) q m
at_before [] key q m at = absurd (let wrong : ⊥ = cc in wrong)
at_before (x ∷ xs) key q zero at = at
at_before (x ∷ xs) key q (suc m) at = at_before xs key q m at

at_last : (texts : List (List ℕ)) (key : List ℕ) (n : ℕ) → length texts ≡ n → IsAt (texts ++ key ∷ []) key n
at_last [] key zero e = refl
at_last [] key (suc n) e = absurd (omega (arith, e))
at_last (x ∷ xs) key zero e = absurd (omega (arith, e))
at_last (x ∷ xs) key (suc n) e = at_last xs key n (omega (arith, e))

-- what stands there stood there before, or is the last
at_either : (texts : List (List ℕ)) (key q : List ℕ) (m : ℕ) → IsAt (texts ++ key ∷ []) q m → IsAt texts q m ⊎ ((m ≡ length texts) × (key ≡ q))
at_either [] key q zero at = inr (refl, let same : key ≡ q = cc in same)
at_either [] key q (suc m) at = absurd (let wrong : ⊥ = cc in wrong)
at_either (x ∷ xs) key q zero at = inl at
at_either (x ∷ xs) key q (suc m) at = ⊎_elim inl (λ last. inr (omega (arith, last.0), last.1)) (at_either xs key q m at)

-- ---- the place of the last text

last_place : (texts : List (List ℕ)) (n : ℕ) (key : List ℕ) (known : Option Place) → length texts ≡ n → IsPlaceOf texts key known
    → IsPlaceOf (texts ++ key ∷ []) key (Some (place_behind known n))
last_place texts n key None count none = ((at_last texts key n count, before), (at_last texts key n count, only))
  where
    before : (m : ℕ) → m < n → ¬ IsAt (texts ++ key ∷ []) key m
    before m below at = ⊎_elim (none m) (λ last. omega (arith, last.0, below, count)) (at_either texts key key m at)

    only : (m : ℕ) → IsAt (texts ++ key ∷ []) key m → m ≡ n
    only m at = ⊎_elim (λ h. absurd (none m h)) (λ last. omega (arith, last.0, count)) (at_either texts key key m at)
last_place texts n key (Some place) count has =
    let inside = slice_get_within texts place.first key has.0.0 in (
      (at_before texts key key place.first has.0.0, before),
      (place.first, n, (λ same. omega (arith, same, inside, count)), at_before texts key key place.first has.0.0, at_last texts key n count),
    )
  where
    before : (m : ℕ) → m < place.first → ¬ IsAt (texts ++ key ∷ []) key m
    before m below at =
        let inside = slice_get_within texts place.first key has.0.0 in
        ⊎_elim (has.0.1 m below) (λ last. omega (arith, last.0, below, inside)) (at_either texts key key m at)

-- ---- the place of another text

again_more : (texts : List (List ℕ)) (key q : List ℕ) (n : ℕ) (again : Bool) → key ≢ q → MatchBool again (IsTwice texts q) (IsOnlyAt texts q n)
    → MatchBool again (IsTwice (texts ++ key ∷ []) q) (IsOnlyAt (texts ++ key ∷ []) q n)
again_more texts key q n true other (m, k, apart, one, two) = (m, k, apart, at_before texts key q m one, at_before texts key q k two)
again_more texts key q n false other only = (at_before texts key q n only.0, λ m at. ⊎_elim (only.1 m) (λ last. absurd (other last.1)) (at_either texts key q m at))

other_place : (texts : List (List ℕ)) (key q : List ℕ) (known : Option Place) → key ≢ q → IsPlaceOf texts q known → IsPlaceOf (texts ++ key ∷ []) q known
other_place texts key q None other none = λ m at. ⊎_elim (none m) (λ last. other last.1) (at_either texts key q m at)
other_place texts key q (Some place) other has = (
  (
    at_before texts key q place.first has.0.0,
    λ m below at. ⊎_elim (has.0.1 m below) (λ last. other last.1) (at_either texts key q m at),
  ),
  again_more texts key q place.first place.again other has.1,
)

-- ---- maps

-- one more text has its place
pub place_put : (texts : List (List ℕ)) (n : ℕ) (key : List ℕ) (old new : List ℕ → Option Place) → length texts ≡ n
    → ((q : List ℕ) → IsPlaceOf texts q (old q)) → ((q : List ℕ) → new q ≡ cond (bytes_eq key q) (Some (place_behind (old key) n)) (old q))
    → (q : List ℕ) → IsPlaceOf (texts ++ key ∷ []) q (new q)
place_put texts n key old new count has put q = subst (IsPlaceOf (texts ++ key ∷ []) q) (sym (put q)) (by (bytes_eq key q) refl)
  where
    by : (b : Bool) → bytes_eq key q ≡ b → IsPlaceOf (texts ++ key ∷ []) q (cond b (Some (place_behind (old key) n)) (old q))
    by true e =
        subst (λ x. IsPlaceOf (texts ++ key ∷ []) x (Some (place_behind (old key) n))) ((bytes_eq-Decides key q).0 e)
        (last_place texts n key (old key) count (has key))
    by false e = other_place texts key q (old q) (λ same. let on = (bytes_eq-Decides key q).1 same in let wrong : ⊥ = cc in wrong) (has q)

-- ---- loops

pub next_text : (texts : List (List ℕ)) (i : ℕ) (text : List ℕ) → slice_get texts i ≡ Some text → take i texts ++ text ∷ [] ≡ take (i + 1) texts
next_text texts i text at =
    ap (λ t. take i texts ++ t ∷ []) (sym (get_or_from_slice_get texts i text text at)) ∙ sym (take_more texts i text (slice_get_within texts i text at))

pub next_image : {A : Type 0} (f : A → List ℕ) (xs : List A) (i : ℕ) (x : A) (text : List ℕ) → slice_get xs i ≡ Some x → text ≡ f x
    → map f (take i xs) ++ text ∷ [] ≡ map f (take (i + 1) xs)
next_image f xs i x text at is =
    ap (λ t. map f (take i xs) ++ t ∷ []) (is ∙ ap f (sym (get_or_from_slice_get xs i x x at))) ∙ sym (map_more f xs i x (slice_get_within xs i x at))
