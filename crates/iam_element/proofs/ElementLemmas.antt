-- Lists of texts, and the elements of lists.
use Rattle.std.proofs.Common.{◌≡◌, ℕ, zero, suc, List, [], ◌∷◌, ◌++◌, ◌+◌, Bool, true, false, ◌||◌, refl, sym, ap, ◌∙◌, map, take, Option, Some, None, length, ◌==◌, ◌<◌, get_or}
use Rattle.std.proofs.lemmas.List.{take_more}
use Rattle.std.proofs.lemmas.List.Elements.{filter_map-append}
use Rattle.std.proofs.lemmas.List.Folds.{list_all-map}
use Rattle.std.proofs.lemmas.Option.{slice_get_within, slice_get_read, get_or_from_slice_get, slice_get-map}
use Rattle.std.specs.List.{list_all, list_any, filter_map, slice_get, cons_option}
use Rattle.std.specs.Option.{option_map, option_to_list}
use Rattle.serde_json.specs.Data.{Data}
use Rattle.iam_element.specs.Element.{is_text, are_texts}

pub first_false : (a b : Bool) → (a || b) ≡ false → a ≡ false
first_false true b e = cc
first_false false b e = refl

pub second_false : (a b : Bool) → (a || b) ≡ false → b ≡ false
second_false true b e = cc
second_false false b e = e

-- a test of each element of a mapped list
pub list_any_map : {X : Type 0} (p : X → Bool) → {Y : Type 0} (h : Y → X) (ys : List Y) → list_any p (map h ys) ≡ list_any (λ y. p (h y)) ys
list_any_map p h [] = refl
list_any_map p h (y ∷ ys) = ap (λ rest. p (h y) || rest) (list_any_map p h ys)

-- one or more texts, as the code counts and tests them
pub are_texts_map : {Y : Type 0} (test : List ℕ → Bool) (h : Y → Data) (ys : List Y) (r : Bool) → (length ys == 0) ≡ false
    → r ≡ list_all (λ y. is_text test (h y)) ys → r ≡ are_texts test (map h ys)
are_texts_map test h [] r some e = cc
are_texts_map test h (y ∷ ys) r some e = e ∙ sym (list_all-map (is_text test) h (y ∷ ys))

-- an element of a mapped list
pub item_at : {X Y : Type 0} (f : X → Y) (xs : List X) (ys : List Y) (k : ℕ) (x : X) → map f xs ≡ ys → k < length xs → x ≡ get_or xs k x → slice_get ys k ≡ Some (f x)
item_at f xs ys k x same below is =
    ap (λ zs. slice_get zs k) (sym same) ∙ slice_get-map f xs k ∙ ap (option_map f) (slice_get_read xs (length xs) k x refl below is)

-- one more element of a front
pub take_next : {X : Type 0} (xs : List X) (i : ℕ) (x : X) → slice_get xs i ≡ Some x → take (i + 1) xs ≡ take i xs ++ (x ∷ [])
take_next xs i x at =
    take_more xs i x (slice_get_within xs i x at) ∙ ap (λ y. take i xs ++ (y ∷ [])) (get_or_from_slice_get xs i x x at)

-- what one more element of a front gives
pub filter_map_next : {X Y : Type 0} (h : X → Option Y) (xs : List X) (i : ℕ) (x : X) → slice_get xs i ≡ Some x
    → filter_map h (take (i + 1) xs) ≡ filter_map h (take i xs) ++ option_to_list (h x)
filter_map_next h xs i x at =
    ap (filter_map h) (take_next xs i x at) ∙ filter_map-append h (take i xs) (x ∷ []) ∙ ap (λ ys. filter_map h (take i xs) ++ ys) (one (h x))
  where
    one : {Y : Type 0} (o : Option Y) → cons_option o [] ≡ option_to_list o
    one None = refl
    one (Some y) = refl

-- an element of a list of which none passes
pub none_at : {X : Type 0} (p : X → Bool) (xs : List X) (i : ℕ) (x : X) → list_any p xs ≡ false → slice_get xs i ≡ Some x → p x ≡ false
none_at p [] i x none at = cc
none_at p (y ∷ ys) zero x none at = let same : y ≡ x = cc in ap p (sym same) ∙ first_false (p y) (list_any p ys) none
none_at p (y ∷ ys) (suc i) x none at = none_at p ys i x (second_false (p y) (list_any p ys) none) at
