-- Lists of texts, and the elements of lists.
use Rattle.std.proofs.Common.{◌≡◌, ℕ, suc, List, [], ◌∷◌, ◌++◌, ◌+◌, Bool, true, false, ◌||◌, refl, sym, ap, ◌∙◌, map, take, drop, Option, Some, None, cond, length, ◌<◌, get_or, add-one}
use Rattle.std.proofs.Math.Seq.{drop-cons}
use Rattle.std.proofs.lemmas.List.{take_more}
use Rattle.std.proofs.lemmas.List.Elements.{filter_map-append}
use Rattle.std.proofs.lemmas.Option.{slice_get_within, slice_get_read, get_or_from_slice_get, slice_get-map}
use Rattle.std.specs.List.{filter_map, find, slice_get, cons_option}
use Rattle.std.specs.Option.{option_map, option_to_list}

pub first_false : (a b : Bool) → (a || b) ≡ false → a ≡ false
first_false true b e = cc
first_false false b e = refl

pub second_false : (a b : Bool) → (a || b) ≡ false → b ≡ false
second_false true b e = cc
second_false false b e = e

-- an element of a mapped list
pub item_at : {X Y : Type 0} (f : X → Y) (xs : List X) (ys : List Y) (k : ℕ) (x : X) → map f xs ≡ ys → k < length xs → x ≡ get_or xs k x → slice_get ys k ≡ Some (f x)
item_at f xs ys k x same below is =
    ap (λ zs. slice_get zs k) (sym same) ∙ slice_get-map f xs k ∙ ap (option_map f) (slice_get_read xs (length xs) k x refl below is)

-- one more element of a front
pub take_next : {X : Type 0} (xs : List X) (i : ℕ) (x : X) → slice_get xs i ≡ Some x → take (i + 1) xs ≡ take i xs ++ (x ∷ [])
take_next xs i x at =
    take_more xs i x (slice_get_within xs i x at) ∙ ap (λ y. take i xs ++ (y ∷ [])) (get_or_from_slice_get xs i x x at)

-- what one more element of a front gives
pub filter_map_next : {X Y : Type 0} (h : X → Option Y) (xs : List X) (i : ℕ) (x : X) → slice_get xs i ≡ Some x
    → filter_map h (take (i + 1) xs) ≡ filter_map h (take i xs) ++ option_to_list (h x)
filter_map_next h xs i x at =
    ap (filter_map h) (take_next xs i x at) ∙ filter_map-append h (take i xs) (x ∷ []) ∙ ap (λ ys. filter_map h (take i xs) ++ ys) (one (h x))
  where
    one : {Y : Type 0} (o : Option Y) → cons_option o [] ≡ option_to_list o
    one None = refl
    one (Some y) = refl

-- the first element of the rest that passes: the next, or one behind it
pub find_next : {X : Type 0} (p : X → Bool) (xs : List X) (i : ℕ) (d : X) (b : Bool) → i < length xs → p (get_or xs i d) ≡ b
    → find p (drop i xs) ≡ cond b (Some (get_or xs i d)) (find p (drop (i + 1) xs))
find_next p xs i d b below is =
    ap (find p) (drop-cons xs i d below) ∙ ap (λ c. cond c (Some (get_or xs i d)) (find p (drop (suc i) xs))) is
    ∙ ap (λ n. cond b (Some (get_or xs i d)) (find p (drop n xs))) (sym (add-one i))
