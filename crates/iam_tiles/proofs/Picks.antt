-- Items that are kept once, and lists of their numbers.
use Rattle.std.proofs.Common.{◌≡◌, ℕ, ◌<◌, ◌≤◌, List, [], ◌∷◌, ◌++◌, All, Some, get_or, length, map, option_map, refl, ap, subst, ◌∙◌, arith}
use Rattle.std.proofs.lemmas.List.{get_or-map, get_or_append_left, length-append, length-map, map-append}
use Rattle.std.proofs.lemmas.List.Elements.{All-get_or, All-head, All-tail, All-weaker}
use Rattle.std.proofs.lemmas.Option.{get_or_from_slice_get, slice_get-map, slice_get_within}
use Rattle.std.specs.List.{slice_get}
use Rattle.iam_tiles.specs.Code.Numbered.{picked, IsPut}

-- numbers that have an item
abbrev pub Within : {A : Type 0} → List A → List ℕ → Type 0
Within items numbers = All (λ n. n < length items) numbers

-- further items change nothing
picked_more : {A : Type 0} (none : A) (items more : List A) (numbers : List ℕ) → Within items numbers → picked none (items ++ more) numbers ≡ picked none items numbers
picked_more none items more [] w = refl
picked_more none items more (n ∷ numbers) w =
    ap (λ x. x ∷ picked none (items ++ more) numbers) (get_or_append_left items more none n (All-head (λ k. k < length items) n numbers w))
    ∙ ap (λ xs. get_or items n none ∷ xs) (picked_more none items more numbers (All-tail (λ k. k < length items) n numbers w))

pub within_more : {A : Type 0} (items more new : List A) (numbers : List ℕ) → new ≡ items ++ more → Within items numbers → Within new numbers
within_more items more new numbers e w =
    All-weaker (λ k. k < length items) (λ k. k < length new) (λ k below. omega (arith, below, ap length e, length-append items more)) numbers w

-- one more number
pub picked_next : {A : Type 0} (none : A) (items more new : List A) (numbers : List ℕ) (n : ℕ) (x : A) → new ≡ items ++ more → Within items numbers → slice_get new n ≡ Some x
    → picked none new (numbers ++ n ∷ []) ≡ picked none items numbers ++ x ∷ []
picked_next none items more new numbers n x e w at =
    map-append (λ k. get_or new k none) numbers (n ∷ [])
    ∙ ap (λ xs. xs ++ get_or new n none ∷ []) (ap (λ l. picked none l numbers) e ∙ picked_more none items more numbers w)
    ∙ ap (λ y. picked none items numbers ++ y ∷ []) (get_or_from_slice_get new n x none at)

-- the images of the items
pub picked_images : {A B : Type 0} (f : A → B) (none : A) (other : B) (items : List A) (numbers : List ℕ) → Within items numbers
    → picked other (map f items) numbers ≡ map f (picked none items numbers)
picked_images f none other items [] w = refl
picked_images f none other items (n ∷ numbers) w =
    ap (λ y. y ∷ picked other (map f items) numbers) (get_or-map f items n none other (All-head (λ k. k < length items) n numbers w))
    ∙ ap (λ ys. f (get_or items n none) ∷ ys) (picked_images f none other items numbers (All-tail (λ k. k < length items) n numbers w))

-- the item at a place, by its number
pub picked_at : {A : Type 0} (none : A) (items : List A) (numbers : List ℕ) (i n : ℕ) → slice_get numbers i ≡ Some n
    → slice_get (picked none items numbers) i ≡ Some (get_or items n none)
picked_at none items numbers i n at =
    slice_get-map (λ k. get_or items k none) numbers i ∙ ap (option_map (λ k. get_or items k none)) at

pub within_at : {A : Type 0} (items : List A) (numbers : List ℕ) (i n : ℕ) → slice_get numbers i ≡ Some n → Within items numbers → n < length items
within_at items numbers i n at w =
    subst (λ k. k < length items) (get_or_from_slice_get numbers i n n at)
    (All-get_or (λ k. k < length items) numbers i n (slice_get_within numbers i n at) w)

-- one more item was put behind others
pub picked_put : {A : Type 0} (none item : A) (number : ℕ) (items : List A) (numbers : List ℕ) (more_items : List A) (more_numbers : List ℕ)
    → IsPut item number items numbers more_items more_numbers → Within items numbers
    → picked none more_items more_numbers ≡ picked none items numbers ++ item ∷ []
picked_put none item number items numbers more_items more_numbers put w =
    ap (λ (ns : List ℕ). picked none more_items ns) put.behind
    ∙ picked_next none items put.kept.0 more_items numbers number item put.kept.2 w put.found

-- fewer items than numbers are fewer than so many
pub few_items : {A : Type 0} (none : A) (items : List A) (numbers : List ℕ) (whole : List A) (most : ℕ)
    → length items ≤ length numbers → picked none items numbers ≡ whole → length whole < most → length items < most
few_items none items numbers whole most few same below =
    omega (arith, few, ap length same, length-map numbers (λ n. get_or items n none), below)

-- an item once more
pub picked_again : {A : Type 0} (none item : A) (items : List A) (numbers more : List ℕ) (i n : ℕ) (whole : List A) → picked none items numbers ≡ whole
    → more ≡ numbers ++ n ∷ [] → slice_get numbers i ≡ Some n → slice_get whole i ≡ Some item → picked none items more ≡ whole ++ item ∷ []
picked_again {A} none item items numbers more i n whole same behind at there =
    let here : slice_get whole i ≡ Some (get_or items n none) = subst (λ (xs : List A). slice_get xs i ≡ Some (get_or items n none)) same (picked_at none items numbers i n at) in
    let is : get_or items n none ≡ item = cc in
    ap (picked none items) behind ∙ map-append (λ k. get_or items k none) numbers (n ∷ []) ∙ ap (λ xs. xs ++ get_or items n none ∷ []) same
    ∙ ap (λ x. whole ++ x ∷ []) is
