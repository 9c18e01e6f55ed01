-- Two lists that grow together, one element at a time.
use Rattle.std.proofs.Common.{◌≡◌, ℕ, suc, ◌+◌, ◌-◌, ◌<◌, List, [], ◌∷◌, ◌++◌, length, map, take, get_or, set, reverse, append_assoc, refl, sym, ap, ◌∙◌, arith}
use Rattle.std.specs.List.{range_with_len}
use Rattle.std.proofs.lemmas.List.{map_more, map_push, take_more_set, length-map, reverse-append, get_or-map}
use mathlib.Core.Option.{some}
use lib.ListN.{get_elem?}

module _ {A B C : Type 0} (f : A → C) (g : B → C) where
  -- the next element of the second joins the first
  pub map_next : (xs : List A) (x : A) (ys : List B) (i : ℕ) (y : B) → i < length ys → map f xs ≡ map g (take i ys) → f x ≡ g (get_or ys i y) → map f (xs ++ x ∷ []) ≡ map g (take (i + 1) ys)
  map_next xs x ys i y inside so_far same = map_push f xs x ∙ (λ k. so_far k ++ same k ∷ []) ∙ sym (map_more g ys i y inside)

  -- the same, where that element is replaced by another
  pub map_next_set : (xs : List A) (x : A) (ys : List B) (i : ℕ) (y : B) → i < length ys → map f xs ≡ map g (take i ys) → f x ≡ g y → map f (xs ++ x ∷ []) ≡ map g (take (i + 1) (set ys i y))
  map_next_set xs x ys i y inside so_far same =
      map_push f xs x ∙ (λ k. so_far k ++ same k ∷ []) ∙ sym (map_push g (take i ys) y) ∙ ap (map g) (sym (take_more_set ys i y inside))

-- the element between two lists
pub at_middle : {A : Type 0} (xs : List A) (y : A) (ys : List A) → get_elem? (xs ++ y ∷ ys) (length xs) ≡ some y
at_middle [] y ys = refl
at_middle (x ∷ xs) y ys = at_middle xs y ys

-- the last of some elements goes over to the rest
pub last_over : {A C : Type 0} (f : A → C) (all rest : List C) (more fewer : List A) (x : A) → all ≡ map f more ++ rest → more ≡ fewer ++ x ∷ [] → all ≡ map f fewer ++ f x ∷ rest
last_over f all rest more fewer x is split =
    is ∙ ap (λ xs. map f xs ++ rest) split ∙ ap (λ ys. ys ++ rest) (map_push f fewer x) ∙ append_assoc (map f fewer) (f x ∷ []) rest

-- lists that come to the same have the same length
pub same_length : {A B C : Type 0} (f : A → C) (g : B → C) (xs : List A) (ys : List B) → map f xs ≡ map g ys → length xs ≡ length ys
same_length f g xs ys same = sym (length-map xs f) ∙ ap length same ∙ length-map ys g

-- what f makes of the numbers from n on, last first, after n was added
pub count_down : {A : Type 0} (f : ℕ → A) (n k many : ℕ) → k ≡ n + 1 → n < many
    → reverse (map f (range_with_len k (many - k))) ++ f n ∷ [] ≡ reverse (map f (range_with_len n (many - n)))
count_down f n k many next inside =
    let more : many - n ≡ suc (many - k) = omega arith in
    sym (reverse-append (f n ∷ []) (map f (range_with_len k (many - k))))
    ∙ ap (λ j. reverse (f n ∷ map f (range_with_len j (many - k)))) next
    ∙ ap (λ j. reverse (map f (range_with_len n j))) (sym more)

-- elements at one place of two lists that come to the same
pub same_at : {A B C : Type 0} (f : A → C) (g : B → C) (xs : List A) (ys : List B) (i : ℕ) (x : A) (y : B) → map f xs ≡ map g ys → i < length xs → i < length ys
    → x ≡ get_or xs i x → y ≡ get_or ys i y → f x ≡ g y
same_at f g xs ys i x y same inside_xs inside_ys x_is y_is =
    ap f x_is ∙ sym (get_or-map f xs i x (f x) inside_xs) ∙ ap (λ zs. get_or zs i (f x)) same ∙ get_or-map g ys i y (f x) inside_ys ∙ ap g (sym y_is)
