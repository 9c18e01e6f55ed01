-- Rows that are joined, and those of them that are told.
use Rattle.std.proofs.Common.{◌≡◌, ◌<◌, ◌+◌, ◌∷◌, [], ◌++◌, ◌∙◌, ◌||◌, inl, inr, ℕ, zero, suc, All, Bool, true, false, List, Contains, Some, append_assoc, ap, arith, filter, get_or, map, refl, subst, sym}
use Rattle.std.proofs.lemmas.List.{append-nil}
use Rattle.std.proofs.lemmas.List.FromFn.{get_or-range_with_len, length-range_with_len}
use Rattle.std.proofs.lemmas.List.Elements.{Contains-append_cases, Contains-append_left, Contains-append_right, Contains-get_or, filter-append}
use Rattle.std.specs.List.{AllZip, range_with_len, slice_get}
use Rattle.iam_every.proofs.ListLemmas.{behind, first_or, here, none}
use Rattle.iam_every.proofs.MeantLemmas.{next_range}
use Rattle.iam_every_changes.specs.Changes.{ChangedValue, changed_of, is_told}
use Rattle.iam_every_changes.specs.Code.Looked.{Adds, Gains}
use Rattle.iam_every_changes.specs.Made.{AreJoined, has_rows}
use Rattle.iam_every_changes.specs.declared.looked.Looked.{Looked}

-- ---- members
pub joined_in : {X : Type 0} (Made : X → List ChangedValue → Type 0) (xs : List X) (rows : List ChangedValue) (x : X) → AreJoined Made xs rows → Contains xs x
    → (part : List ChangedValue) × Made x part × ((row : ChangedValue) → Contains part row → Contains rows row)
joined_in Made [] rows x is among = absurd (none x among)
joined_in {X} Made (y ∷ xs) rows x (one, rest, first, are, is) among = elim (first_or y x xs among) [
  | inl same ↦ (
    one,
    subst (λ (z : X). Made z one) same first,
    λ row inside. subst (λ (l : List ChangedValue). Contains l row) (sym is) (Contains-append_left one rest row inside),
  )
  | inr later ↦
      let (part, made, lift) = joined_in Made xs rest x are later in
      (part, made, λ row inside. subst (λ (l : List ChangedValue). Contains l row) (sym is) (Contains-append_right one rest row (lift row inside)))
]

pub joined_of : {X : Type 0} (Made : X → List ChangedValue → Type 0) (xs : List X) (rows : List ChangedValue) (row : ChangedValue) → AreJoined Made xs rows
    → Contains rows row → (x : X) × Contains xs x × ((part : List ChangedValue) × Made x part × Contains part row)
joined_of Made [] rows row is among = absurd (none row (subst (λ (l : List ChangedValue). Contains l row) is among))
joined_of Made (y ∷ xs) rows row (one, rest, first, are, is) among =
    elim (Contains-append_cases one rest row (subst (λ (l : List ChangedValue). Contains l row) is among)) [
      | inl early ↦ (y, here y xs, (one, first, early))
      | inr late ↦ let (x, inside, found) = joined_of Made xs rest row are late in (x, behind y x xs inside, found)
    ]

-- one row alone
pub only_row : (row other : ChangedValue) (rows : List ChangedValue) → rows ≡ row ∷ [] → Contains rows other → row ≡ other
only_row row other rows is among = elim (first_or row other [] (subst (λ (l : List ChangedValue). Contains l other) is among)) [
  | inl same ↦ same
  | inr never ↦ absurd (none other never)
]

pub alone_in : (row : ChangedValue) (rows : List ChangedValue) → rows ≡ row ∷ [] → Contains rows row
alone_in row rows is = subst (λ (l : List ChangedValue). Contains l row) (sym is) (here row [])

pub in_range : (n r : ℕ) → r < n → Contains (range_with_len 0 n) r
in_range n r below =
    (r, omega (arith, below, length-range_with_len 0 n), get_or-range_with_len 0 n r r below ∙ (let same : 0 + r ≡ r = omega arith in same))

-- ---- one more
pub joined_more : {X : Type 0} (Made : X → List ChangedValue → Type 0) (xs : List X) (x : X) (rows more : List ChangedValue) → AreJoined Made xs rows
    → Made x more → AreJoined Made (xs ++ (x ∷ [])) (rows ++ more)
joined_more Made [] x rows more is made = (more, [], made, refl, ap (λ l. l ++ more) is ∙ sym (append-nil more))
joined_more Made (y ∷ xs) x rows more (one, rest, first, are, is) made =
    (one, rest ++ more, first, joined_more Made xs x rest more are made, ap (λ l. l ++ more) is ∙ append_assoc one rest more)

-- ---- what is gained
pub gains_nothing : (old : Looked) → Gains old [] old
gains_nothing old = record { rows = sym (append-nil (map changed_of old.rows.items)); some = sym (or_false old.some) }
  where
    or_false : (b : Bool) → (b || false) ≡ b
    or_false true = refl
    or_false false = refl

has_append : (xs ys : List ChangedValue) → has_rows (xs ++ ys) ≡ (has_rows xs || has_rows ys)
has_append [] ys = refl
has_append (x ∷ xs) ys = refl

or_assoc : (a b c : Bool) → ((a || b) || c) ≡ (a || (b || c))
or_assoc true b c = refl
or_assoc false b c = refl

pub gains_both : (old mid new : Looked) (some more : List ChangedValue) → Gains old some mid → Gains mid more new → Gains old (some ++ more) new
gains_both old mid new some more one other = record {
  rows =
      other.rows ∙ ap (λ l. l ++ filter is_told more) one.rows ∙ append_assoc (map changed_of old.rows.items) (filter is_told some) (filter is_told more)
      ∙ ap (λ l. map changed_of old.rows.items ++ l) (sym (filter-append is_told some more));
  some = other.some ∙ ap (λ b. b || has_rows more) one.some ∙ or_assoc old.some (has_rows some) (has_rows more)
      ∙ ap (λ b. old.some || b) (sym (has_append some more));
}

-- what was added of the members so far, and of one more
pub adds_more : {X : Type 0} (Made : X → List ChangedValue → Type 0) (xs : List X) (x : X) (old mid new : Looked) → Adds old (AreJoined Made xs) mid
    → Adds mid (Made x) new → Adds old (AreJoined Made (xs ++ (x ∷ []))) new
adds_more Made xs x old mid new (some, are, one) (more, made, other) =
    (some ++ more, joined_more Made xs x some more are made, gains_both old mid new some more one other)

pub adds_next : (Made : ℕ → List ChangedValue → Type 0) (n : ℕ) (old mid new : Looked) → Adds old (AreJoined Made (range_with_len 0 n)) mid
    → Adds mid (Made n) new → Adds old (AreJoined Made (range_with_len 0 (n + 1))) new
adds_next Made n old mid new some more =
    subst (λ (l : List ℕ). Adds old (AreJoined Made l) new) (sym (next_range n)) (adds_more Made (range_with_len 0 n) n old mid new some more)

-- ---- lists
pub both_more : {X Y : Type 0} (R : X → Y → Type 0) (xs : List X) (ys : List Y) (x : X) (y : Y) → AllZip R xs ys → R x y
    → AllZip R (xs ++ (x ∷ [])) (ys ++ (y ∷ []))
both_more R [] [] x y fit holds = (holds, tt)
both_more R [] (b ∷ ys) x y fit holds = absurd fit
both_more R (a ∷ xs) [] x y fit holds = absurd fit
both_more R (a ∷ xs) (b ∷ ys) x y fit holds = (fit.0, both_more R xs ys x y fit.1 holds)

pub all_members : {X : Type 0} (P : X → Type 0) (xs : List X) → ((x : X) → Contains xs x → P x) → All P xs
all_members P xs each k d below = each (get_or xs k d) (Contains-get_or xs k d below)

-- an element of a mapped list, and what it is the image of
pub at_image : {X Y : Type 0} (f : X → Y) (xs : List X) (n : ℕ) (y : Y) → slice_get (map f xs) n ≡ Some y → (x : X) × (slice_get xs n ≡ Some x) × (f x ≡ y)
at_image f [] n y at = absurd (let wrong : ⊥ = cc in wrong)
at_image f (x ∷ xs) zero y at = (x, refl, (let same : f x ≡ y = cc in same))
at_image f (x ∷ xs) (suc n) y at = at_image f xs n y at
