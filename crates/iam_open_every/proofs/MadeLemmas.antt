-- Lists that are made of one member after the other.
use Rattle.std.proofs.Common.{◌≡◌, ◌<◌, ◌+◌, ◌∷◌, [], ◌++◌, ◌∙◌, inl, inr, List, ℕ, Contains, append_assoc, ap, get_or, length, refl, subst, sym, take}
use Rattle.std.proofs.lemmas.List.{append-nil}
use Rattle.std.proofs.lemmas.List.Elements.{Contains-append_cases, Contains-append_left, Contains-append_right}
use Rattle.std.proofs.lemmas.Slice.Zip.{all_zipped_more}
use Rattle.std.specs.List.{AllZip, range_with_len}
use Rattle.iam_every.proofs.ListLemmas.{behind, first_or, here, none}
use Rattle.iam_every.proofs.MeantLemmas.{next_range}
use Rattle.iam_every.proofs.WalkLemmas.{taken_more}
use Rattle.iam_open_every.specs.Made.{AreJoined}

-- ---- one more
joined_behind : {X Y : Type 0} (Made : X → List Y → Type 0) (xs : List X) (x : X) (all more : List Y) → AreJoined Made xs all → Made x more
    → AreJoined Made (xs ++ (x ∷ [])) (all ++ more)
joined_behind Made [] x all more is made = (more, [], made, refl, ap (λ l. l ++ more) is ∙ sym (append-nil more))
joined_behind Made (y ∷ xs) x all more (one, rest, first, are, is) made =
    (one, rest ++ more, first, joined_behind Made xs x rest more are made, ap (λ l. l ++ more) is ∙ append_assoc one rest more)

-- of the next number
pub joined_next : {Y : Type 0} (Made : ℕ → List Y → Type 0) (n : ℕ) (all more : List Y) → AreJoined Made (range_with_len 0 n) all → Made n more
    → AreJoined Made (range_with_len 0 (n + 1)) (all ++ more)
joined_next Made n all more are made =
    subst (λ (l : List ℕ). AreJoined Made l (all ++ more)) (sym (next_range n)) (joined_behind Made (range_with_len 0 n) n all more are made)

-- of the next member of a list
pub joined_more : {X Y : Type 0} (Made : X → List Y → Type 0) (xs : List X) (i : ℕ) (x : X) (all more : List Y) → i < length xs → x ≡ get_or xs i x
    → AreJoined Made (take i xs) all → Made x more → AreJoined Made (take (i + 1) xs) (all ++ more)
joined_more {X} Made xs i x all more below is are made =
    subst (λ (l : List X). AreJoined Made l (all ++ more)) (sym (taken_more xs i x below is)) (joined_behind Made (take i xs) x all more are made)

pub zipped_more : {X Y : Type 0} (R : X → Y → Type 0) (xs : List X) (i : ℕ) (x : X) (ys : List Y) (y : Y) → i < length xs → x ≡ get_or xs i x
    → AllZip R (take i xs) ys → R x y → AllZip R (take (i + 1) xs) (ys ++ (y ∷ []))
zipped_more {X} R xs i x ys y below is so_far on =
    subst (λ (l : List X). AllZip R l (ys ++ (y ∷ []))) (sym (taken_more xs i x below is)) (all_zipped_more R (take i xs) ys x y so_far on)

-- ---- members
-- each of the one list has one of the other beside it
pub beside : {X Y : Type 0} (R : X → Y → Type 0) (xs : List X) (ys : List Y) (x : X) → AllZip R xs ys → Contains xs x → (y : Y) × Contains ys y × R x y
beside R [] ys x zip among = absurd (none x among)
beside R (a ∷ xs) [] x zip among = absurd zip
beside {X} R (a ∷ xs) (b ∷ ys) x (on, zip) among = elim (first_or a x xs among) [
  | inl same ↦ (b, here b ys, subst (λ (z : X). R z b) same on)
  | inr later ↦ let (y, there, is) = beside R xs ys x zip later in (y, behind b y ys there, is)
]

pub of_beside : {X Y : Type 0} (R : X → Y → Type 0) (xs : List X) (ys : List Y) (y : Y) → AllZip R xs ys → Contains ys y
    → (x : X) × Contains xs x × R x y
of_beside R xs [] y zip among = absurd (none y among)
of_beside R [] (b ∷ ys) y zip among = absurd zip
of_beside {X} {Y} R (a ∷ xs) (b ∷ ys) y (on, zip) among = elim (first_or b y ys among) [
  | inl same ↦ (a, here a xs, subst (λ (z : Y). R a z) same on)
  | inr later ↦ let (x, there, is) = of_beside R xs ys y zip later in (x, behind a x xs there, is)
]

-- what is made of a member is among all, and all is made of members
pub among_joined : {X Y : Type 0} (Made : X → List Y → Type 0) (xs : List X) (all : List Y) (x : X) → AreJoined Made xs all → Contains xs x
    → (one : List Y) × Made x one × ((y : Y) → Contains one y → Contains all y)
among_joined Made [] all x is among = absurd (none x among)
among_joined {X} {Y} Made (a ∷ xs) all x (one, rest, made, are, is) among = elim (first_or a x xs among) [
  | inl same ↦ (
    one,
    subst (λ (z : X). Made z one) same made,
    λ y inside. subst (λ (l : List Y). Contains l y) (sym is) (Contains-append_left one rest y inside),
  )
  | inr later ↦
      let (other, its, inside) = among_joined Made xs rest x are later in
      (other, its, λ y there. subst (λ (l : List Y). Contains l y) (sym is) (Contains-append_right one rest y (inside y there)))
]

pub of_joined : {X Y : Type 0} (Made : X → List Y → Type 0) (xs : List X) (all : List Y) (y : Y) → AreJoined Made xs all → Contains all y
    → (x : X) × Contains xs x × ((one : List Y) × Made x one × Contains one y)
of_joined {X} {Y} Made [] all y is among = absurd (none y (subst (λ (l : List Y). Contains l y) is among))
of_joined {X} {Y} Made (a ∷ xs) all y (one, rest, made, are, is) among =
    elim (Contains-append_cases one rest y (subst (λ (l : List Y). Contains l y) is among)) [
      | inl first ↦ (a, here a xs, (one, made, first))
      | inr later ↦
          let (x, there, (other, its, inside)) = of_joined Made xs rest y are later in
          (x, behind a x xs there, (other, its, inside))
    ]
