-- What asks for known keys alone holds, unless it is never: of all of a list.
use Rattle.std.proofs.Common.{◌≡◌, ◌+◌, ◌<◌, ◌≤◌, ℕ, List, All, get_or, length, subst, sym, take}
use Rattle.std.proofs.lemmas.List.{take_all}
use Rattle.iam_open.specs.Code.Certain.{UnlessNever, both}
use Rattle.iam_open.specs.declared.certain.Certain.{Certain}
use Rattle.iam_open.specs.declared.certain.Certain.TheVariants.{Always, Never, Open}
use Rattle.iam_open.proofs.ListLemmas.{push_all, taken_more}

closed_both : (a b : Certain) (P Q : Type 0) → UnlessNever a P → UnlessNever b Q → UnlessNever (both a b) (P × Q)
closed_both Never b P Q p q = tt
closed_both Always Always P Q p q = (p, q)
closed_both Always Never P Q p q = tt
closed_both Always Open P Q p q = (p, q)
closed_both Open Always P Q p q = (p, q)
closed_both Open Never P Q p q = tt
closed_both Open Open P Q p q = (p, q)

closed_as : (c : Certain) (P Q : Type 0) → (P → Q) → UnlessNever c P → UnlessNever c Q
closed_as Always P Q more p = more p
closed_as Never P Q more p = tt
closed_as Open P Q more p = more p

pub closed_more : {X : Type 0} (P : X → Type 0) (xs : List X) (i : ℕ) (x : X) (a b : Certain) → i < length xs → x ≡ get_or xs i x
    → UnlessNever a (All P (take i xs)) → UnlessNever b (P x) → UnlessNever (both a b) (All P (take (i + 1) xs))
closed_more {X} P xs i x a b below at before here =
    closed_as (both a b) (All P (take i xs) × P x) (All P (take (i + 1) xs))
    (λ parts. subst (λ (l : List X). All P l) (sym (taken_more xs i x below at)) (push_all P (take i xs) x parts.0 parts.1))
    (closed_both a b (All P (take i xs)) (P x) before here)

pub closed_taken : {X : Type 0} (P : X → Type 0) (xs : List X) (i : ℕ) (a : Certain) → length xs ≤ i → UnlessNever a (All P (take i xs))
    → UnlessNever a (All P xs)
closed_taken {X} P xs i a past closed = subst (λ (l : List X). UnlessNever a (All P l)) (take_all i xs past) closed
