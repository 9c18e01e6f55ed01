-- Tests of all members of a list, one after the other.
use Rattle.std.proofs.Common.{◌≡◌, ◌+◌, ◌<◌, ℕ, List, All, get_or, length, subst, sym, take}
use Rattle.iam_open.proofs.ListLemmas.{push_all, taken_more}

pub all_more : {X : Type 0} (P : X → Type 0) (xs : List X) (i : ℕ) (x : X) → i < length xs → x ≡ get_or xs i x → All P (take i xs) → P x
    → All P (take (i + 1) xs)
all_more {X} P xs i x below at all here =
    subst (λ (ys : List X). All P ys) (sym (taken_more xs i x below at)) (push_all P (take i xs) x all here)
