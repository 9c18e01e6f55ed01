-- When the keys of two requests are the same.
use Rattle.std.proofs.Common.{◌≡◌, ◌&&◌, ℕ, Bool, true, false, List, ap, nat_eq, refl}
use Rattle.std.specs.Bool.{Decides}
use Rattle.std.specs.Cmp.Lexicographic.{pointwise, pointwise_decides, bytes_decides}
use Rattle.iam_context.specs.Context.{ContextValue}
use Rattle.iam_asked.specs.Code.Own.{same_entry}

-- a key with its values
abbrev Entry : Type 0
Entry = List ℕ × List (List ℕ)

both_decide : (x y : Entry) (a b : Bool) → Decides a (x.0 ≡ y.0) → Decides b (x.1 ≡ y.1) → Decides (a && b) (x ≡ y)
both_decide x y true b one two = (
  λ t. (λ i. (one.0 refl i, two.0 t i)),
  λ same. two.1 (ap (λ (it : Entry). it.1) same),
)
both_decide x y false b one two = (
  λ t. let wrong : ⊥ = cc in absurd wrong,
  λ same. one.1 (ap (λ (it : Entry). it.0) same),
)

pub same_entry-Decides : (a b : Entry) → Decides (same_entry a b) (a ≡ b)
same_entry-Decides a b =
    both_decide a b (pointwise nat_eq a.0 b.0) (pointwise (pointwise nat_eq) a.1 b.1) (bytes_decides a.0 b.0)
    (pointwise_decides bytes_decides a.1 b.1)

pub same_own-Decides : (a b : ContextValue) → Decides (pointwise same_entry a b) (a ≡ b)
same_own-Decides = pointwise_decides same_entry-Decides
