-- Words whose bits say what holds of the statements that act on each of some actions.
use Rattle.std.proofs.Common.{◌⊎◌, inl, inr, ℕ, ◌<◌, ◌-◌, ◌^◌, ◌≤◌, arith}
use Rattle.std.specs.Int.Bits.{bit_and, bit_or}
use Rattle.std.proofs.lemmas.Nat.Bits.{bit_at_ones}
use Rattle.iam_classes.specs.Batch.{IsLane}
use Rattle.iam_classes.proofs.WordLemmas.{and_bits, or_bits}

-- either holds
pub or_lane : (a b k : ℕ) (P Q : Type 0) → IsLane a k P → IsLane b k Q → IsLane (bit_or a b) k (P ⊎ Q)
or_lane a b k P Q x y = (
  (λ h. elim ((or_bits a b k).0 h) [ inl l ↦ inl (x.0 l) | inr r ↦ inr (y.0 r) ]),
  (λ h. (or_bits a b k).1 (elim h [ inl p ↦ inl (x.1 p) | inr q ↦ inr (y.1 q) ])),
)

-- both hold
pub and_lane : (a b k : ℕ) (P Q : Type 0) → IsLane a k P → IsLane b k Q → IsLane (bit_and a b) k (P × Q)
and_lane a b k P Q x y = (
  (λ h. let both = (and_bits a b k).0 h in (x.0 both.0, y.0 both.1)),
  (λ h. (and_bits a b k).1 (x.1 h.0, y.1 h.1)),
)

-- it holds
pub all_lane : (count k : ℕ) (P : Type 0) → count ≤ 64 → k < count → P → IsLane (2 ^ 64 - 1) k P
all_lane count k P few below p = ((λ one. p), (λ h. bit_at_ones 64 k (omega (arith, below, few))))
