-- Keys that requests may have where one world is asked about.
use Rattle.std.proofs.Common.{◌≤◌, ◌<◌, ◌∷◌, [], inl, ℕ, zero, suc, List, All, arith, get_or, length}
use Rattle.std.specs.Str.{IsUtf8}
use Rattle.iam_context.specs.Context.{ContextValue}
use Rattle.iam_open.specs.InQuestion.{MayBeGiven, last_moment}
use Rattle.iam_world.specs.World.{WorldValue}

-- a key with one value at most, both texts
abbrev pub IsSingle : List ℕ × List (List ℕ) → Type 0
IsSingle entry = IsUtf8 entry.0 × All IsUtf8 entry.1 × (length entry.1 ≤ 1)

pub given_alone : (world : WorldValue) (own : ContextValue) (moment : ℕ) → All IsSingle own → world.moment ≤ moment → moment ≤ last_moment
    → MayBeGiven (world ∷ []) own moment
given_alone world own moment all from to = record {
  texts = λ k d below. ((all k d below).0, (all k d below).1);
  few = λ k d below. inl (all k d below).2;
  from = alone;
  to = to;
}
  where
    alone : (k : ℕ) (d : WorldValue) → k < length (world ∷ []) → (get_or (world ∷ []) k d).moment ≤ moment
    alone zero d below = from
    alone (suc k) d below = absurd (let wrong : ⊥ = omega (arith, below) in wrong)
