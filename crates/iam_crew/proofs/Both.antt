-- What two runs brought back, put together.
use Rattle.std.proofs.Common.{◌≡◌, ◌++◌, Result, Ok, Err, Vec, Global, All, IfOk, MatchResult}
use Rattle.std.proofs.lemmas.List.Elements.{All-append, All-same}

module _ {X E : Type 0} (P : X → Type 0) where
  -- all that two runs brought back has what each of the two has
  pub both_all : (first second result : Result (Vec X Global) E) → IfOk first (λ v. All P v.items) → IfOk second (λ v. All P v.items)
      → IfOk result (λ v. MatchResult first (λ a. MatchResult second (λ b. v.items ≡ a.items ++ b.items) (λ _. ⊥)) (λ _. ⊥))
      → IfOk result (λ v. All P v.items)
  both_all (Ok a) (Ok b) (Ok v) f s e = All-same P v.items (a.items ++ b.items) e (All-append P a.items b.items f s)
  both_all (Ok a) (Err y) (Ok v) f s e = absurd e
  both_all (Err x) second (Ok v) f s e = absurd e
  both_all first second (Err z) f s e = tt
