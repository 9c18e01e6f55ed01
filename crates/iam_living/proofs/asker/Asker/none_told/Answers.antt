use Rattle.std.proofs.Common.{◌≡◌, ℕ, List, [], Option, Some, arith, subst}
use Rattle.std.proofs.lemmas.Option.{slice_get_within}
use Rattle.std.specs.List.{slice_get}
use Rattle.iam_living.proofs.asker.Asker.none_told.Goals as goal

pub returns : goal.returns
returns c = λ p derived. record {
  listing = c.none_told.ensures p derived;
  lists = λ n word listed kept there.
      let N : List (Option ℕ) → Type 0 = λ l. slice_get l n ≡ Some (Some word) in
      absurd (omega (arith, slice_get_within [] n (Some word) (subst N c.new.ensures.items kept)));
}
