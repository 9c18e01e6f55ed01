use Rattle.std.proofs.Common.{None, Option, Some, List, ◌≡◌, ap, length, subst, ◌∙◌}
use Rattle.std.proofs.lemmas.List.{length-replicate}
use Rattle.std.specs.List.{slice_get}
use Rattle.iam_kinds.specs.declared.walks.Found.{Found}
use Rattle.iam_kinds.proofs.KeptLemmas.{nothing_kept}
use Rattle.iam_kinds.proofs.walks.Walks.new.Goals as goal

pub returns-clause-found : goal.returns-clause-found
returns-clause-found c = record {
  slots = ap length c.in_ok-no_answers.ensures ∙ length-replicate {A = Option Found} 1024 None;
  found = λ i found at.
      absurd (nothing_kept 1024 i found (subst (λ (l : List (Option Found)). slice_get l i ≡ Some (Some found)) c.in_ok-no_answers.ensures at));
}
