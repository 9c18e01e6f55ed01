use Rattle.std.proofs.Common.{◌≡◌, ◌<◌, ℕ, Some}
use Rattle.std.specs.List.{slice_get}
use Rattle.iam_decision.specs.Applicable.{value_of}
use Rattle.iam_decision.specs.declared.place.Place.{Place}
use Rattle.iam_changes.specs.Change.{IsReplaced}
use Rattle.iam_changes.proofs.change.is_any_replaced.Given as goal

-- none so far
abbrev pub invariant-loop-place : goal.invariant-loop-place
invariant-loop-place l =
    (k : ℕ) → k < l.place-index → (place : Place) → slice_get l.places k ≡ Some place → ¬ IsReplaced (value_of l.before) (value_of l.after) place
