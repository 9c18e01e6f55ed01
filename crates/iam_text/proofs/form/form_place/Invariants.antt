use Rattle.std.proofs.Common.{◌-◌, ◌<◌, ◌≤◌, ℕ, length}
use Rattle.iam_text.specs.Code.Forms.{BeginsAt}
use Rattle.iam_text.proofs.form.form_place.Given as goal

-- none stands before the place
abbrev pub invariant-loop-i : goal.invariant-loop-i
invariant-loop-i l = record {
  within : l.i ≤ length l.text;
  none : (k : ℕ) → k < l.i → ¬ BeginsAt l.text k;
}

abbrev pub decreases-loop-i : goal.decreases-loop-i
decreases-loop-i l = length l.text - l.i
