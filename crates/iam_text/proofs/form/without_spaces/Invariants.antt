use Rattle.std.proofs.Common.{◌≡◌, ℕ, ◌++◌, length, replicate}
use denote.Text.{Utf8}
use denote.Shadow.{shadow}
use Rattle.iam_text.proofs.form.without_spaces.Given as goal

-- spaces alone were passed
abbrev pub invariant-loop-behind : goal.invariant-loop-behind
invariant-loop-behind l = shadow (Utf8 l.rest) × ((n : ℕ) × (l.fn.text ≡ replicate n 32 ++ l.rest))

abbrev pub decreases-loop-behind : goal.decreases-loop-behind
decreases-loop-behind l = length l.rest
