use Rattle.std.proofs.Common.{◌≡◌, length}
use denote.Text.{Utf8}
use denote.Shadow.{shadow}
use Rattle.iam_text.specs.Variables.{is_draft_from, opened}
use Rattle.iam_text.proofs.draft.has_forms_behind.Given as goal

-- what is left passes where the text does
abbrev pub invariant-loop-behind : goal.invariant-loop-behind
invariant-loop-behind l = shadow (Utf8 l.inside) × (is_draft_from opened l.fn.text ≡ is_draft_from opened l.inside)

abbrev pub decreases-loop-behind : goal.decreases-loop-behind
decreases-loop-behind l = length l.inside
