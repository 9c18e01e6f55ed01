use Rattle.std.proofs.Common.{inl, inr}
use Rattle.iam_every_changes.proofs.laws.same_access_without_a_row.Goals as goal

pub returns : goal.returns
returns c = λ both rows some action text was now changes meant resource says_was says_now none.
    elim (changes.whole action text was now meant resource says_was says_now) [ inl same ↦ same | inr (row, there, told) ↦ absurd (none row there told) ]
