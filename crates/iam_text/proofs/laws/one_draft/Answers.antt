use Rattle.iam_text.proofs.VersionLemmas.{draft_unique_in}
use Rattle.iam_text.proofs.laws.one_draft.Goals as goal

pub returns : goal.returns
returns c = draft_unique_in
