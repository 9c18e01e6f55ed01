use Rattle.std.proofs.Common.{IsTrue}
use Rattle.iam_text.specs.Variables.{is_draft}
use Rattle.iam_text.proofs.VariableLemmas.{draft_tested}
use Rattle.iam_text.proofs.draft.Draft.read.Goals as goal

pub returns-else-has_draft : goal.returns-else-has_draft
returns-else-has_draft c pieces is =
    let tested : IsTrue (is_draft c.args.text.now) = (draft_tested c.args.wild c.args.text.now c.utf8.text).1 (pieces, is) in
    let value = c.has_draft.ensures.value in
    let wrong : ⊥ = cc in wrong
