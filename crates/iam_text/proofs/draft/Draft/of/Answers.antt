use Rattle.iam_text.specs.declared.version.Version.TheVariants.{V2012}
use Rattle.iam_text.proofs.KeptLemmas.{kept, kept_draft}
use Rattle.iam_text.proofs.VariableLemmas.{draft_tested}
use Rattle.iam_text.proofs.draft.Draft.of.Goals as goal

pub invariant_of-result : goal.invariant_of-result
invariant_of-result c =
    let draft = (draft_tested c.args.wild c.args.text.now c.utf8.text).0 c.requires in
    (kept V2012 c.args.wild c.in_ok-read.field-0 draft.0 (rw c.in_ok-read.ensures draft.1), tt)

pub returns : goal.returns
returns c =
    let draft = (draft_tested c.args.wild c.args.text.now c.utf8.text).0 c.requires in
    rw (← c.in_ok-read.ensures) (search (kept_draft V2012 c.args.wild c.in_ok-read.field-0 draft.0 (rw c.in_ok-read.ensures draft.1)))
