use Rattle.std.proofs.Common.{◌≡◌, ◌==◌, ◌∙◌, ap, not, refl, sym, true}
use Rattle.std.specs.List.{list_any}
use Rattle.iam_text.specs.Variables.{is_draft_in}
use Rattle.iam_text.proofs.VariableLemmas.{no_dollar, run_all}
use Rattle.iam_text.proofs.VersionLemmas.{draft_told_in}
use Rattle.iam_text.proofs.draft.has_draft.Goals as goal
use Rattle.iam_text.proofs.draft.has_draft.Goals.{Then-not-has_dollar}

plain : (c : Then-not-has_dollar) → not c.has_dollar.result ≡ is_draft_in c.args.version c.args.text.now
plain c =
    let off = no_dollar c.args.text.now (ap (list_any (λ b. b == 36)) (sym c.as_bytes.ensures.value) ∙ sym c.has_dollar.ensures ∙ c.if-not-has_dollar.true) in
    ap not c.if-not-has_dollar.true ∙ rw c.in-V2012.is (sym (run_all c.args.text.now c.utf8.text off))

pub returns-then-not-has_dollar-clause-value : goal.returns-then-not-has_dollar-clause-value
returns-then-not-has_dollar-clause-value c = plain c

pub returns-then-not-has_dollar-clause-drafts : goal.returns-then-not-has_dollar-clause-drafts
returns-then-not-has_dollar-clause-drafts c = draft_told_in (not c.has_dollar.result) c.args.version c.args.text.now c.utf8.text (plain c)

pub returns-else-not-has_dollar-clause-drafts : goal.returns-else-not-has_dollar-clause-drafts
returns-else-not-has_dollar-clause-drafts c = draft_told_in c.has_forms.result c.args.version c.args.text.now c.utf8.text (rw c.in-V2012.is c.has_forms.ensures)

pub returns-in-V2008-clause-drafts : goal.returns-in-V2008-clause-drafts
returns-in-V2008-clause-drafts c = draft_told_in true c.args.version c.args.text.now c.utf8.text (rw c.in-V2008.is refl)
