use Rattle.iam_app.proofs.any_key_changes.answer.Goals as goal

-- a beginning of the report was written
pub returns-clause-fault : goal.returns-clause-fault
returns-clause-fault g c = (
  record { kinds = c.in_ok-text.field-0.kinds; some = c.have_some-some.result },
  ((c.in_ok-text.field-0.text.items, c.in_ok-text.ensures, c.in-Err.ensures.err), c.have_some-some.ensures),
)
