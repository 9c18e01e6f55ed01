use Rattle.std.proofs.Common.{◌∙◌, List, ℕ, subst, sym}
use Rattle.iam_open.proofs.TimeLemmas.{lone, time_read}
use Rattle.iam_open.proofs.time.time_of.Goals as goal
use Rattle.iam_value.specs.Moment.{IsMoment}
use Rattle.iam_value.specs.Reading.{IsReading}

pub returns-in-len1 : goal.returns-in-len1
returns-in-len1 c =
    time_read c.one_moment.ensures c.args.context.now c.moment.result c.text-item.result
    (sym c.values.ensures ∙ lone c.values.result.now c.text-item.result c.in-len1.len_at_least c.in-len1.len_below c.text-item.is)
    (subst (λ (text : List ℕ). IsReading c.moment.result (IsMoment text)) c.as_str.ensures c.moment.ensures.value)
