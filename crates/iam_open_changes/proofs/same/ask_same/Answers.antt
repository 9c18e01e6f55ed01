use Rattle.std.proofs.lemmas.Result.{IfOk-weaker}
use Rattle.iam_open_changes.proofs.LookLemmas.{ask_same}
use Rattle.iam_open_changes.proofs.same.ask_same.Goals as goal

pub returns : goal.returns
returns c =
    IfOk-weaker c.has_same_derived.result _ _
    (λ same told t one other was now has has'.
    ask_same one other was now (c.has_same_who.ensures c.if-not-has_same_who.false one other was now has has')
    (c.has_same_texts.ensures c.if-not-has_same_texts.false one other was now has has')
    (c.has_same_known.ensures c.if-not-has_same_known.false one other was now has has')
    (c.has_same_frame.ensures c.if-not-has_same_frame.false one other was now has has') (told t one other was now has has'))
    c.has_same_derived.ensures
