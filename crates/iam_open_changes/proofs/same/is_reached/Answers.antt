use Rattle.std.proofs.lemmas.Result.{IfOk-weaker}
use Rattle.iam_open_changes.proofs.same.is_reached.Goals as goal

pub returns : goal.returns
returns c =
    IfOk-weaker c.keeps_entries.result _ _
    (λ yes kept is. record {
      alike = c.stand_alike.ensures c.if-not-stand_alike.false;
      grant = c.grants_as_much.ensures c.if-not-grants_as_much.false;
      resource = c.keeps_resource.ensures c.if-not-keeps_resource.false;
      entries = kept is;
    })
    c.keeps_entries.ensures
