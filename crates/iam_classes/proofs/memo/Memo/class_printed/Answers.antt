use Rattle.std.proofs.Common.{◌<◌, Some, length, ap, sym, ◌∙◌, subst, arith}
use Rattle.std.proofs.lemmas.Option.{slice_get-get_or}
use Rattle.iam_classes.specs.Memo.{HasShared, MemoValue}
use Rattle.iam_classes.proofs.memo.Memo.class_printed.Goals as goal

pub returns-then-equals : goal.returns-then-equals
returns-then-equals c =
    let classes = c.self.inside.classes.items in
    let n = c.in_ok-class.class in
    let class = c.index.result.now in
    let within : n < length classes = omega (arith, c.if-class-len.true, c.len.ensures) in
    let M : MemoValue → Type 0 = λ memo. HasShared memo.classes c.args.shared.now n in
    subst M c.self.view_is
    (class, slice_get-get_or classes n class within ∙ ap Some (sym c.index.ensures), sym c.get.ensures ∙ c.equals.ensures c.if-equals.true)
