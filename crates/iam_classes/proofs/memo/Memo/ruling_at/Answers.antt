use Rattle.std.proofs.Common.{◌<◌, Some, length, ap, sym, ◌∙◌, subst, arith}
use Rattle.std.proofs.lemmas.Option.{slice_get-get_or}
use Rattle.iam_classes.specs.Memo.{HasRuling, MemoValue}
use Rattle.iam_classes.proofs.memo.Memo.ruling_at.Goals as goal

pub returns-then-is_on : goal.returns-then-is_on
returns-then-is_on c =
    let rulings = c.self.inside.rulings.items in
    let n = c.in_ok-number.number in
    let ruling = c.index.result.now in
    let within : n < length rulings = omega (arith, c.if-number-len.true, c.len.ensures) in
    let M : MemoValue → Type 0 = λ memo. HasRuling memo.rulings c.args.frame c.args.found.now n in
    subst M c.self.view_is (ruling, slice_get-get_or rulings n ruling within ∙ ap Some (sym c.index.ensures), c.is_on.ensures c.if-is_on.true)
