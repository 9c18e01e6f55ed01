use Rattle.std.proofs.Common.{◌<◌, Some, length, ap, sym, ◌∙◌, arith}
use Rattle.std.proofs.lemmas.Option.{slice_get-get_or}
use Rattle.iam_index.proofs.elements.Elements.known.Goals as goal

pub returns-then-equals : goal.returns-then-equals
returns-then-equals c =
    let elements = c.args.self.now.elements.items in
    let n = c.in_ok-number.number in
    let element = c.index.result.now in
    let within : n < length elements = omega (arith, c.if-number-len.true, c.len.ensures) in
    (element, slice_get-get_or elements n element within ∙ ap Some (sym c.index.ensures), c.equals.ensures c.if-equals.true)
