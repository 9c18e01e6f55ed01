use Rattle.std.proofs.Common.{◌<◌, Bor, Contains, arith, length, subst, sym}
use Rattle.iam_element.specs.Reading.{ActionElement}
use Rattle.iam_every.specs.Elements.{elements_in}
use Rattle.iam_every.proofs.ListLemmas.{mapped}
use Rattle.iam_every.proofs.actions.Elements.is_at.Goals as goal

pub returns-then-number-len : goal.returns-then-number-len
returns-then-number-len c = λ yes.
    let listed = c.args.self.now.listed.items in
    let below : c.args.number < length listed = omega (arith, c.if-number-len.true, c.len.ensures) in
    let there = mapped (λ (e : Bor ActionElement). e.now) c.index.result.now listed (c.args.number, below, sym c.index.ensures) in
    subst (Contains (elements_in c.args.self.now)) (c.equals.ensures yes) there
