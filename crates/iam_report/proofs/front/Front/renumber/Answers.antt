use Rattle.std.proofs.Common.{◌≡◌, ◌≤◌, ◌∙◌, arith, ap, decimal, length, rules}
use Rattle.std.proofs.lemmas.Fmt.{length-decimal-le}
use Rattle.iam_report.specs.Code.Front.{FrontValue}
use Rattle.iam_report.proofs.Fronts.{renumbered}
use Rattle.iam_report.proofs.front.Front.renumber.Goals as goal

pub write_digits-start-requires : goal.write_digits-start-requires
write_digits-start-requires c =
    let few : length (decimal c.args.number) ≤ 20 = search (rules, length-decimal-le 20) in
    (omega (arith, few, c.self.invariant.least, c.self.invariant.number), omega (arith, c.self.told, c.self.invariant.behind, c.self.invariant.most))

pub returns : goal.returns
returns c same =
    let front = c.self.inside in
    let number = decimal c.args.number in
    let is : c.write_digits-start.result ≡ front.start = grind (arith, same) in
    let written = c.write_digits-start.ensures in
    renumbered front.bytes c.write_digits-start.new.buf number _ front.start front.stop front.end c.self.invariant is written.start written.written written.before
    ∙ ap (λ (v : FrontValue). record v { number = number }) c.self.view_is
