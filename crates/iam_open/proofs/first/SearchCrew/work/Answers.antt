use Rattle.std.proofs.Common.{arith}
use Rattle.iam_open.specs.Asked.{asked_of}
use Rattle.iam_open.proofs.FirstLemmas.{none_in}
use Rattle.iam_open.proofs.first.SearchCrew.work.Goals as goal

pub returns-in_default-clause-given : goal.returns-in_default-clause-given
returns-in_default-clause-given c cell above inside below selected =
    let never = none_in (asked_of c.args.self.now.asked) c.args.self.now.world.now c.min-from.result c.min-to.result c.in_ok-found.field-0
    (λ one. c.in_default.not-Some one) c.in_ok-found.ensures in
    never cell (omega (arith, above)) (omega (arith, inside)) (omega (arith, inside)) selected
