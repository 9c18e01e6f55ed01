use Rattle.std.proofs.Common.{subst}
use Rattle.std.proofs.lemmas.Result.{IfOk-weaker}
use Rattle.iam_layers.specs.Cell.{IsCell}
use Rattle.iam_world.specs.World.{WorldValue}
use Rattle.iam_ask.specs.Report.{IsVerdictOn}
use Rattle.iam_ask.proofs.Judged.{said_on, with_own, without_own}
use Rattle.iam_ask.proofs.answer.verdict_on.Goals as goal

pub returns-in-Some-clause-is : goal.returns-in-Some-clause-is
returns-in-Some-clause-is c =
    let requests = c.args.requests.now in
    let at = c.at-at.result in
    let numbers = c.at-at.ensures in
    IfOk-weaker c.decide_own.result _ _
    (λ entry told.
    said_on IsVerdictOn requests c.args.n at c.args.engine.now entry c.requires.world numbers.principal numbers.action numbers.resource numbers.is
    (with_own IsVerdictOn requests c.args.n at c.in-Some.own.now.items c.args.engine.now entry c.in-Some.ensures told))
    c.decide_own.ensures.verdict

pub returns-in-None-clause-is : goal.returns-in-None-clause-is
returns-in-None-clause-is c =
    let requests = c.args.requests.now in
    let at = c.at-at.result in
    let numbers = c.at-at.ensures in
    let cell = c.cell-cell.result in
    let C : WorldValue → Type 0 = λ w. IsCell w cell at.principal at.action at.resource in
    let law = c.without_keys_as_its_cell.ensures.verdict c.args.engine.now cell at.principal at.action at.resource in
    IfOk-weaker c.decide.result _ _
    (λ entry told.
    said_on IsVerdictOn requests c.args.n at c.args.engine.now entry c.requires.world numbers.principal numbers.action numbers.resource numbers.is
    (without_own IsVerdictOn requests c.args.n at c.args.engine.now entry c.in-None.ensures ((law entry (subst C c.world.ensures c.cell-cell.ensures.is)).1 told)))
    c.decide.ensures.verdict
