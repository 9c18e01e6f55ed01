use Rattle.std.proofs.Common.{ℕ, subst}
use Rattle.std.proofs.lemmas.Result.{IfOk-weaker}
use Rattle.iam_open.specs.Code.Pairs.{IsPairAt}
use Rattle.iam_open.specs.declared.certain.Certain.{Certain}
use Rattle.iam_open.proofs.pair.certainly_where.Goals as goal

pub returns-clause-always : goal.returns-clause-always
returns-clause-always c =
    let world = c.args.world.now in
    let own = c.args.own.now.items in
    let is = subst (λ (p : ℕ). IsPairAt world p c.args.r own c.args.moment c.in_ok-pair.pair) c.named.ensures.principal
    (c.in_ok-pair.ensures.is world c.args.r c.named.ensures.seat) in
    IfOk-weaker c.pair_certain.result _ _
    (λ (certain : Certain) told. told world c.args.p c.args.a c.args.r own c.args.moment c.action_text.ensures is)
    c.pair_certain.ensures.always

pub returns-clause-never : goal.returns-clause-never
returns-clause-never c =
    let world = c.args.world.now in
    let own = c.args.own.now.items in
    let is = subst (λ (p : ℕ). IsPairAt world p c.args.r own c.args.moment c.in_ok-pair.pair) c.named.ensures.principal
    (c.in_ok-pair.ensures.is world c.args.r c.named.ensures.seat) in
    IfOk-weaker c.pair_certain.result _ _
    (λ (certain : Certain) told. told world c.args.p c.args.a c.args.r own c.args.moment c.action_text.ensures is)
    c.pair_certain.ensures.never
