use Rattle.std.proofs.Common.{None, subst}
use Rattle.std.proofs.lemmas.Result.{IfOk-weaker}
use Rattle.iam_context.specs.Context.{ContextValue}
use Rattle.iam_open.specs.Code.Pairs.{IsPairAt}
use Rattle.iam_open.specs.declared.pair.Pair.{Pair}
use Rattle.iam_open.proofs.pair.plain_pair.Goals as goal

pub returns-clause-is : goal.returns-clause-is
returns-clause-is c =
    IfOk-weaker c.pair_of.result _ _
    (λ (pair : Pair) is other r seat.
    subst (λ (part : ContextValue). IsPairAt other c.args.scene.p r part None pair) c.new-none.ensures.items (is other r seat))
    c.pair_of.ensures.is
