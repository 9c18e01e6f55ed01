use Rattle.std.proofs.Common.{sym, subst}
use Rattle.iam_decision.specs.Applicable.{value_of}
use Rattle.iam_layers.specs.Unnamed.{AreUnnamedPolicies}
use Rattle.iam_layers.proofs.world.World.unnamed_applicable.Goals as goal

pub returns-in-Of-clause-value : goal.returns-in-Of-clause-value
returns-in-Of-clause-value c =
    subst (λ unnamed. AreUnnamedPolicies c.args.self.now c.args.p unnamed (value_of c.applicable_alone.result)) (sym c.in-Of.is) c.applicable_alone.ensures.value
