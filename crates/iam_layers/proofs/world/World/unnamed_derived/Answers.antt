use Rattle.std.proofs.Common.{IfOk, sym, subst}
use Rattle.iam_layers.specs.Unnamed.{AreUnnamedKeys}
use Rattle.iam_layers.proofs.world.World.unnamed_derived.Goals as goal

pub returns-in-Of : goal.returns-in-Of
returns-in-Of c =
    subst (λ unnamed. IfOk c.derived_in.result (λ derived. AreUnnamedKeys c.args.self.now c.args.p unnamed derived.items)) (sym c.in-Of.is) c.derived_in.ensures
