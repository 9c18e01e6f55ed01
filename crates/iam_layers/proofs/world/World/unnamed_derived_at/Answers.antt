use Rattle.std.proofs.Common.{IfOk, sym, subst}
use Rattle.iam_layers.specs.Unnamed.{AreUnnamedKeys}
use Rattle.iam_layers.proofs.world.World.unnamed_derived_at.Goals as goal

pub returns-in-Of : goal.returns-in-Of
returns-in-Of c =
    subst (λ unnamed. IfOk c.derived_in_at.result (λ derived. AreUnnamedKeys (record c.args.self.now { moment = c.args.moment }) c.args.p unnamed derived.items))
    (sym c.in-Of.is) c.derived_in_at.ensures
