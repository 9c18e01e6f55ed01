use Rattle.std.proofs.Common.{◌++◌, IfOk, List, map, subst}
use Rattle.iam_match.specs.Statement.{AccessValue}
use Rattle.iam_decision.specs.Living.{AreLiving, living_value}
use Rattle.iam_decision.specs.Matched.{Placed}
use Rattle.iam_living.specs.Asker.{AreBitsOf}
use Rattle.iam_living.specs.declared.asker.Asker.{Asker}
use Rattle.iam_living.proofs.asking.Asking.living.Goals as goal

pub returns : goal.returns
returns c =
    let V : Asker → Type 0 =
    λ v. (access : AccessValue) (statements : List Placed) → AreBitsOf v access statements c.args.bits → IfOk c.living.result (λ living.
    AreLiving access (v.listing.org ++ (statements ++ v.listing.own)) (map living_value living.items)) in
    subst V c.self.view_is c.living.ensures
