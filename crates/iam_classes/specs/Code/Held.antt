-- What requests share, whoever keeps it.
use Rattle.iam_decision.specs.Living.{SharedValue}
use Rattle.iam_classes.specs.declared.held.Keeper.{Keeper}
use Rattle.iam_classes.specs.declared.held.Keeper.TheVariants.{Own, Lent}

abbrev pub kept_by : Keeper → SharedValue
kept_by (Own shared) = shared
kept_by (Lent shared) = shared.now
