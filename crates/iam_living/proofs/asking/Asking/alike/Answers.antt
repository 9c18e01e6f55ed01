use Rattle.std.proofs.Common.{subst}
use Rattle.iam_living.specs.Listing.{AreAlikes}
use Rattle.iam_living.specs.declared.asker.Asker.{Asker}
use Rattle.iam_living.proofs.asking.Asking.alike.Goals as goal

pub returns-clause-alikes : goal.returns-clause-alikes
returns-clause-alikes c = let V : Asker → Type 0 = λ v. AreAlikes v.listing in subst V c.self.view_is c.alike.ensures.alikes
