use Rattle.std.proofs.Common.{IfSome, map, subst}
use Rattle.iam_decision.specs.Code.Scan.{placed_value}
use Rattle.iam_columns.specs.Slots.{Keeps}
use Rattle.iam_living.specs.Listing.{AreAlikes, ListingValue}
use Rattle.iam_living.proofs.AlikeLemmas.{are_alikes}
use Rattle.iam_living.proofs.listing.Listing.alike.Goals as goal

pub returns-clause-number : goal.returns-clause-number
returns-clause-number c =
    let V : ListingValue → Type 0 = λ v. IfSome c.kept.result (Keeps v.alikes c.args.r) in subst V c.self.view_is c.kept.ensures.found

pub returns-clause-alikes : goal.returns-clause-alikes
returns-clause-alikes c =
    let inside = c.self.inside in
    let (_, _, alike) = c.self.invariant in
    let value : ListingValue = record {
      world = inside.world.now;
      org = map placed_value inside.org.statements;
      own = map placed_value inside.own.statements;
      alikes = inside.alikes.now;
    } in
    subst AreAlikes c.self.view_is (are_alikes value alike)
