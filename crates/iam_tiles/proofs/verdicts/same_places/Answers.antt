use Rattle.std.proofs.Common.{◌≡◌, rules}
use Rattle.std.proofs.lemmas.Slice.Eq.{slice_eq-Decides}
use Rattle.std.specs.Bool.{Decides}
use Rattle.iam_decision.specs.declared.place.Place.{Place}
use Rattle.iam_decision.specs.contracts.place.PlacePartialEq.TheImpl as the_impl
use Rattle.iam_tiles.proofs.verdicts.same_places.Goals as goal

decides : (a b : Place) → Decides (the_impl.eq-value.it a b) (a ≡ b)
decides a b = search rules

pub returns : goal.returns
returns c = slice_eq-Decides decides c.args.a.now c.args.b.now c.eq.result c.eq.ensures
