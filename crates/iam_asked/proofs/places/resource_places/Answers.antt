use Rattle.std.proofs.Common.{List, ℕ, arith, map, subst, take}
use Rattle.std.proofs.lemmas.List.{length-map, length-take, take_all}
use Rattle.std.proofs.lemmas.Option.{slice_get_within}
use Rattle.iam_world.specs.World.{ResourceValue}
use Rattle.iam_asked.specs.Code.Found.{ArePlaces}
use Rattle.iam_asked.proofs.TextPlaces.{next_image}
use Rattle.iam_asked.proofs.places.resource_places.Goals as goal

pub loop-r-preserved : goal.loop-r-preserved
loop-r-preserved c =
    let xs = c.args.world.now.resources in
    let arn : ResourceValue → List ℕ = λ resource. resource.arn in
    let (resource, at, is) = c.resource_text.ensures in
    let inside = slice_get_within xs c.loop-r.r resource at in
    subst (λ ts. ArePlaces ts c.add.new.places) (next_image arn xs c.loop-r.r resource c.resource_text.result.now at is)
    (c.in_ok-add.ensures (map arn (take c.loop-r.r xs))
    (omega (arith, length-map (take c.loop-r.r xs) arn, length-take c.loop-r.r xs, inside)) c.loop-r.invariant)

pub returns : goal.returns
returns c =
    subst (λ (xs : List ResourceValue). ArePlaces (map (λ resource. resource.arn) xs) c.loop-r.places)
    (take_all c.loop-r.r c.args.world.now.resources (omega (arith, c.loop-r-test.false))) c.loop-r.invariant
