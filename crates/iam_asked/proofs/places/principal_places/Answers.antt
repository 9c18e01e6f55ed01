use Rattle.std.proofs.Common.{arith, map, subst, take}
use Rattle.std.proofs.lemmas.List.{length-map, length-take, take_all}
use Rattle.std.proofs.lemmas.Option.{slice_get_within}
use Rattle.iam_layers.specs.Cell.{principal_text}
use Rattle.iam_asked.specs.Code.Found.{ArePlaces}
use Rattle.iam_asked.proofs.TextPlaces.{next_image}
use Rattle.iam_asked.proofs.places.principal_places.Goals as goal

pub loop-p-preserved : goal.loop-p-preserved
loop-p-preserved c =
    let xs = c.args.world.now.principals in
    let (principal, at, is) = c.principal_text.ensures in
    let inside = slice_get_within xs c.loop-p.p principal at in
    subst (λ ts. ArePlaces ts c.add.new.places) (next_image principal_text xs c.loop-p.p principal c.principal_text.result.now at is)
    (c.in_ok-add.ensures (map principal_text (take c.loop-p.p xs))
    (omega (arith, length-map (take c.loop-p.p xs) principal_text, length-take c.loop-p.p xs, inside)) c.loop-p.invariant)

pub returns : goal.returns
returns c =
    subst (λ xs. ArePlaces (map principal_text xs) c.loop-p.places) (take_all c.loop-p.p c.args.world.now.principals (omega (arith, c.loop-p-test.false)))
    c.loop-p.invariant
