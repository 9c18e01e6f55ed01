use Rattle.std.proofs.Common.{arith, subst, take}
use Rattle.std.proofs.lemmas.List.{length-take, take_all}
use Rattle.std.proofs.lemmas.Option.{slice_get_within}
use Rattle.iam_asked.specs.Code.Found.{ArePlaces}
use Rattle.iam_asked.proofs.TextPlaces.{next_text}
use Rattle.iam_asked.proofs.places.action_places.Goals as goal

pub loop-a-preserved : goal.loop-a-preserved
loop-a-preserved c =
    let texts = c.args.world.now.actions in
    let at = c.action_text.ensures in
    let inside = slice_get_within texts c.loop-a.a c.action_text.result.now at in
    subst (λ xs. ArePlaces xs c.add.new.places) (next_text texts c.loop-a.a c.action_text.result.now at)
    (c.in_ok-add.ensures (take c.loop-a.a texts) (omega (arith, length-take c.loop-a.a texts, inside)) c.loop-a.invariant)

pub returns : goal.returns
returns c = subst (λ xs. ArePlaces xs c.loop-a.places) (take_all c.loop-a.a c.args.world.now.actions (omega (arith, c.loop-a-test.false))) c.loop-a.invariant
