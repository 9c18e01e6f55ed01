use Rattle.std.proofs.Common.{arith, map, string_bytes, subst, take}
use Rattle.std.proofs.lemmas.List.{length-map, length-take, take_all}
use Rattle.std.proofs.lemmas.Option.{slice_get_within}
use Rattle.iam_asked.specs.Code.Found.{AreOwnedPlaces}
use Rattle.iam_asked.specs.Texts.{folded}
use Rattle.iam_asked.proofs.TextPlaces.{next_image}
use Rattle.iam_asked.proofs.places.folded_places.Goals as goal

pub loop-a-preserved : goal.loop-a-preserved
loop-a-preserved c =
    let xs = c.args.world.now.actions in
    let at = c.action_text.ensures in
    let inside = slice_get_within xs c.loop-a.a c.action_text.result.now at in
    subst (λ ts. AreOwnedPlaces ts c.add_owned.new.places)
    (next_image folded xs c.loop-a.a c.action_text.result.now (string_bytes c.in_ok-folded.field-0) at c.in_ok-folded.ensures)
    (c.in_ok-add_owned.ensures (map folded (take c.loop-a.a xs))
    (omega (arith, length-map (take c.loop-a.a xs) folded, length-take c.loop-a.a xs, inside)) c.loop-a.invariant)

pub returns : goal.returns
returns c =
    subst (λ xs. AreOwnedPlaces (map folded xs) c.loop-a.places) (take_all c.loop-a.a c.args.world.now.actions (omega (arith, c.loop-a-test.false)))
    c.loop-a.invariant
