use Rattle.std.proofs.Common.{◌≡◌, subst}
use Rattle.iam_layers.specs.Cell.{IsResource}
use Rattle.iam_open.specs.Seat.{IsAskedFor, IsSeat}
use Rattle.iam_layers.specs.declared.unnamed.Unnamed.TheVariants as said
use Rattle.iam_open.specs.declared.scene.Target.{Target}
use Rattle.iam_open.proofs.SeatLemmas.{at_unnamed, behind, named, there}
use Rattle.iam_open.proofs.scene.Scene.part.Goals as goal

pub said_part-requires : goal.said_part-requires
said_part-requires c =
    let world = c.args.self.world.now in
    let none = c.args.self.none.now.items in
    let unnamed = c.in-Unnamed.unnamed in
    let text = c.in-Unnamed.field-1 in
    let asked = subst (λ (t : Target). IsAskedFor world none t) c.in-Unnamed.is c.args.self.there in
    record { there = there world none unnamed text asked; empty = λ account is. asked.2 account text (named unnamed (said.Of account) text is) }

pub returns-in-Unnamed : goal.returns-in-Unnamed
returns-in-Unnamed c = λ other r seat.
    let world = c.args.self.world.now in
    let unnamed = c.in-Unnamed.unnamed in
    let text = c.in-Unnamed.field-1 in
    let part = c.said_part.result.now.items in
    at_unnamed (λ w n. IsResource w n (λ resource. part ≡ resource.context)) world unnamed text other r
    (subst (λ (t : Target). IsSeat world t other r) c.in-Unnamed.is seat)
    (λ action resource said. behind (λ x. part ≡ x.context) world action resource (c.said_part.ensures text.now resource said))
