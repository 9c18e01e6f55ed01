use Rattle.std.proofs.Common.{subst}
use Rattle.std.proofs.lemmas.Result.{IfOk-weaker}
use Rattle.iam_layers.specs.Cell.{IsDerivedAt}
use Rattle.iam_open.specs.InQuestion.{at_moment}
use Rattle.iam_open.specs.Seat.{IsSeat}
use Rattle.iam_open.specs.declared.scene.Target.{Target}
use Rattle.iam_open.proofs.SeatLemmas.{at_unnamed, derived_behind}
use Rattle.iam_open.proofs.scene.Scene.derived.Goals as goal

pub returns-in-Unnamed : goal.returns-in-Unnamed
returns-in-Unnamed c =
    let world = c.args.self.world.now in
    let p = c.args.self.p in
    let moment = c.args.moment in
    let unnamed = c.in-Unnamed.unnamed in
    let text = c.in-Unnamed.field-1 in
    IfOk-weaker c.unnamed_derived_at.result _ _
    (λ derived keys other r seat.
    at_unnamed (λ w n. IsDerivedAt (at_moment w moment) p n derived.items) world unnamed text other r
    (subst (λ (t : Target). IsSeat world t other r) c.in-Unnamed.is seat) (derived_behind world p moment unnamed text.now derived.items keys))
    c.unnamed_derived_at.ensures
