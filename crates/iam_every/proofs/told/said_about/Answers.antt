use Rattle.std.proofs.Common.{List, ℕ, ap, map, subst, sym}
use Rattle.std.proofs.lemmas.Result.{IfOk-weaker}
use Rattle.iam_layers.specs.declared.unnamed.Unnamed.TheVariants.{Like}
use Rattle.iam_every.specs.Code.Picked.{ActsOn, TellEach}
use Rattle.iam_every.specs.Code.Told.{IsSaidFor, IsSceneOf, eligible_in, row_as}
use Rattle.iam_every.specs.Every.{RowValue, every_of}
use Rattle.iam_every.specs.Made.{IsRowOf}
use Rattle.iam_every.specs.declared.told.About.{About}
use Rattle.iam_every.proofs.told.said_about.Goals as goal

pub returns-in_ok-said-in-Resource-clause-said : goal.returns-in_ok-said-in-Resource-clause-said
returns-in_ok-said-in-Resource-clause-said c =
    let every = every_of c.args.given.asked in
    let p = c.args.given.p in
    let r = c.in-Resource.r in
    let said = c.in_ok-said-in-Resource.said in
    let scene = subst (λ (x : About). IsSceneOf every p x c.args.scene) c.in-Resource.is c.requires.scene in
    let (resource, at, is) = c.resource_text-text.ensures in
    IfOk-weaker c.alone.result _
    (λ all. (action : List ℕ) → TellEach (ActsOn action) (eligible_in c.args.scene) c.args.acts.now → IsSaidFor every p c.args.about action all.items)
    (λ all alone action act.
    let row : RowValue = row_as action said in
    let of = c.in_ok-said-in-Resource.ensures.said every.world p (Like r) action scene act in
    subst (λ (x : About). IsSaidFor every p x action all.items) (sym c.in-Resource.is)
    (row, (resource, at, subst (λ (t : List ℕ). IsRowOf every.world p (Like r) action t row) is of), ap (map (row_as action)) alone))
    c.alone.ensures

pub returns-in_ok-said-in-Star-clause-said : goal.returns-in_ok-said-in-Star-clause-said
returns-in_ok-said-in-Star-clause-said c =
    let every = every_of c.args.given.asked in
    let p = c.args.given.p in
    let said = c.in_ok-said-in-Star.said in
    let scene = subst (λ (x : About). IsSceneOf every p x c.args.scene) c.in-Star.is c.requires.scene in
    IfOk-weaker c.alone-in-Star.result _
    (λ all. (action : List ℕ) → TellEach (ActsOn action) (eligible_in c.args.scene) c.args.acts.now → IsSaidFor every p c.args.about action all.items)
    (λ all alone action act.
    let row : RowValue = row_as action said in
    subst (λ (x : About). IsSaidFor every p x action all.items) (sym c.in-Star.is) (
      row,
      λ line at. c.in_ok-said-in-Star.ensures.said every.world p line.unnamed action (scene line at) act,
      ap (map (row_as action)) alone,
    ))
    c.alone-in-Star.ensures
