use Rattle.std.proofs.Common.{length, sym, ap, subst, ◌∙◌, arith}
use Rattle.std.proofs.lemmas.Slice.Zip.{AllZip-long}
use Rattle.iam_layers.specs.Cell.{IsCell}
use Rattle.iam_row.specs.Report.{IsCellTexts}
use Rattle.iam_changes.specs.Code.Found.{FinderValue, IsNumberIn}
use Rattle.iam_changes.specs.Requests.{Has}
use Rattle.iam_changes.specs.Twice.{axis_texts}
use Rattle.iam_changes.specs.declared.twice.Axis.TheVariants.{Principals, Actions, Resources}
use Rattle.iam_changes.proofs.Places.{count_principals, has_found, number_there, principal_there, resource_there, some_at, texts_found, texts_there}
use Rattle.iam_changes.proofs.finder.Finder.finds_row.Goals as goal
use Rattle.iam_changes.proofs.finder.Finder.finds_row.Goals.{then-self, else-self}

pub index-requires : goal.index-requires
index-requires c =
    let own = c.self.inside in
    let count = count_principals own.world.now (IsNumberIn (axis_texts Principals own.other.now)) own.principals.items c.self.invariant.of_principals in
    let same = ap (λ (v : FinderValue). length v.world.principals) c.self.view_is in
    omega (arith, count, same, c.requires.principal)

pub index-requires-then-is_some : goal.index-requires-then-is_some
index-requires-then-is_some c =
    let own = c.self.inside in
    let count = AllZip-long (IsNumberIn (axis_texts Actions own.other.now)) (axis_texts Actions own.world.now) own.actions.items c.self.invariant.of_actions in
    let same = ap (λ (v : FinderValue). length v.world.actions) c.self.view_is in
    omega (arith, count, same, c.requires.action)

pub returns-then-is_some : goal.returns-then-is_some
returns-then-is_some c on cell r texts is of =
    let own = c.self.inside in
    let world = own.world.now in
    let other = own.other.now in
    let at = c.args.at in
    let C : FinderValue → Type 0 = λ v. IsCell v.world cell at.principal at.action r in
    let T : FinderValue → Type 0 = λ v. IsCellTexts v.world cell texts in
    let H : FinderValue → Type 0 = λ v. Has v.other texts in
    let has = texts_there c.one_triple.ensures.one world cell at.principal at.action r texts (subst C (sym c.self.view_is) is) (subst T (sym c.self.view_is) of) in
    let some_action = some_at own.actions.items at.action c.index-then-is_some.result.now c.index-then-is_some.ensures (sym c.is_some-then-is_some.ensures ∙ on) in
    let action = number_there (axis_texts Actions other) (axis_texts Actions world) own.actions.items at.action texts.action c.self.invariant.of_actions has.action some_action in
    elim c.if-self.branch [
      | then-self w ↦
          let some_principal = some_at own.principals.items at.principal w.index.result.now w.index.ensures (sym w.is_some.ensures ∙ sym w.value-is ∙ c.if-is_some.true) in
          let principal = number_there (axis_texts Principals other) (axis_texts Principals world) own.principals.items at.principal texts.principal c.self.invariant.of_principals
          (principal_there world at.principal at.action r texts has) some_principal in
          let resource = number_there (axis_texts Resources other) (axis_texts Resources world) own.resources.items r texts.resource c.self.invariant.of_resources
          (resource_there world at.principal at.action r texts has) (c.self.invariant.resources_are w.if-self.true r) in
          subst H c.self.view_is
          (has_found other principal.0 action.0 resource.0 texts (texts_found other principal.0 action.0 resource.0 texts principal.1 action.1 resource.1))
      | else-self w ↦ let off = w.value-is in let yes = c.if-is_some.true in absurd (let wrong : ⊥ = cc in wrong)
    ]
