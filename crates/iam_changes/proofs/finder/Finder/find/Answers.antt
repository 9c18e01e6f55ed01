use Rattle.std.proofs.Common.{◌≡◌, Contains, Option, Some, MatchOption, slice_get, ℕ, length, sym, ap, subst, arith}
use Rattle.std.proofs.lemmas.Slice.Zip.{AllZip-long}
use Rattle.iam_layers.specs.Cell.{IsCell}
use Rattle.iam_row.specs.Report.{HasTexts, IsCellTexts}
use Rattle.iam_changes.specs.Code.Found.{FinderValue, IsNumberIn}
use Rattle.iam_changes.specs.Requests.{Has}
use Rattle.iam_changes.specs.Twice.{axis_texts}
use Rattle.iam_changes.specs.declared.twice.Axis.TheVariants.{Principals, Actions, Resources}
use Rattle.iam_changes.proofs.Places.{count_principals, count_resources, has_action, has_principal, has_resource, principal_there, resource_there, texts_found, texts_there, zipped_at}
use Rattle.iam_changes.proofs.finder.Finder.find.Goals as goal

pub index-requires : goal.index-requires
index-requires c =
    let own = c.self.inside in
    let count = count_principals own.world.now (IsNumberIn (axis_texts Principals own.other.now)) own.principals.items c.self.invariant.of_principals in
    let same = ap (λ (v : FinderValue). length v.world.principals) c.self.view_is in
    omega (arith, count, same, c.requires.principal)

pub index-requires-2 : goal.index-requires-2
index-requires-2 c =
    let own = c.self.inside in
    let count = AllZip-long (IsNumberIn (axis_texts Actions own.other.now)) (axis_texts Actions own.world.now) own.actions.items c.self.invariant.of_actions in
    let same = ap (λ (v : FinderValue). length v.world.actions) c.self.view_is in
    omega (arith, count, same, c.requires.action)

pub index-requires-3 : goal.index-requires-3
index-requires-3 c =
    let own = c.self.inside in
    let count = count_resources own.world.now (IsNumberIn (axis_texts Resources own.other.now)) own.resources.items c.self.invariant.of_resources in
    let same = ap (λ (v : FinderValue). length v.world.resources) c.self.view_is in
    omega (arith, count, same, c.requires.resource)

pub returns-in_err-principal : goal.returns-in_err-principal
returns-in_err-principal c texts of =
    let own = c.self.inside in
    let world = own.world.now in
    let other = own.other.now in
    let at = c.args.at in
    let C : FinderValue → Type 0 = λ v. IsCell v.world at.cell at.principal at.action at.resource in
    let T : FinderValue → Type 0 = λ v. IsCellTexts v.world at.cell texts in
    let has = texts_there c.one_triple.ensures.one world at.cell at.principal at.action at.resource texts (subst C (sym c.self.view_is) c.requires) (subst T (sym c.self.view_is) of) in
    let number = zipped_at (IsNumberIn (axis_texts Principals other)) (axis_texts Principals world) own.principals.items at.principal texts.principal c.index.result.now c.self.invariant.of_principals
    (principal_there world at.principal at.action at.resource texts has) c.index.ensures in
    let absent : ¬ Contains (axis_texts Principals other) texts.principal = subst (IsNumberIn (axis_texts Principals other) texts.principal) c.in_err-principal.was number in
    let G : FinderValue → Type 0 = λ v. MatchOption c.from_residual.result (¬ Has v.other texts) (λ found. HasTexts v.other found.0 found.1 found.2 texts) in
    let M : Option (ℕ × ℕ × ℕ) → Type 0 = λ o. MatchOption o (¬ Has other texts) (λ found. HasTexts other found.0 found.1 found.2 texts) in
    subst G c.self.view_is (subst M (sym c.from_residual.ensures) (λ h. absent (has_principal other texts h)))

pub returns-in_err-action : goal.returns-in_err-action
returns-in_err-action c texts of =
    let own = c.self.inside in
    let world = own.world.now in
    let other = own.other.now in
    let at = c.args.at in
    let C : FinderValue → Type 0 = λ v. IsCell v.world at.cell at.principal at.action at.resource in
    let T : FinderValue → Type 0 = λ v. IsCellTexts v.world at.cell texts in
    let has = texts_there c.one_triple.ensures.one world at.cell at.principal at.action at.resource texts (subst C (sym c.self.view_is) c.requires) (subst T (sym c.self.view_is) of) in
    let number = zipped_at (IsNumberIn (axis_texts Actions other)) (axis_texts Actions world) own.actions.items at.action texts.action c.index-2.result.now c.self.invariant.of_actions
    has.action c.index-2.ensures in
    let absent : ¬ Contains (axis_texts Actions other) texts.action = subst (IsNumberIn (axis_texts Actions other) texts.action) c.in_err-action.was number in
    let G : FinderValue → Type 0 = λ v. MatchOption c.from_residual-in_err-action.result (¬ Has v.other texts) (λ found. HasTexts v.other found.0 found.1 found.2 texts) in
    let M : Option (ℕ × ℕ × ℕ) → Type 0 = λ o. MatchOption o (¬ Has other texts) (λ found. HasTexts other found.0 found.1 found.2 texts) in
    subst G c.self.view_is (subst M (sym c.from_residual-in_err-action.ensures) (λ h. absent (has_action other texts h)))

pub returns-in_err-resource : goal.returns-in_err-resource
returns-in_err-resource c texts of =
    let own = c.self.inside in
    let world = own.world.now in
    let other = own.other.now in
    let at = c.args.at in
    let C : FinderValue → Type 0 = λ v. IsCell v.world at.cell at.principal at.action at.resource in
    let T : FinderValue → Type 0 = λ v. IsCellTexts v.world at.cell texts in
    let has = texts_there c.one_triple.ensures.one world at.cell at.principal at.action at.resource texts (subst C (sym c.self.view_is) c.requires) (subst T (sym c.self.view_is) of) in
    let number = zipped_at (IsNumberIn (axis_texts Resources other)) (axis_texts Resources world) own.resources.items at.resource texts.resource c.index-3.result.now c.self.invariant.of_resources
    (resource_there world at.principal at.action at.resource texts has) c.index-3.ensures in
    let absent : ¬ Contains (axis_texts Resources other) texts.resource = subst (IsNumberIn (axis_texts Resources other) texts.resource) c.in_err-resource.was number in
    let G : FinderValue → Type 0 = λ v. MatchOption c.from_residual-in_err-resource.result (¬ Has v.other texts) (λ found. HasTexts v.other found.0 found.1 found.2 texts) in
    let M : Option (ℕ × ℕ × ℕ) → Type 0 = λ o. MatchOption o (¬ Has other texts) (λ found. HasTexts other found.0 found.1 found.2 texts) in
    subst G c.self.view_is (subst M (sym c.from_residual-in_err-resource.ensures) (λ h. absent (has_resource other texts h)))

pub returns : goal.returns
returns c texts of =
    let own = c.self.inside in
    let world = own.world.now in
    let other = own.other.now in
    let at = c.args.at in
    let C : FinderValue → Type 0 = λ v. IsCell v.world at.cell at.principal at.action at.resource in
    let T : FinderValue → Type 0 = λ v. IsCellTexts v.world at.cell texts in
    let has = texts_there c.one_triple.ensures.one world at.cell at.principal at.action at.resource texts (subst C (sym c.self.view_is) c.requires) (subst T (sym c.self.view_is) of) in
    let principal : slice_get (axis_texts Principals other) c.in_ok-principal.principal ≡ Some texts.principal = subst (IsNumberIn (axis_texts Principals other) texts.principal) c.in_ok-principal.was
    (zipped_at (IsNumberIn (axis_texts Principals other)) (axis_texts Principals world) own.principals.items at.principal texts.principal c.index.result.now c.self.invariant.of_principals (principal_there world at.principal at.action at.resource texts has) c.index.ensures) in
    let action : slice_get (axis_texts Actions other) c.in_ok-action.action ≡ Some texts.action = subst (IsNumberIn (axis_texts Actions other) texts.action) c.in_ok-action.was
    (zipped_at (IsNumberIn (axis_texts Actions other)) (axis_texts Actions world) own.actions.items at.action texts.action c.index-2.result.now c.self.invariant.of_actions has.action c.index-2.ensures) in
    let resource : slice_get (axis_texts Resources other) c.in_ok-resource.resource ≡ Some texts.resource = subst (IsNumberIn (axis_texts Resources other) texts.resource) c.in_ok-resource.was
    (zipped_at (IsNumberIn (axis_texts Resources other)) (axis_texts Resources world) own.resources.items at.resource texts.resource c.index-3.result.now c.self.invariant.of_resources (resource_there world at.principal at.action at.resource texts has) c.index-3.ensures) in
    let H : FinderValue → Type 0 = λ v. HasTexts v.other c.in_ok-principal.principal c.in_ok-action.action c.in_ok-resource.resource texts in
    subst H c.self.view_is (texts_found other c.in_ok-principal.principal c.in_ok-action.action c.in_ok-resource.resource texts principal action resource)
