use Rattle.std.proofs.Common.{◌≡◌, ◌+◌, Some, None, true, false, inl, inr, ap, sym, subst, ◌∙◌}
use Rattle.std.specs.Option.{is_some}
use Rattle.std.proofs.lemmas.Result.{on_ok_weaker}
use Rattle.iam_layers.specs.Cell.{IsCell, IsVerdictAt}
use Rattle.iam_world.specs.World.{WorldValue, world_cells}
use Rattle.iam_row.specs.Report.{CellTexts, IsCellTexts}
use Rattle.iam_selection.specs.Code.Listing.{PickerValue}
use Rattle.iam_selection.specs.Selection.{IsSelected}
use Rattle.iam_changes.specs.Change.{SaidValue}
use Rattle.iam_changes.specs.Requests.{Has}
use Rattle.iam_compare.specs.Code.Walk.{AddsSaid, asked_of}
use Rattle.iam_compare.proofs.Walks.{adds_said, applied_at, gathers_nothing, gathers_said, has_of_found, lone_before, none_of_found, number_within, off_before, place_before, says_at, within_cell}
use Rattle.iam_compare.proofs.walk.visit_before.Goals as goal

pub asks-requires : goal.asks-requires
asks-requires c =
    let at = c.args.at in
    let C : PickerValue → Type 0 = λ v. IsCell v.world at.cell at.principal at.action at.resource in
    subst C (sym c.requires.crew.picker_before) c.requires.cell

pub returns-then-not-asks-clause-rows : goal.returns-then-not-asks-clause-rows
returns-then-not-asks-clause-rows c =
    let crew = c.args.crew.now in
    let asked = asked_of crew in
    let requests = crew.requests.now in
    let at = c.args.at in
    let S : PickerValue → Type 0 = λ v. IsSelected v.selection v.world at.cell in
    let off = c.if-not-asks.true in
    let not : ¬ IsSelected asked.selection requests.before at.cell = λ selected.
    let on = c.asks.ensures.1 (subst S (sym c.requires.crew.picker_before) selected) in
    let wrong : ⊥ = cc in wrong in
    gathers_nothing asked requests crew.asked.brief (world_cells requests.after + at.cell) c.args.rows.now
    (off_before asked requests at.cell at.principal at.action at.resource c.requires.cell (λ texts of. inr (inl (λ selects. not (texts, of, selects))))) c.requires.rows

pub find-requires : goal.find-requires
find-requires c =
    let at = c.args.at in
    let C : WorldValue → Type 0 = λ w. IsCell w at.cell at.principal at.action at.resource in
    subst C (sym c.to_after.ensures.world) c.requires.cell

pub returns-then-is_some-clause-rows : goal.returns-then-is_some-clause-rows
returns-then-is_some-clause-rows c =
    let crew = c.args.crew.now in
    let asked = asked_of crew in
    let requests = crew.requests.now in
    let at = c.args.at in
    let T : CellTexts → WorldValue → Type 0 = λ texts w. IsCellTexts w at.cell texts in
    let H : CellTexts → WorldValue → Type 0 = λ texts w. Has w texts in
    gathers_nothing asked requests crew.asked.brief (world_cells requests.after + at.cell) c.args.rows.now
    (off_before asked requests at.cell at.principal at.action at.resource c.requires.cell
    (λ texts of. inl (subst (H texts) c.to_after.ensures.other
    (has_of_found c.to_after.result.now.other texts c.find.result (c.find.ensures texts (subst (T texts) (sym c.to_after.ensures.world) of))
    (let on : is_some c.find.result ≡ true = cc in on)))))
    c.requires.rows

pub find-requires-2 : goal.find-requires-2
find-requires-2 c =
    let crew = c.args.crew.now in
    let at = c.args.at in
    let within = within_cell crew.requests.now.before c.args.before.now.world at.cell at.principal at.action at.resource
    (c.requires.tools ∙ c.requires.crew.survey_before) c.requires.cell in
    record { principal = within.principal; action = within.action; resource = within.resource }

pub verdict-requires : goal.verdict-requires
verdict-requires c =
    let at = c.args.at in
    number_within c.find-2.new.self at.principal at.action at.resource c.in_ok-number.number c.in_ok-number.ensures.number

pub returns-clause-rows : goal.returns-clause-rows
returns-clause-rows c =
    let crew = c.args.crew.now in
    let asked = asked_of crew in
    let requests = crew.requests.now in
    let at = c.args.at in
    let verdict = c.verdict.result.now in
    let old = c.args.rows.now in
    let new = c.add_said.new.rows in
    let S : PickerValue → Type 0 = λ v. IsSelected v.selection v.world at.cell in
    let (texts, of, selects) = subst S c.requires.crew.picker_before (c.asks.ensures.0 c.if-not-asks.false) in
    let T : WorldValue → Type 0 = λ w. IsCellTexts w at.cell texts in
    let H : WorldValue → Type 0 = λ w. ¬ Has w texts in
    let absent : ¬ Has requests.after texts = subst H c.to_after.ensures.other
    (none_of_found c.to_after.result.now.other texts c.find.result (c.find.ensures texts (subst T (sym c.to_after.ensures.world) of))
    (let off : is_some c.find.result ≡ false = cc in off)) in
    let V : WorldValue → Type 0 = λ w. IsVerdictAt w at.principal at.action at.resource verdict in
    let told = subst V (c.in_ok-number.ensures.same.0 ∙ c.requires.tools ∙ c.requires.crew.survey_before)
    (c.verdict.ensures at.principal at.action at.resource c.in_ok-number.ensures.number) in
    let cell = ap (λ n. n + at.cell) (c.cells.ensures.value ∙ ap (λ (w : WorldValue). world_cells w) c.after.ensures) in
    let (policies, applies) = applied_at requests.before at.cell at.principal at.action at.resource c.requires.cell in
    let said : SaidValue = record { verdict = verdict; policies = policies } in
    on_ok_weaker c.add_said.result
    (λ added. gathers_said asked requests crew.asked.brief (world_cells requests.after + at.cell) texts (Some said) None old new
    (place_before asked requests at.cell texts of absent) selects
    (says_at requests.before at.cell at.principal at.action at.resource texts said c.requires.cell of told applies) absent
    (subst (λ k. AddsSaid asked.all crew.asked.brief k (Some said) None old new) cell
    (adds_said asked.all crew.asked.brief _ (Some said) None false old new (lone_before asked.all said) added)) c.requires.rows)
    c.add_said.ensures
