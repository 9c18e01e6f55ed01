use Rattle.std.proofs.Common.{◌≡◌, Some, None, false, refl, ap, sym, subst, ◌∙◌}
use Rattle.std.proofs.lemmas.Result.{on_ok_weaker}
use Rattle.iam_matrix.specs.Engine.{EngineValue, IsNumberAt}
use Rattle.iam_layers.specs.Cell.{IsCell, IsVerdictAt}
use Rattle.iam_world.specs.World.{WorldValue}
use Rattle.iam_row.specs.Report.{HasTexts, IsCellTexts}
use Rattle.iam_selection.specs.Selection.{IsSelected}
use Rattle.iam_changes.specs.Change.{SaidValue}
use Rattle.iam_changes.specs.Requests.{Has}
use Rattle.iam_compare.specs.Code.Walk.{asked_of}
use Rattle.iam_compare.proofs.Pair.{both_used, first_engine, read_first_of, read_second, read_second_of, second_engine}
use Rattle.iam_compare.proofs.Walks.{adds_said, applied, applied_at, both_differ, found_within, gathers_nothing, gathers_said, lone_after, number_within, off_after, place_after, says_at, says_found}
use Rattle.iam_compare.proofs.walk.visit_after.Goals as goal

pub asks-requires : goal.asks-requires
asks-requires c =
    let at = c.args.at in
    let C : WorldValue → Type 0 = λ w. IsCell w at.cell at.principal at.action at.resource in
    subst C (sym c.requires.crew.picker_after) c.requires.cell

pub returns-then-not-asks-clause-rows : goal.returns-then-not-asks-clause-rows
returns-then-not-asks-clause-rows c =
    let crew = c.args.crew.now in
    let asked = asked_of crew in
    let requests = crew.requests.now in
    let at = c.args.at in
    let S : WorldValue → Type 0 = λ w. IsSelected asked.selection w at.cell in
    let off = c.if-not-asks.true in
    let not : ¬ IsSelected asked.selection requests.after at.cell = λ selected.
    let on = c.asks.ensures.1 (subst S (sym c.requires.crew.picker_after) selected) in
    let wrong : ⊥ = cc in wrong in
    gathers_nothing asked requests crew.asked.brief at.cell c.args.rows.now
    (off_after asked requests at.cell at.principal at.action at.resource c.requires.cell not) c.requires.rows

pub returns-in_default-clause-rows : goal.returns-in_default-clause-rows
returns-in_default-clause-rows c =
    let crew = c.args.crew.now in
    let asked = asked_of crew in
    let engines = c.args.engines.now.items in
    let requests = crew.requests.now in
    let at = c.args.at in
    let verdict = c.verdict.result.now in
    let used = c.find.new.self in
    let read : c.index.result.now ≡ used = read_second crew engines used c.index.result.now c.requires.tools c.index.ensures in
    let V : WorldValue → Type 0 = λ w. IsVerdictAt w at.principal at.action at.resource verdict in
    let N : EngineValue → Type 0 = λ e. IsNumberAt e at.principal at.action at.resource c.in_ok-number.number in
    let S : WorldValue → Type 0 = λ w. IsSelected asked.selection w at.cell in
    let (texts, of, selects) = subst S c.requires.crew.picker_after (c.asks.ensures.0 c.if-not-asks.false) in
    let T : WorldValue → Type 0 = λ w. IsCellTexts w at.cell texts in
    let H : WorldValue → Type 0 = λ w. ¬ Has w texts in
    let world = second_engine crew engines c.index_mut.result.now c.requires.tools c.index_mut.ensures.value in
    let told = subst V (ap (λ (e : EngineValue). e.world) read ∙ c.in_ok-number.ensures.same.0 ∙ world ∙ c.requires.crew.survey_after)
    (c.verdict.ensures at.principal at.action at.resource (subst N (sym read) c.in_ok-number.ensures.number)) in
    let (policies, applies) = applied_at requests.after at.cell at.principal at.action at.resource c.requires.cell in
    let says : SaidValue = record { verdict = verdict; policies = policies } in
    on_ok_weaker c.add_said.result
    (λ added. gathers_said asked requests crew.asked.brief at.cell texts None (Some says) c.args.rows.now c.add_said.new.rows
    (place_after asked requests at.cell texts of) selects
    (subst H c.to_before.ensures.other (c.in_default.ensures texts (subst T (sym c.to_before.ensures.world) of)))
    (says_at requests.after at.cell at.principal at.action at.resource texts says c.requires.cell of told applies)
    (adds_said asked.all crew.asked.brief at.cell None (Some says) false c.args.rows.now c.add_said.new.rows (lone_after asked.all says) added) c.requires.rows)
    c.add_said.ensures

pub find-requires-3 : goal.find-requires-3
find-requires-3 c =
    let crew = c.args.crew.now in
    let requests = crew.requests.now in
    let at = c.args.at in
    let finder = c.to_before.result.now in
    let engine = c.index_mut-2.result.now in
    let world = first_engine crew c.args.engines.now.items c.find.new.self engine c.requires.tools c.index_mut-2.ensures.value in
    let within = found_within requests.after requests.before finder.world finder.other engine.world at.cell at.principal at.action at.resource c.in-Some.p c.in-Some.a c.in-Some.r
    c.to_before.ensures.world c.to_before.ensures.other (world ∙ c.requires.crew.survey_before) c.requires.cell (λ texts of. c.in-Some.ensures texts of) in
    record { principal = within.principal; action = within.action; resource = within.resource }

pub returns-in_err-other-clause-tools : goal.returns-in_err-other-clause-tools
returns-in_err-other-clause-tools c =
    let crew = c.args.crew.now in
    let engines = c.args.engines.now.items in
    let last = second_engine crew engines c.index_mut.result.now c.requires.tools c.index_mut.ensures.value in
    let first = first_engine crew engines c.find.new.self c.index_mut-2.result.now c.requires.tools c.index_mut-2.ensures.value in
    both_used crew engines c.find.new.self c.find-3.new.self c.requires.tools (c.find.ensures.same.0 ∙ last) (c.find-3.ensures.same.0 ∙ first)

pub verdict-said-requires : goal.verdict-said-requires
verdict-said-requires c =
    let engine = c.index-2.result.now in
    let read = read_first_of c.args.crew.now c.args.engines.now.items c.find.new.self c.find-3.new.self engine c.requires.tools c.index-2.ensures in
    let N : EngineValue → Type 0 = λ e. IsNumberAt e c.in-Some.p c.in-Some.a c.in-Some.r c.in_ok-other.other in
    number_within engine c.in-Some.p c.in-Some.a c.in-Some.r c.in_ok-other.other (subst N (sym read) c.in_ok-other.ensures.number)

pub verdict-says-requires : goal.verdict-says-requires
verdict-says-requires c =
    let at = c.args.at in
    let engine = c.index-3.result.now in
    let read = read_second_of c.args.crew.now c.args.engines.now.items c.find.new.self c.find-3.new.self engine c.requires.tools c.index-3.ensures in
    let N : EngineValue → Type 0 = λ e. IsNumberAt e at.principal at.action at.resource c.in_ok-number.number in
    number_within engine at.principal at.action at.resource c.in_ok-number.number (subst N (sym read) c.in_ok-number.ensures.number)

pub returns-clause-rows : goal.returns-clause-rows
returns-clause-rows c =
    let crew = c.args.crew.now in
    let asked = asked_of crew in
    let engines = c.args.engines.now.items in
    let requests = crew.requests.now in
    let at = c.args.at in
    let p = c.in-Some.p in
    let a = c.in-Some.a in
    let r = c.in-Some.r in
    let before = c.verdict-said.result.now in
    let after = c.verdict-says.result.now in
    let used = c.find.new.self in
    let other = c.find-3.new.self in
    let read : c.index-2.result.now ≡ other = read_first_of crew engines used other c.index-2.result.now c.requires.tools c.index-2.ensures in
    let reads : c.index-3.result.now ≡ used = read_second_of crew engines used other c.index-3.result.now c.requires.tools c.index-3.ensures in
    let first = first_engine crew engines used c.index_mut-2.result.now c.requires.tools c.index_mut-2.ensures.value in
    let last = second_engine crew engines c.index_mut.result.now c.requires.tools c.index_mut.ensures.value in
    let B : WorldValue → Type 0 = λ w. IsVerdictAt w p a r before in
    let A : WorldValue → Type 0 = λ w. IsVerdictAt w at.principal at.action at.resource after in
    let M : EngineValue → Type 0 = λ e. IsNumberAt e p a r c.in_ok-other.other in
    let N : EngineValue → Type 0 = λ e. IsNumberAt e at.principal at.action at.resource c.in_ok-number.number in
    let S : WorldValue → Type 0 = λ w. IsSelected asked.selection w at.cell in
    let (texts, of, selects) = subst S c.requires.crew.picker_after (c.asks.ensures.0 c.if-not-asks.false) in
    let T : WorldValue → Type 0 = λ w. IsCellTexts w at.cell texts in
    let H : WorldValue → Type 0 = λ w. HasTexts w p a r texts in
    let said = subst B (ap (λ (e : EngineValue). e.world) read ∙ c.in_ok-other.ensures.same.0 ∙ first ∙ c.requires.crew.survey_before)
    (c.verdict-said.ensures p a r (subst M (sym read) c.in_ok-other.ensures.number)) in
    let told = subst A (ap (λ (e : EngineValue). e.world) reads ∙ c.in_ok-number.ensures.same.0 ∙ last ∙ c.requires.crew.survey_after)
    (c.verdict-says.ensures at.principal at.action at.resource (subst N (sym reads) c.in_ok-number.ensures.number)) in
    let has = subst H c.to_before.ensures.other (c.in-Some.ensures texts (subst T (sym c.to_before.ensures.world) of)) in
    let (one, applies) = applied requests.before p a r texts has in
    let (two, applies_after) = applied_at requests.after at.cell at.principal at.action at.resource c.requires.cell in
    let was : SaidValue = record { verdict = before; policies = one } in
    let is : SaidValue = record { verdict = after; policies = two } in
    let tells = both_differ asked.all c.differ_at-differs.result was is (c.differ_at-differs.ensures one two applies applies_after) in
    on_ok_weaker c.add_said-2.result
    (λ added. gathers_said asked requests crew.asked.brief at.cell texts (Some was) (Some is) c.args.rows.now c.add_said-2.new.rows
    (place_after asked requests at.cell texts of) selects
    (says_found requests.before p a r texts was has said applies)
    (says_at requests.after at.cell at.principal at.action at.resource texts is c.requires.cell of told applies_after)
    (adds_said asked.all crew.asked.brief at.cell (Some was) (Some is) c.differ_at-differs.result c.args.rows.now c.add_said-2.new.rows tells added) c.requires.rows)
    c.add_said-2.ensures

pub differ_at-differs-requires : goal.differ_at-differs-requires
differ_at-differs-requires c =
    let crew = c.args.crew.now in
    let requests = crew.requests.now in
    let at = c.args.at in
    let finder = c.to_before.result.now in
    let within = found_within requests.after requests.before finder.world finder.other requests.before at.cell at.principal at.action at.resource c.in-Some.p c.in-Some.a c.in-Some.r
    c.to_before.ensures.world c.to_before.ensures.other refl c.requires.cell (λ texts of. c.in-Some.ensures texts of) in
    record { cell = c.requires.cell; principal = within.principal; resource = within.resource }
