use Rattle.std.proofs.Common.{◌≡◌, ◌+◌, ◌-◌, length, ap, subst, ◌∙◌, arith}
use Rattle.std.proofs.lemmas.Result.{IfOk-weaker}
use Rattle.iam_world.specs.World.{WorldValue, world_cells}
use Rattle.iam_changes.specs.Code.Kept.{GatheredValue}
use Rattle.iam_compare.specs.Code.Walk.{Gathers, asked_of}
use Rattle.iam_compare.proofs.Pair.{first_used}
use Rattle.iam_compare.proofs.Walks.{few_rows, gathers_join, part_gathered}
use Rattle.iam_compare.proofs.walk.part_of.Goals as goal

pub returns-then-to-first-clause-part : goal.returns-then-to-first-clause-part
returns-then-to-first-clause-part c =
    let crew = c.args.crew.now in
    IfOk-weaker c.part.result _ _
    (λ part is. part_gathered (asked_of crew) crew.requests.now crew.asked.format crew.asked.brief c.args.from c.args.to c.in_ok-rows.rows c.walk_after.new.rows part
    c.in_ok-rows.ensures c.in_ok-walk_after.ensures.rows is)
    c.part.ensures

pub returns-then-from-first-clause-part : goal.returns-then-from-first-clause-part
returns-then-from-first-clause-part c =
    let crew = c.args.crew.now in
    let asked = asked_of crew in
    let requests = crew.requests.now in
    let from = c.args.from in
    let to = c.args.to in
    let n = c.cells-first.result in
    let first = world_cells requests.after in
    let same : n ≡ first = c.cells-first.ensures.value ∙ ap (λ (w : WorldValue). world_cells w) c.after.ensures in
    let past = c.if-from-first.true in
    let up = c.requires.order in
    let here : first + (from - n) ≡ from = omega (arith, same, past) in
    let there : first + (to - n) ≡ to = omega (arith, same, past, up) in
    let old = c.in_ok-rows.rows in
    let new = c.walk_before.new.rows in
    let gathers = subst (λ k. Gathers asked requests crew.asked.brief from k old new) there
    (subst (λ k. Gathers asked requests crew.asked.brief k (first + (to - n)) old new) here c.in_ok-walk_before.ensures.rows) in
    IfOk-weaker c.part-then-from-first.result _ _
    (λ part is. part_gathered asked requests crew.asked.format crew.asked.brief from to old new part c.in_ok-rows.ensures gathers is)
    c.part-then-from-first.ensures

pub walk_before-requires-2-clause-few : goal.walk_before-requires-2-clause-few
walk_before-requires-2-clause-few c =
    let crew = c.args.crew.now in
    let requests = crew.requests.now in
    let n = c.cells-first.result in
    let first = world_cells requests.after in
    let same : n ≡ first = c.cells-first.ensures.value ∙ ap (λ (w : WorldValue). world_cells w) c.after.ensures in
    let none = ap (λ (g : GatheredValue). length g.rows) c.in_ok-rows.ensures in
    let few = few_rows (asked_of crew) requests crew.asked.brief c.args.from n c.in_ok-rows.rows c.walk_after-2.new.rows c.in_ok-walk_after-2.ensures.rows
    (omega (arith, none)) in
    omega (arith, few, same)

pub returns-clause-part : goal.returns-clause-part
returns-clause-part c =
    let crew = c.args.crew.now in
    let asked = asked_of crew in
    let requests = crew.requests.now in
    let from = c.args.from in
    let to = c.args.to in
    let n = c.cells-first.result in
    let first = world_cells requests.after in
    let same : n ≡ first = c.cells-first.ensures.value ∙ ap (λ (w : WorldValue). world_cells w) c.after.ensures in
    let more = c.if-to-first.false in
    let here : first + 0 ≡ n = omega (arith, same) in
    let there : first + (to - n) ≡ to = omega (arith, same, more) in
    let old = c.in_ok-rows.rows in
    let mid = c.walk_after-2.new.rows in
    let new = c.walk_before-2.new.rows in
    let last = subst (λ k. Gathers asked requests crew.asked.brief n k mid new) there
    (subst (λ k. Gathers asked requests crew.asked.brief k (first + (to - n)) mid new) here c.in_ok-walk_before-2.ensures.rows) in
    let gathers = gathers_join asked requests crew.asked.brief from n to old mid new c.in_ok-walk_after-2.ensures.rows last in
    IfOk-weaker c.part-2.result _ _
    (λ part is. part_gathered asked requests crew.asked.format crew.asked.brief from to old new part c.in_ok-rows.ensures gathers is)
    c.part-2.ensures

pub returns-clause-tools : goal.returns-clause-tools
returns-clause-tools c = first_used c.args.crew.now c.walk_after-2.new.engines.items c.walk_before-2.new.before c.walk_after-2.ensures.tools c.walk_before-2.ensures.tools
