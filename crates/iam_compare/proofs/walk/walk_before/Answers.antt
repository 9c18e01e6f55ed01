use Rattle.std.proofs.Common.{◌≡◌, ◌+◌, ◌-◌, inl, sym, ap, subst, arith}
use Rattle.iam_layers.specs.Cell.{IsCell}
use Rattle.iam_world.specs.World.{WorldValue, world_cells}
use Rattle.iam_row.specs.Report.{CellTexts, IsCellTexts}
use Rattle.iam_changes.specs.Requests.{Has}
use Rattle.iam_compare.specs.Code.Walk.{Gathers, asked_of}
use Rattle.iam_compare.proofs.Walks.{few_rows, gathers_behind, gathers_join, gathers_none, off_before}
use Rattle.iam_compare.proofs.walk.walk_before.Goals as goal

pub returns-then-finds_all-clause-rows : goal.returns-then-finds_all-clause-rows
returns-then-finds_all-clause-rows c =
    let crew = c.args.crew.now in
    let asked = asked_of crew in
    let requests = crew.requests.now in
    let H : CellTexts → WorldValue → Type 0 = λ texts w. Has w texts in
    gathers_behind asked requests crew.asked.brief c.args.from c.args.end c.args.rows.now c.requires.order c.requires.rows
    (λ cell above below.
    let (p, a, r, is) = c.one_triple.ensures.some requests.before cell (omega (arith, below, c.requires.end)) in
    off_before asked requests cell p a r is
    (λ texts of. inl (subst (H texts) c.to_after.ensures.other
    (c.finds_all.ensures c.if-finds_all.true cell texts (subst (λ (w : WorldValue). IsCellTexts w cell texts) (sym c.to_after.ensures.world) of)))))

pub loop-at-init : goal.loop-at-init
loop-at-init c =
    let crew = c.args.crew.now in
    let asked = asked_of crew in
    let requests = crew.requests.now in
    let rows = c.args.rows.now in
    let first = world_cells requests.after in
    record {
      least = omega (arith, c.of-at.ensures.cell);
      most = omega (arith, c.of-at.ensures.cell, c.requires.order);
      there = λ below. c.of-at.ensures.is (omega (arith, below, c.of-at.ensures.cell));
      tools = c.requires.tools;
      rows = subst (λ k. Gathers asked requests crew.asked.brief (first + c.args.from) (first + k) rows rows) (sym c.of-at.ensures.cell)
          (gathers_none asked requests crew.asked.brief (first + c.args.from) rows c.requires.rows);
    }

pub skips_row-requires-clause-cell : goal.skips_row-requires-clause-cell
skips_row-requires-clause-cell c =
    let at = c.loop-at.at in
    let C : WorldValue → Type 0 = λ w. IsCell w at.cell at.principal at.action at.resource in
    let cells = ap (λ (w : WorldValue). world_cells w) c.before-world.ensures in
    subst C c.before-world.ensures (c.loop-at.invariant.there (omega (arith, c.loop-at-test.true, c.requires.end, cells)))

pub loop-at-preserved-then-skips_row : goal.loop-at-preserved-then-skips_row
loop-at-preserved-then-skips_row c =
    let crew = c.args.crew.now in
    let asked = asked_of crew in
    let requests = crew.requests.now in
    let first = world_cells requests.after in
    let so_far = c.loop-at.invariant in
    let at = c.loop-at.at in
    let past = c.past_row-at.ensures in
    let next = c.past_row-at.result.cell in
    let end = so_far.rows.end_is in
    record {
      least = omega (arith, so_far.least, past.more);
      most = past.most;
      there = past.is;
      tools = so_far.tools;
      rows =
          gathers_join asked requests crew.asked.brief (first + c.args.from) (first + at.cell) (first + next) c.args.rows.now c.loop-at.rows c.loop-at.rows so_far.rows
          (gathers_behind asked requests crew.asked.brief at.cell next c.loop-at.rows (omega (arith, past.more)) end
          (λ cell above below.
          let r = at.resource + (cell - at.cell) in
          let Cell : WorldValue → Type 0 = λ w. IsCell w cell at.principal at.action r in
          let is = subst Cell c.before-world.ensures (past.same cell above below) in
          off_before asked requests cell at.principal at.action r is (λ texts of. c.skips_row.ensures c.if-skips_row.true cell r texts is of)));
    }

pub visit_before-requires-clause-cell : goal.visit_before-requires-clause-cell
visit_before-requires-clause-cell c =
    let at = c.loop-at.at in
    let C : WorldValue → Type 0 = λ w. IsCell w at.cell at.principal at.action at.resource in
    let cells = ap (λ (w : WorldValue). world_cells w) c.before-world.ensures in
    subst C c.before-world.ensures (c.loop-at.invariant.there (omega (arith, c.loop-at-test.true, c.requires.end, cells)))

pub visit_before-requires-clause-few : goal.visit_before-requires-clause-few
visit_before-requires-clause-few c =
    let crew = c.args.crew.now in
    let first = world_cells crew.requests.now.after in
    few_rows (asked_of crew) crew.requests.now crew.asked.brief (first + c.args.from) (first + c.loop-at.at.cell) c.args.rows.now c.loop-at.rows c.loop-at.invariant.rows c.requires.few

pub loop-at-preserved : goal.loop-at-preserved
loop-at-preserved c =
    let crew = c.args.crew.now in
    let asked = asked_of crew in
    let requests = crew.requests.now in
    let first = world_cells requests.after in
    let so_far = c.loop-at.invariant in
    let at = c.loop-at.at in
    let next = c.next_in-at.ensures in
    let new = c.visit_before.new.rows in
    let behind : first + at.cell + 1 ≡ first + c.next_in-at.result.cell = omega (arith, next.cell) in
    record {
      least = omega (arith, so_far.least, next.cell);
      most = omega (arith, next.cell, c.loop-at-test.true);
      there = λ below. next.is (omega (arith, below, next.cell));
      tools = c.in_ok-visit_before.ensures.tools;
      rows =
          gathers_join asked requests crew.asked.brief (first + c.args.from) (first + at.cell) (first + c.next_in-at.result.cell) c.args.rows.now c.loop-at.rows new so_far.rows
          (subst (λ k. Gathers asked requests crew.asked.brief (first + at.cell) k c.loop-at.rows new) behind c.in_ok-visit_before.ensures.rows);
    }

pub returns-clause-rows : goal.returns-clause-rows
returns-clause-rows c =
    let crew = c.args.crew.now in
    let first = world_cells crew.requests.now.after in
    let so_far = c.loop-at.invariant in
    let same : c.loop-at.at.cell ≡ c.args.end = omega (arith, so_far.most, c.loop-at-test.false) in
    subst (λ k. Gathers (asked_of crew) crew.requests.now crew.asked.brief (first + c.args.from) (first + k) c.args.rows.now c.loop-at.rows) same so_far.rows
