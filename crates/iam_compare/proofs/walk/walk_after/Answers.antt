use Rattle.std.proofs.Common.{◌≡◌, ◌+◌, ◌-◌, ℕ, sym, ap, subst, ◌∙◌, arith}
use Rattle.iam_layers.specs.Cell.{IsCell}
use Rattle.iam_world.specs.World.{WorldValue, world_cells}
use Rattle.iam_selection.specs.Selection.{IsSelected}
use Rattle.iam_compare.specs.Code.Walk.{Gathers, asked_of}
use Rattle.iam_compare.proofs.Walks.{few_rows, gathers_join, gathers_none, gathers_up, off_after}
use Rattle.iam_compare.proofs.walk.walk_after.Goals as goal

pub loop-at-init : goal.loop-at-init
loop-at-init c =
    let crew = c.args.crew.now in
    let asked = asked_of crew in
    let requests = crew.requests.now in
    let rows = c.args.rows.now in
    record {
      least = omega (arith, c.of-at.ensures.cell);
      most = omega (arith, c.of-at.ensures.cell, c.requires.order);
      there = λ below. c.of-at.ensures.is (omega (arith, below, c.of-at.ensures.cell));
      tools = c.requires.tools;
      rows = subst (λ k. Gathers asked requests crew.asked.brief c.args.from k rows rows) (sym c.of-at.ensures.cell)
          (gathers_none asked requests crew.asked.brief c.args.from rows c.requires.rows);
    }

pub asks_row-requires : goal.asks_row-requires
asks_row-requires c =
    let at = c.loop-at.at in
    let C : WorldValue → Type 0 = λ w. IsCell w at.cell at.principal at.action at.resource in
    let cells = ap (λ (w : WorldValue). world_cells w) c.after-world.ensures in
    subst C (c.after-world.ensures ∙ sym c.requires.crew.picker_after)
    (c.loop-at.invariant.there (omega (arith, c.loop-at-test.true, c.requires.end, cells)))

pub loop-at-preserved-then-not-asks_row : goal.loop-at-preserved-then-not-asks_row
loop-at-preserved-then-not-asks_row c =
    let crew = c.args.crew.now in
    let asked = asked_of crew in
    let requests = crew.requests.now in
    let so_far = c.loop-at.invariant in
    let at = c.loop-at.at in
    let past = c.past_row-at.ensures in
    let next = c.past_row-at.result.cell in
    let Row : WorldValue → Type 0 = λ w. (cell r : ℕ) → IsCell w cell at.principal at.action r → ¬ IsSelected asked.selection w cell in
    let off = subst Row c.requires.crew.picker_after (c.asks_row.ensures c.if-not-asks_row.true) in
    let end = so_far.rows.end_is in
    record {
      least = omega (arith, so_far.least, past.more);
      most = past.most;
      there = past.is;
      tools = so_far.tools;
      rows =
          gathers_join asked requests crew.asked.brief c.args.from at.cell next c.args.rows.now c.loop-at.rows c.loop-at.rows so_far.rows
          (gathers_up asked requests crew.asked.brief at.cell next c.loop-at.rows (omega (arith, past.more)) end
          (λ cell above below.
          let r = at.resource + (cell - at.cell) in
          let Cell : WorldValue → Type 0 = λ w. IsCell w cell at.principal at.action r in
          let is = subst Cell c.after-world.ensures (past.same cell above below) in
          off_after asked requests cell at.principal at.action r is (off cell r is)));
    }

pub visit_after-requires-clause-cell : goal.visit_after-requires-clause-cell
visit_after-requires-clause-cell c =
    let at = c.loop-at.at in
    let C : WorldValue → Type 0 = λ w. IsCell w at.cell at.principal at.action at.resource in
    let cells = ap (λ (w : WorldValue). world_cells w) c.after-world.ensures in
    subst C c.after-world.ensures (c.loop-at.invariant.there (omega (arith, c.loop-at-test.true, c.requires.end, cells)))

pub visit_after-requires-clause-few : goal.visit_after-requires-clause-few
visit_after-requires-clause-few c =
    let crew = c.args.crew.now in
    few_rows (asked_of crew) crew.requests.now crew.asked.brief c.args.from c.loop-at.at.cell c.args.rows.now c.loop-at.rows c.loop-at.invariant.rows c.requires.few

pub loop-at-preserved : goal.loop-at-preserved
loop-at-preserved c =
    let crew = c.args.crew.now in
    let asked = asked_of crew in
    let requests = crew.requests.now in
    let so_far = c.loop-at.invariant in
    let at = c.loop-at.at in
    let next = c.next_in-at.ensures in
    let new = c.visit_after.new.rows in
    record {
      least = omega (arith, so_far.least, next.cell);
      most = omega (arith, next.cell, c.loop-at-test.true);
      there = λ below. next.is (omega (arith, below, next.cell));
      tools = c.in_ok-visit_after.ensures.tools;
      rows =
          gathers_join asked requests crew.asked.brief c.args.from at.cell c.next_in-at.result.cell c.args.rows.now c.loop-at.rows new so_far.rows
          (subst (λ k. Gathers asked requests crew.asked.brief at.cell k c.loop-at.rows new) (sym next.cell) c.in_ok-visit_after.ensures.rows);
    }

pub returns-clause-rows : goal.returns-clause-rows
returns-clause-rows c =
    let crew = c.args.crew.now in
    let so_far = c.loop-at.invariant in
    let same : c.loop-at.at.cell ≡ c.args.end = omega (arith, so_far.most, c.loop-at-test.false) in
    subst (λ k. Gathers (asked_of crew) crew.requests.now crew.asked.brief c.args.from k c.args.rows.now c.loop-at.rows) same so_far.rows
