use Rattle.std.proofs.Common.{ℕ, ◌+◌, ◌-◌, ◌≤◌, length, sym, ◌∙◌, subst, arith}
use Rattle.iam_world.specs.World.{WorldValue, world_cells}
use Rattle.iam_matrix.specs.Code.Tiles.{Adds, AreEntries, IsOf}
use Rattle.iam_matrix.proofs.RowLemmas.{row_entries}
use Rattle.iam_matrix.proofs.rows.say_all.Goals as goal

pub loop-at-preserved : goal.loop-at-preserved
loop-at-preserved g c =
    let Is = g.S.Said.is in
    let world = c.world-world.result.now in
    let from = c.args.tile.from in
    let at = c.loop-at.at in
    let count = c.in_ok-count.count in
    let old = g.S.Said.list c.loop-at.said in
    let new = g.S.Said.list c.say.new.self in
    let so_far = c.loop-at.invariant in
    let said = c.in_ok-count.ensures in
    let behind = c.along-at.ensures in
    let F : WorldValue → Type 0 = λ w. from + c.args.tile.count ≤ world_cells w in
    let few = subst F (sym c.world-world.ensures) c.requires.tile in
    let here = so_far.there (omega (arith, c.loop-at-test.true, c.end_of-end.ensures.value, few)) in
    let A : WorldValue → Type 0 = λ w. Adds (Is w at.principal at.action) at.resource count old new in
    let adds = subst A so_far.same said.said in
    let row : at.resource + count ≤ length world.resources = omega (arith, c.left_in_row-most.ensures.resources, said.most) in
    let R : ℕ → Type 0 = λ n. AreEntries (IsOf Is world) from (n - from) new in record {
      least = omega (arith, so_far.least, behind.cell);
      most = omega (arith, behind.cell, said.most, c.left_in_row-most.ensures.cells);
      there = λ below. behind.is (omega (arith, below, behind.cell));
      same = said.same.0 ∙ so_far.same;
      mark = said.same.1 ∙ so_far.mark;
      so_far = subst R (sym behind.cell) (row_entries Is world at count from old new here row so_far.least so_far.so_far adds);
      fits = said.fits;
    }
