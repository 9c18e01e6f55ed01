use Rattle.std.proofs.Common.{◌≡◌, ◌+◌, ◌-◌, ℕ, List, Global, Vec, length, sym, ap, subst, ◌∙◌, arith}
use Rattle.std.specs.List.{AllZip}
use Rattle.std.proofs.lemmas.List.{length-map}
use Rattle.iam_matrix.specs.Engine.{EngineValue}
use Rattle.iam_decision.specs.declared.verdict.Verdict.{Verdict}
use Rattle.iam_layers.specs.Cell.{IsCell}
use Rattle.iam_row.specs.Piece.{tail_of}
use Rattle.iam_row.specs.declared.tail.Tail.{Tail}
use Rattle.iam_world.specs.World.{WorldValue}
use Rattle.iam_selection.specs.Report.{AreAsked}
use Rattle.iam_selection.specs.Selection.{IsAsked, IsPassed, IsSelected, SelectionValue}
use Rattle.iam_selection.specs.Code.Listing.{Adds, AreFound, IsEntryOf, RowValue}
use Rattle.iam_selection.proofs.Founds.{found_rows, zip_count}
use Rattle.iam_selection.proofs.Picks.{picked_count}
use Rattle.iam_selection.proofs.Walks.{walk_on, walk_past}
use Rattle.iam_selection.proofs.rows.found_in.Goals as goal
use Rattle.iam_selection.proofs.rows.found_in.Goals.{then-asks+in_ok-add, else-asks}

pub loop-at-preserved-then-not-asks_row : goal.loop-at-preserved-then-not-asks_row
loop-at-preserved-then-not-asks_row c =
    let world = c.args.engine.now.world in
    let selection = c.args.picker.now.selection in
    let so_far = c.loop-at.invariant in
    let at = c.loop-at.at in
    let past = c.past_row-at.ensures in
    let Row : WorldValue → Type 0 = λ w. (cell r : ℕ) → IsCell w cell at.principal at.action r → ¬ IsSelected selection w cell in
    let off = subst Row c.requires.world (c.asks_row.ensures c.if-not-asks_row.true) in
    record {
      least = omega (arith, so_far.least, past.more);
      most = past.most;
      there = past.is;
      same = so_far.same;
      picked =
          walk_past selection world c.args.tile.from at.cell c.past_row-at.result.cell c.loop-at.cells.items so_far.least (omega (arith, past.more)) so_far.picked
          (λ cell above below. let Cell : WorldValue → Type 0 = λ w. IsCell w cell at.principal at.action (at.resource + (cell - at.cell)) in
          off cell (at.resource + (cell - at.cell)) (subst Cell c.world-world.ensures (past.same cell above below)));
      entries = so_far.entries;
    }

pub add-requires-clause-entries : goal.add-requires-clause-entries
add-requires-clause-entries c =
    let world = c.args.engine.now.world in
    let selection = c.args.picker.now.selection in
    let so_far = c.loop-at.invariant in
    let few = picked_count (IsAsked selection world) (IsPassed selection world) c.args.tile.from (c.loop-at.at.cell - c.args.tile.from) c.loop-at.cells.items so_far.picked in
    let count = zip_count (IsEntryOf c.args.brief world) c.loop-at.cells.items c.loop-at.entries so_far.entries in
    omega (arith, few, count, c.loop-at-test.true, c.end_of-end.ensures.few)

pub loop-at-preserved : goal.loop-at-preserved
loop-at-preserved c =
    let world = c.args.engine.now.world in
    let selection = c.args.picker.now.selection in
    let from = c.args.tile.from in
    let so_far = c.loop-at.invariant in
    let at = c.loop-at.at in
    let next = c.next_in-at.ensures in
    let S : WorldValue → Type 0 = λ w. IsSelected selection w at.cell in
    elim c.if-asks.branch [
      | then-asks+in_ok-add w ↦
          let cells : c.if-asks.cells.items ≡ w.add.new.cells.items = ap (λ (v : Vec ℕ Global). v.items) w.cells-is in
          let A : SelectionValue → WorldValue → Type 0 = λ s v.
          Adds c.args.brief s v at.cell c.loop-at.cells.items w.add.new.cells.items c.loop-at.entries w.add.new.entries in
          let adds = subst (A selection) so_far.same (subst (λ s. A s c.loop-at.engine.world) w.selection-selection.ensures w.in_ok-add.ensures.added) in
          let selected = subst S c.requires.world (c.asks.ensures.0 w.if-asks.true) in
          let walked = walk_on c.args.brief selection world from at.cell c.next_in-at.result.cell c.loop-at.cells.items w.add.new.cells.items c.loop-at.entries w.add.new.entries
          so_far.least next.cell selected so_far.picked so_far.entries adds in
          record {
            least = omega (arith, so_far.least, next.cell);
            most = omega (arith, next.cell, c.loop-at-test.true);
            there = λ below. next.is (omega (arith, below, next.cell));
            same = ap (λ (e : EngineValue). e.world) w.engine-is ∙ w.in_ok-add.ensures.same ∙ so_far.same;
            picked = subst (AreAsked selection world from (c.next_in-at.result.cell - from)) (sym cells) walked.picked;
            entries =
                subst (λ xs. AllZip (IsEntryOf c.args.brief world) xs c.if-asks.entries) (sym cells)
                (subst (λ (ys : List Verdict). AllZip (IsEntryOf c.args.brief world) w.add.new.cells.items ys) (sym w.entries-is) walked.zipped);
          }
      | else-asks w ↦
          let cells : c.if-asks.cells.items ≡ c.loop-at.cells.items = ap (λ (v : Vec ℕ Global). v.items) w.cells-is in
          let off = w.if-asks.false in
          let not : ¬ IsSelected selection world at.cell = λ selected. let on = c.asks.ensures.1 (subst S (sym c.requires.world) selected) in let wrong : ⊥ = cc in wrong in
          let picked = walk_past selection world from at.cell c.next_in-at.result.cell c.loop-at.cells.items so_far.least (omega (arith, next.cell)) so_far.picked
          (λ cell above below. let here : cell ≡ at.cell = omega (arith, above, below, next.cell) in subst (λ k. ¬ IsSelected selection world k) (sym here) not) in
          record {
            least = omega (arith, so_far.least, next.cell);
            most = omega (arith, next.cell, c.loop-at-test.true);
            there = λ below. next.is (omega (arith, below, next.cell));
            same = ap (λ (e : EngineValue). e.world) w.engine-is ∙ so_far.same;
            picked = subst (AreAsked selection world from (c.next_in-at.result.cell - from)) (sym cells) picked;
            entries =
                subst (λ xs. AllZip (IsEntryOf c.args.brief world) xs c.if-asks.entries) (sym cells)
                (subst (λ (ys : List Verdict). AllZip (IsEntryOf c.args.brief world) c.loop-at.cells.items ys) (sym w.entries-is) so_far.entries);
          }
    ]

pub of-requires : goal.of-requires
of-requires c =
    let world = c.args.engine.now.world in
    zip_count (IsEntryOf c.args.brief world) c.loop-at.cells.items c.loop-at.entries c.loop-at.invariant.entries
    ∙ sym (ap (λ (ts : List Tail). length ts) c.in_ok-tile.ensures ∙ length-map c.loop-at.entries (tail_of c.args.format c.args.brief))

pub returns-clause-rows : goal.returns-clause-rows
returns-clause-rows c =
    let world = c.args.engine.now.world in
    let selection = c.args.picker.now.selection in
    let from = c.args.tile.from in
    let so_far = c.loop-at.invariant in
    let count : c.loop-at.at.cell - from ≡ c.args.tile.count = omega (arith, c.end_of-end.ensures.value, so_far.least, so_far.most, c.loop-at-test.false) in
    let are = subst (λ n. AreAsked selection world from n c.loop-at.cells.items) count so_far.picked in
    subst (λ (rows : List RowValue). AreFound c.args.format c.args.brief selection world from c.args.tile.count rows) (sym c.of.ensures)
    (found_rows c.args.format c.args.brief selection world from c.args.tile.count c.loop-at.cells.items c.loop-at.entries c.in_ok-tile.field-0 are so_far.entries
    c.in_ok-tile.ensures)
