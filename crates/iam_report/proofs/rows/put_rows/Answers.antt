use Rattle.std.proofs.Common.{◌≡◌, ◌<◌, List, ℕ, Some, length, ap, slice_get, ◌+◌, ◌-◌, ◌++◌, ◌∙◌, arith, drop, subst, sym, take}
use Rattle.std.proofs.lemmas.Result.{MatchResult-from_err}
use Rattle.iam_report.specs.Code.Buffer.{Passes}
use Rattle.iam_report.specs.Code.Line.{tail_at}
use Rattle.iam_report.specs.Code.Run.{AddsRows}
use Rattle.iam_tiles.specs.Code.Numbered.{no_tail, picked}
use Rattle.iam_row.specs.Piece.{next_of, row_at}
use Rattle.iam_report.specs.Streams.{AppendsBeginning}
use Rattle.iam_row.specs.declared.quoted.Quoted.{Quoted}
use Rattle.iam_row.specs.declared.tail.Tail.{Tail}
use Rattle.iam_report.proofs.Buffered.{cell_next, puts_none, row_fails, row_more}
use Rattle.iam_report.proofs.Runs.{rows_added}
use Rattle.iam_tiles.proofs.Picks.{picked_at, within_at}
use Rattle.iam_report.proofs.rows.put_rows.Goals as goal

pub loop-i-init : goal.loop-i-init
loop-i-init g c = record {
  puts = puts_none c.args.quoted.now c.args.at.now _ _;
  quoted = c.new-line.ensures.quoted;
  tails = c.new-line.ensures.tails;
  within = c.requires.within;
  cell = omega arith;
  most = omega arith;
}

pub put_row-requires : goal.put_row-requires
put_row-requires g c =
    subst (λ (tails : List Tail). c.at-n.result < length tails) (sym c.loop-i.invariant.tails)
    (within_at c.args.tails.now c.args.numbers.now c.loop-i.i c.at-n.result c.at-n.ensures c.requires.known)

pub returns-in_err-put_row-clause-err : goal.returns-in_err-put_row-clause-err
returns-in_err-put_row-clause-err g c =
    let quoted = c.args.quoted.now in
    let all = picked no_tail c.args.tails.now c.args.numbers.now in
    let n = c.at-n.result in
    let tail = tail_at c.args.tails.now n in
    let there : slice_get all c.loop-i.i ≡ Some tail = picked_at no_tail c.args.tails.now c.args.numbers.now c.loop-i.i n c.at-n.ensures in
    let P : Quoted → List Tail → Type 0 = λ q tails.
    AppendsBeginning (g.W.Write.contents c.loop-i.writer) (g.W.Write.contents c.put_row.new.writer)
    ((c.loop-i.kept.items ++ c.loop-i.block) ++ row_at q c.loop-i.at (tail_at tails n)) in
    MatchResult-from_err _ _ _ c.from_residual.ensures.0
    (λ _ more. row_fails quoted all more c.loop-i.i tail c.args.at.now c.loop-i.at _ _ _ _ _ there c.loop-i.invariant.puts
    (subst (λ q. P q c.args.tails.now) c.loop-i.invariant.quoted (subst (P c.loop-i.line.quoted) c.loop-i.invariant.tails c.in_err-put_row.ensures.err)))

pub loop-i-preserved : goal.loop-i-preserved
loop-i-preserved g c =
    let quoted = c.args.quoted.now in
    let all = picked no_tail c.args.tails.now c.args.numbers.now in
    let i = c.loop-i.i in
    let here = c.loop-i.at in
    let n = c.at-n.result in
    let j = c.put_quick-i.result in
    let tail = tail_at c.args.tails.now n in
    let there : slice_get all i ≡ Some tail = picked_at no_tail c.args.tails.now c.args.numbers.now i n c.at-n.ensures in
    let P : Quoted → List Tail → Type 0 = λ q tails.
    Passes (g.W.Write.contents c.loop-i.writer) (g.W.Write.contents c.put_row.new.writer) (c.loop-i.kept.items ++ c.loop-i.block)
    (c.put_row.new.kept.items ++ c.put_row.new.block) (row_at q here (tail_at tails n)) in
    let Q : Quoted → List Tail → Type 0 = λ q tails.
    AddsRows q (take (j - (i + 1)) (drop (i + 1) (picked no_tail tails c.args.numbers.now))) c.next.result c.put_quick-i.new.at c.put_row.new.block c.put_quick-i.new.block in
    let next = c.next.ensures
    ∙ ap (λ (xs : List (List ℕ)). next_of (length xs) (length c.as_slice-2.result.now) here) c.as_slice.ensures
    ∙ ap (λ (xs : List (List ℕ)). next_of (length quoted.actions) (length xs) here) c.as_slice-2.ensures in
    let same = c.in_ok-put_row.ensures.quoted ∙ c.loop-i.invariant.quoted in
    let tails = c.in_ok-put_row.ensures.tails ∙ c.loop-i.invariant.tails in
    let first =
    row_more quoted all i tail c.args.at.now here c.next.result _ _ _ _ _ _ there next c.loop-i.invariant.puts
    (subst (λ q. P q c.args.tails.now) c.loop-i.invariant.quoted (subst (P c.loop-i.line.quoted) c.loop-i.invariant.tails c.in_ok-put_row.ensures.ok)) in
    let adds = subst (λ q. Q q c.args.tails.now) same (subst (Q c.put_row.new.line.quoted) tails c.put_quick-i.ensures.rows) in
    record {
      puts = rows_added quoted all (i + 1) j c.args.at.now c.next.result c.put_quick-i.new.at _ _ _ _ _ _ c.put_quick-i.ensures.least first adds;
      quoted = c.put_quick-i.ensures.quoted ∙ same;
      tails = c.put_quick-i.ensures.tails ∙ tails;
      within = c.put_quick-i.ensures.within;
      cell = omega (arith, cell_next quoted here c.next.result next, c.loop-i.invariant.cell, c.put_quick-i.ensures.cell);
      most = c.put_quick-i.ensures.most;
    }
