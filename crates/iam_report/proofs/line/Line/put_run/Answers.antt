use Rattle.std.proofs.Common.{◌≡◌, ◌+◌, ◌<◌, ◌++◌, ◌∙◌, ℕ, List, [], get_or, ap, arith, length, refl, subst, sym}
use Rattle.iam_report.specs.Code.Line.{LineValue, tail_at}
use Rattle.iam_report.specs.Code.Run.{IsBefore, further}
use Rattle.iam_row.specs.Piece.{row_at}
use Rattle.iam_row.specs.declared.quoted.Quoted.{Quoted}
use Rattle.iam_row.specs.declared.tail.Tail.{Tail}
use Rattle.iam_report.proofs.Runs.{further_one, run_more}
use Rattle.iam_report.proofs.line.Line.put_run.Goals as goal

pub put_next-requires-clause-resource : goal.put_next-requires-clause-resource
put_next-requires-clause-resource g c =
    let r = c.args.at.resource + c.loop-i.i in
    c.resource_at-resource.ensures
    ∙ ap (λ (texts : List (List ℕ)). get_or texts r [])
    (c.as_slice-resources.ensures ∙ ap (λ (v : LineValue). v.quoted.resources) c.self.view_is ∙ sym (ap (λ (q : Quoted). q.resources) c.loop-i.invariant.quoted))

pub loop-i-preserved : goal.loop-i-preserved
loop-i-preserved g c =
    let line = c.args.self.now in
    let at = c.args.at in
    let i = c.loop-i.i in
    let n = c.number_at-n.result in
    let few : at.resource + i < length line.quoted.resources =
    omega (arith, c.loop-i-test.true, c.rows_left-most.ensures.left, ap length c.as_slice-resources.ensures, ap (λ (v : LineValue). length v.quoted.resources) c.self.view_is) in
    let P : Quoted → List Tail → Type 0 = λ q tails. c.put_next.new.block ≡ c.loop-i.block ++ row_at q (further at i) (tail_at tails n) in
    let row =
    subst (λ q. P q line.tails) c.loop-i.invariant.quoted (subst (P c.loop-i.self.quoted) c.loop-i.invariant.tails (c.if-not-put_next.ensures.put refl)) in
    record {
      quoted = c.put_next.ensures.quoted ∙ c.loop-i.invariant.quoted;
      tails = c.put_next.ensures.tails ∙ c.loop-i.invariant.tails;
      before = subst (IsBefore c.put_next.new.self) (further_one at i) (c.if-not-put_next.ensures.before refl);
      rows =
          run_more line.quoted line.tails c.args.numbers.now i n at c.args.block.now c.loop-i.block c.put_next.new.block c.number_at-n.ensures few
          c.loop-i.invariant.rows row;
    }
