use Rattle.std.proofs.Common.{◌+◌, ◌-◌, List, sym, ◌∙◌, subst, arith}
use Rattle.iam_decision.specs.declared.verdict.Verdict.{Verdict}
use Rattle.iam_matrix.specs.Code.Tiles.{AreEntries}
use Rattle.iam_matrix.proofs.Tiles.{more_entries}
use Rattle.iam_ask.specs.Code.Rows.{IsAnswerTo}
use Rattle.iam_ask.proofs.rows.tile_of.Goals as goal

pub loop-n-preserved : goal.loop-n-preserved
loop-n-preserved c =
    let Is = IsAnswerTo c.args.brief c.args.requests.now in
    let from = c.args.tile.from in
    let n = c.loop-n.n in
    let E : List Verdict → Type 0 = λ entries. AreEntries Is from (n + 1 - from) entries in record {
      same = c.in_ok-verdict.ensures.same ∙ c.loop-n.invariant.same;
      so_far =
          subst E (sym c.in_ok-push.ensures.ok)
          (more_entries Is from n c.loop-n.entries c.in_ok-verdict.verdict (omega (arith, c.loop-n.auto.n)) c.loop-n.invariant.so_far c.in_ok-verdict.ensures.is);
    }
