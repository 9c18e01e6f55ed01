use Rattle.std.proofs.Common.{◌++◌, ◌+◌, ℕ, List, refl, subst, arith}
use Rattle.std.proofs.lemmas.Result.{MatchResult-from_err}
use Rattle.iam_report.specs.Code.Buffer.{Passes}
use Rattle.iam_report.specs.Streams.{AppendsBeginning}
use Rattle.iam_ask.proofs.Written.{row_fails, row_more, same_row}
use Rattle.iam_ask.proofs.text.put_tile.Goals as goal

pub returns-in_err-put_pieces-clause-err : goal.returns-in_err-put_pieces-clause-err
returns-in_err-put_pieces-clause-err g c =
    let same = same_row c.args.quoted.now c.args.requests.now.asked (c.args.from + c.loop-i.i) (c.args.from + c.loop-i.i) c.comma_before-comma.result.now c.position_at-at.result c.tail.result.now _
    refl c.comma_before-comma.ensures c.position_at-at.ensures c.tail.ensures in
    let P : List ℕ → Type 0 = λ text. AppendsBeginning (g.W.Write.contents c.loop-i.writer) (g.W.Write.contents c.put_pieces.new.writer) (c.loop-i.kept.items ++ text) in
    MatchResult-from_err _ _ _ c.from_residual.ensures.0
    (λ _. row_fails c.args.quoted.now c.args.requests.now.asked c.args.from c.args.tile.now c.loop-i.i _ _ _ _ _ (omega (arith, c.loop-i-test.true, c.len-i-end.ensures)) c.loop-i.invariant
    (subst P same c.in_err-put_pieces.ensures.err))

pub loop-i-preserved : goal.loop-i-preserved
loop-i-preserved g c =
    let same = same_row c.args.quoted.now c.args.requests.now.asked (c.args.from + c.loop-i.i) (c.args.from + c.loop-i.i) c.comma_before-comma.result.now c.position_at-at.result c.tail.result.now _
    refl c.comma_before-comma.ensures c.position_at-at.ensures c.tail.ensures in
    let P : List ℕ → Type 0 = λ text. Passes (g.W.Write.contents c.loop-i.writer) (g.W.Write.contents c.put_pieces.new.writer) c.loop-i.kept.items c.put_pieces.new.kept.items text in
    row_more c.args.quoted.now c.args.requests.now.asked c.args.from c.args.tile.now c.loop-i.i _ _ _ _ _ _ (omega (arith, c.loop-i-test.true, c.len-i-end.ensures)) c.loop-i.invariant
    (subst P same c.in_ok-put_pieces.ensures.ok)
