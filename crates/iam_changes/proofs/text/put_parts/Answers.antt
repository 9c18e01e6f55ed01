use Rattle.std.proofs.Common.{◌++◌, List, ℕ, ap, ◌∙◌, subst}
use Rattle.std.specs.List.{flat_map}
use Rattle.std.proofs.lemmas.List.{take_all}
use Rattle.std.proofs.lemmas.Result.{MatchResult-from_err}
use Rattle.iam_report.specs.Code.Buffer.{Passes}
use Rattle.iam_report.specs.Streams.{AppendsBeginning}
use Rattle.iam_report.proofs.Buffered.{texts_fail, texts_more}
use Rattle.iam_changes.specs.Code.Pieces.{PartValue, rows_text}
use Rattle.iam_changes.proofs.Written.{parts_text}
use Rattle.iam_changes.proofs.text.put_parts.Goals as goal

pub returns-in_err-put_part-clause-err : goal.returns-in_err-put_part-clause-err
returns-in_err-put_part-clause-err g c =
    let text : PartValue → List ℕ = λ part. rows_text c.args.pieces.now part.rows in
    let P : List ℕ → Type 0 = λ all. AppendsBeginning (g.W.Write.contents c.args.writer.now) (g.W.Write.contents c.put_part.new.writer) (c.args.kept.now.items ++ all) in
    let Q : PartValue → Type 0 = λ part.
    AppendsBeginning (g.W.Write.contents c.loop-part.writer) (g.W.Write.contents c.put_part.new.writer) (c.loop-part.kept.items ++ text part) in
    MatchResult-from_err _ _ _ c.from_residual.ensures.0
    (λ _. subst P (parts_text c.args.pieces.now c.args.parts.now)
    (texts_fail text c.args.parts.now c.loop-part.part-index c.part-item.result _ _ _ _ _ c.loop-part-test.true c.loop-part.invariant
    (subst Q c.part-item.is c.in_err-put_part.ensures.err)))

pub loop-part-preserved : goal.loop-part-preserved
loop-part-preserved g c =
    let text : PartValue → List ℕ = λ part. rows_text c.args.pieces.now part.rows in
    let Q : PartValue → Type 0 = λ part.
    Passes (g.W.Write.contents c.loop-part.writer) (g.W.Write.contents c.put_part.new.writer) c.loop-part.kept.items c.put_part.new.kept.items (text part) in
    texts_more text c.args.parts.now c.loop-part.part-index c.part-item.result _ _ _ _ _ _ c.loop-part-test.true c.loop-part.invariant
    (subst Q c.part-item.is c.in_ok-put_part.ensures.ok)

pub returns-clause-ok : goal.returns-clause-ok
returns-clause-ok g c =
    let text : PartValue → List ℕ = λ part. rows_text c.args.pieces.now part.rows in
    let P : List ℕ → Type 0 = λ all.
    Passes (g.W.Write.contents c.args.writer.now) (g.W.Write.contents c.loop-part.writer) c.args.kept.now.items c.loop-part.kept.items all in
    subst P (ap (flat_map text) (take_all c.loop-part.part-index c.args.parts.now c.loop-part-test.false) ∙ parts_text c.args.pieces.now c.args.parts.now)
    c.loop-part.invariant
