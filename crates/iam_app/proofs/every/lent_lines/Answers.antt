use Rattle.std.proofs.Common.{◌+◌, ◌++◌, List, [], ◌∷◌, take, sym, ap, subst, ◌∙◌}
use Rattle.std.specs.List.{AllZip}
use Rattle.std.proofs.lemmas.List.{take_more}
use Rattle.std.proofs.lemmas.Slice.Zip.{all_zipped_more}
use Rattle.iam_asked.specs.declared.texts.TextLine.{TextLine}
use Rattle.iam_every.specs.declared.asked.Line.{Line}
use Rattle.iam_app.specs.Code.Naming.{IsLent}
use Rattle.iam_app.proofs.every.lent_lines.Goals as goal

pub loop-i-preserved : goal.loop-i-preserved
loop-i-preserved c =
    let lines = c.args.lines.now in
    let i = c.loop-i.i in
    let line = c.index-lines-i.result in
    let lent = c.loop-i.lent.items in
    let next = c.lent_line.result in
    let both = all_zipped_more IsLent (take i lines) lent line next c.loop-i.invariant c.lent_line.ensures in
    let more = take_more lines i line c.loop-i-test.true ∙ ap (λ (x : TextLine). take i lines ++ x ∷ []) (sym c.index-lines-i.is) in
    subst (λ (ls : List Line). AllZip IsLent (take (i + 1) lines) ls) (sym c.in_ok-push.ensures.items)
    (subst (λ (ts : List TextLine). AllZip IsLent ts (lent ++ next ∷ [])) (sym more) both)
