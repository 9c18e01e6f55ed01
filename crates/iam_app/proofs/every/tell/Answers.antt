use Rattle.std.proofs.Common.{rules, List, map, subst, sym}
use Rattle.iam_asked.specs.TextLines.{text_line_of}
use Rattle.iam_asked.specs.declared.texts.TextLine.{TextLine}
use Rattle.iam_app.specs.Code.Naming.{AreKnown}
use Rattle.iam_app.proofs.NamingLemmas.{said_known}
use Rattle.iam_app.proofs.every.tell.Goals as goal

pub answer-requires-clause-known : goal.answer-requires-clause-known
answer-requires-clause-known g c =
    let world = c.args.world.now in
    let known = said_known c.args.command.now.texts (g.S.Read.remaining c.args.file.now) world (map text_line_of c.in_ok-lines.lines.items) c.in_ok-lines.ensures.ok in
    let here : AreKnown world (map text_line_of c.as_slice.result.now) =
    subst (λ (lines : List TextLine). AreKnown world (map text_line_of lines)) (sym c.as_slice.ensures.value) known in
    search rules
