use Rattle.std.proofs.Common.{List, None, map, subst, sym}
use Rattle.iam_asked.specs.TextLines.{text_line_of}
use Rattle.iam_asked.specs.declared.texts.TextLine.{TextLine}
use Rattle.iam_options.specs.declared.every.Texts.TheVariants as x
use Rattle.iam_app.specs.Code.Naming.{AreKnown}
use Rattle.iam_app.proofs.NamingLemmas.{said_known}
use Rattle.iam_app.proofs.every_changes.tell.Goals as goal

pub known_before-requires : goal.known_before-requires
known_before-requires g c =
    let after = c.args.after.now in
    let known = said_known (x.File None) (g.F.Read.remaining c.args.file.now) after (map text_line_of c.in_ok-lines.lines.items) c.in_ok-lines.ensures.ok in
    let here : AreKnown after (map text_line_of c.as_slice-lines.result.now) =
    subst (λ (lines : List TextLine). AreKnown after (map text_line_of lines)) (sym c.as_slice-lines.ensures.value) known in
    record { known = here }

pub answer-requires-clause-known : goal.answer-requires-clause-known
answer-requires-clause-known g c κs within =
    let after = c.args.after.now in
    let known = said_known (x.File None) (g.F.Read.remaining c.args.file.now) after (map text_line_of c.in_ok-lines.lines.items) c.in_ok-lines.ensures.ok in
    subst (λ (lines : List TextLine). AreKnown after (map text_line_of lines)) (sym c.as_slice-lines.ensures.value) known
