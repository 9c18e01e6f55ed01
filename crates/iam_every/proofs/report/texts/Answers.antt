use Rattle.std.proofs.Common.{◌∙◌, ◌++◌, ◌∷◌, [], List, ap, append_assoc, arith, length, sym}
use Rattle.iam_every.specs.Report.{rows_text}
use Rattle.iam_every.specs.Code.Texts.{named_rows}
use Rattle.iam_every.specs.declared.crew.Chosen.{Chosen}
use Rattle.iam_every.specs.declared.rows.Row.{Row}
use Rattle.iam_every.proofs.ReportLemmas.{count_more, texts_more}
use Rattle.iam_every.proofs.report.texts.Goals as goal

pub loop-chosen-preserved : goal.loop-chosen-preserved
loop-chosen-preserved c =
    let done = c.loop-chosen.yielded in
    let chosen = c.in-Some.chosen in
    let name = c.principal_text-principal.result.now in
    let first = c.loop-chosen.first in
    let so_far = c.loop-chosen.invariant in
    let more = count_more done chosen in
    let long = ap (λ (rows : List Row). length rows) c.as_slice-rows.ensures in record {
      parts = append_assoc done (chosen ∷ []) c.next.new.self.rest.items ∙ ap (λ (t : List Chosen). done ++ t) (sym c.in-Some.ensures.steps.0) ∙ so_far.parts;
      first = omega (arith, more, long, so_far.first);
      texts =
          texts_more c.args.format c.args.brief c.args.world.now done chosen name first c.loop-chosen.texts.items c.push.new.self.items c.in_ok-rows_text.field-0
          so_far.first c.principal_text-principal.ensures so_far.texts
          (c.in_ok-rows_text.ensures ∙ ap (λ (rows : List Row). rows_text c.args.format c.args.brief first (named_rows name rows)) c.as_slice-rows.ensures)
          c.in_ok-push.ensures.items;
    }
