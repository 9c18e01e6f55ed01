use Rattle.std.proofs.Common.{◌∙◌, arith, refl, string_bytes}
use Rattle.iam_every.proofs.ReportLemmas.{row_more}
use Rattle.iam_every.proofs.row_text.rows_text.Goals as goal

pub loop-row-preserved : goal.loop-row-preserved
loop-row-preserved c =
    let here = c.loop-row.invariant.cell in record {
      cell = omega (arith, here);
      text =
          row_more c.args.format c.args.brief c.args.first c.args.principal.now c.args.rows.now c.loop-row.row-index c.row-item.result c.loop-row.cell
          (string_bytes c.loop-row.text) _ (string_bytes c.add_row.new.text) c.loop-row-test.true c.row-item.is here
          c.loop-row.invariant.text refl (c.in_ok-add_row.ensures c.args.principal.now (c.as_str.ensures.value ∙ c.in_ok-quoted.ensures));
    }
