use Rattle.iam_app.proofs.OneOutput.{Given, one_beginning, one_end, one_output}
use Rattle.iam_app.proofs.Selecting.{one_selected_beginning, one_selected_end, one_selected_output}
use Rattle.iam_app.proofs.laws.one_output.Goals as goal

pub returns : goal.returns
returns c =
    let g : Given = record {
      worlds = c.one_world.ensures;
      faults = c.one_first_fault.ensures;
      not_both = c.no_world_and_fault.ensures;
      verdicts = c.one_verdict_at.ensures.request;
      rows = c.one_row.ensures.full;
      reports = c.one_report.ensures.matrix;
      firsts = c.one_report.ensures.first;
    } in
    let listing = c.one_selected_report.ensures.listing in
    let first = c.one_selected_report.ensures.first in
    record {
      text = one_output g;
      ends = one_end g;
      beginning = one_beginning g;
      selected = one_selected_output g listing first;
      selected_ends = one_selected_end g listing first;
      selected_beginning = one_selected_beginning g listing first;
    }
