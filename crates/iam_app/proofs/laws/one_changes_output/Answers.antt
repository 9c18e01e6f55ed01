use Rattle.iam_app.proofs.Comparing.{Given, one_changes_beginning, one_changes_end, one_changes_output}
use Rattle.iam_app.proofs.laws.one_changes_output.Goals as goal

pub returns : goal.returns
returns c =
    let g : Given = record {
      worlds = c.one_world.ensures;
      faults = c.one_first_fault.ensures;
      not_both = c.no_world_and_fault.ensures;
      twices = c.one_twice.ensures;
      reports = c.one_changes.ensures.report;
    } in
    record {
      text = one_changes_output g;
      ends = one_changes_end g;
      beginning = one_changes_beginning g;
    }
