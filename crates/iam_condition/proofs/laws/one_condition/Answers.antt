use Rattle.iam_condition.proofs.OneReading.{condition_is_one}
use Rattle.iam_condition.proofs.laws.one_condition.Goals as goal

pub returns : goal.returns
returns c =
    condition_is_one
    record {
      draft = c.one_draft.ensures;
      whole = c.one_whole.ensures;
      moment = c.one_moment.ensures;
      truth = c.one_truth.ensures;
      bytes = c.one_bytes.ensures;
      range = c.one_range.ensures;
    }
