use Rattle.std.proofs.Common.{◌∙◌}
use Rattle.iam_compare.proofs.report.indexed_parts.Goals as goal

pub gathered_parts-requires-clause-crew : goal.gathered_parts-requires-clause-crew
gathered_parts-requires-clause-crew g c κs bounds = record {
  survey_before = c.surveyed-before.ensures ∙ c.requires.before;
  survey_after = c.surveyed-after.ensures ∙ c.requires.after;
  picker_before = c.requires.pick_before;
  picker_after = c.requires.pick_after;
}
