use Rattle.std.proofs.Common.{sym}
use Rattle.iam_condition.proofs.ReadingLemmas.{fine_draft, fine_value}
use Rattle.iam_condition.proofs.reading.read_text.Goals as goal

pub of-requires : goal.of-requires
of-requires c = fine_draft c.args.version c.args.base c.args.text.now c.in-Some.wild (sym c.in-Some.ensures) c.requires

pub unwrap-requires : goal.unwrap-requires
unwrap-requires c = fine_value c.args.version c.args.base c.args.text.now c.in_ok-read_value-in-None.field-0 (sym c.in-None.ensures) c.requires c.in_ok-read_value-in-None.ensures
