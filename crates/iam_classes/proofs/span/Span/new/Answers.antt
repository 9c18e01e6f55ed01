use Rattle.iam_classes.proofs.SpanLemmas.{none_decided}
use Rattle.iam_classes.proofs.span.Span.new.Goals as goal

pub returns : goal.returns
returns c = λ world. none_decided world 0 0 0 c.new.result.items c.new.ensures.items
