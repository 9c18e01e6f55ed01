use Rattle.std.proofs.Common.{◌∙◌}
use Rattle.iam_classes.proofs.MemoLemmas.{no_more}
use Rattle.iam_classes.proofs.memo.Memo.class_sharing.Goals as goal

pub returns-in-Some-clause-class : goal.returns-in-Some-clause-class
returns-in-Some-clause-class c = let (class, at, same) = c.in-Some.ensures in (class, at, same ∙ c.get-2.ensures)

pub returns-in-Some-clause-kept : goal.returns-in-Some-clause-kept
returns-in-Some-clause-kept c = λ _. no_more c.args.self.now.classes
