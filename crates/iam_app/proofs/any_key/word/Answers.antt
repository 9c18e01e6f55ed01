use Rattle.iam_open.specs.declared.asked.Word.TheVariants.{Always, Never, Possible}
use Rattle.iam_app.proofs.any_key.word.Goals as goal

pub returns-in-always-clause-other : goal.returns-in-always-clause-other
returns-in-always-clause-other c = λ none. absurd (none Always c.in-always.is)

pub returns-in-never-clause-other : goal.returns-in-never-clause-other
returns-in-never-clause-other c = λ none. absurd (none Never c.in-never.is)

pub returns-in-possible-clause-other : goal.returns-in-possible-clause-other
returns-in-possible-clause-other c = λ none. absurd (none Possible c.in-possible.is)
