use Rattle.iam_engine.proofs.KnownLemmas.{pattern_tells}
use Rattle.iam_engine.proofs.cache.text_matches.Goals as goal

pub returns-in-Fixed-clause-told : goal.returns-in-Fixed-clause-told
returns-in-Fixed-clause-told c = λ context.
    pattern_tells context c.args.arn.now c.in-Fixed.pattern.now c.args.text.now c.matches.result c.in-Fixed.ensures c.matches.ensures.matched
