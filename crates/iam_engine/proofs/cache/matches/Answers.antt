use Rattle.iam_engine.proofs.CacheLemmas.{remembers_more, remembers_no_more, true_of}
use Rattle.iam_engine.proofs.cache.matches.Goals as goal

pub returns-in-Some-recall-clause-matched : goal.returns-in-Some-recall-clause-matched
returns-in-Some-recall-clause-matched c = λ world has right.
    right ((c.in-Some.number, c.args.r), c.in-Some-recall.matched) c.in-Some-recall.ensures.found c.args.pattern.now c.args.arn.now c.in-Some.ensures has

pub returns-in-Some-recall-clause-right : goal.returns-in-Some-recall-clause-right
returns-in-Some-recall-clause-right c = λ world has right.
    remembers_no_more world c.args.texts.now c.args.kept.now.entries c.recall.new.kept.entries c.in-Some-recall.ensures.same right

pub returns-clause-right : goal.returns-clause-right
returns-clause-right c = λ world has right.
    let texts = c.args.texts.now in
    let n = c.in-Some.number in
    let r = c.args.r in
    let matched = c.matches-matched.result in
    let kept = c.recall.new.kept.entries in
    remembers_more world texts kept c.remember.new.kept.entries ((n, r), matched) c.remember.ensures
    (true_of world texts n r matched c.args.pattern.now c.args.arn.now c.in-Some.ensures has c.matches-matched.ensures)
    (remembers_no_more world texts c.args.kept.now.entries kept c.in_default-recall.ensures.same right)
