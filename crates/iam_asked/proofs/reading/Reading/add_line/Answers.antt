use Rattle.std.proofs.Common.{◌<◌, ap, length, arith}
use Rattle.std.proofs.lemmas.Result.{MatchResult-weaker}
use Rattle.iam_asked.specs.Request.{RequestsValue}
use Rattle.iam_asked.proofs.Meanings.{own_fault}
use Rattle.iam_asked.proofs.reading.Reading.add_line.Goals as goal

pub returns-clause-fault : goal.returns-clause-fault
returns-clause-fault c =
    let same = ap (λ (v : RequestsValue). length v.asked) c.self.view_is in
    let few : length c.args.self.now.asked < 16777216 = omega (arith, same, c.count.ensures.value, c.count.ensures.few, c.if-count-eq-MOST_REQUESTS.false) in
    let (short, (d, json, (said, is, has, own))) = c.in_ok-asked.ensures.ok in
    MatchResult-weaker c.add.result c.add.ensures.fault (λ _ _. tt)
    (λ fault un other. own_fault c.args.self.now c.args.line.now said c.in_ok-asked.asked c.in_ok-asked.own.items fault few (short, (d, json, is)) has own (un other))
