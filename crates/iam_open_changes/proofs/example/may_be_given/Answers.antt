use Rattle.std.proofs.Common.{◌≡◌, ◌≤◌, arith}
use Rattle.iam_open.specs.InQuestion.{last_moment}
use Rattle.iam_open_changes.proofs.LookLemmas.{given_both}
use Rattle.iam_open_changes.proofs.example.may_be_given.Goals as goal

pub returns-clause-given : goal.returns-clause-given
returns-clause-given c = λ t one other was now before after.
    let first : c.moment.result ≡ one.moment = c.moment.ensures.is one was before in
    let second : c.moment-else-moment.result ≡ other.moment = c.moment-else-moment.ensures.is other now after in
    let from : one.moment ≤ c.args.moment = omega (arith, first) in
    let since : other.moment ≤ c.args.moment = omega (arith, second) in
    let to : c.args.moment ≤ last_moment = omega arith in
    given_both one other c.args.own.now.items c.args.moment (c.are_single.ensures t) from since to
