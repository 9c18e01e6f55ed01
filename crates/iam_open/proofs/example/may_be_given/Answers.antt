use Rattle.std.proofs.Common.{◌≤◌, arith, sym}
use Rattle.iam_open.specs.InQuestion.{last_moment}
use Rattle.iam_open.proofs.GivenLemmas.{given_alone}
use Rattle.iam_open.proofs.example.may_be_given.Goals as goal

pub returns : goal.returns
returns c = λ t other same.
    let from : c.args.world.now.moment ≤ c.args.moment = omega arith in
    let to : c.args.moment ≤ last_moment = omega arith in
    given_alone other c.args.own.now.items c.args.moment (c.are_single.ensures t) (rw (sym same) at from) to
