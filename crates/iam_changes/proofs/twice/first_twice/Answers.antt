use Rattle.std.proofs.lemmas.Option.{MatchOption-at_none, MatchOption-at_some}
use Rattle.std.proofs.lemmas.Result.{IfOk-weaker}
use Rattle.iam_changes.specs.Twice.{StandOnce, axis_texts}
use Rattle.iam_changes.specs.declared.twice.Axis.TheVariants.{Principals, Actions}
use Rattle.iam_changes.proofs.Ones.{Again, first_action, first_principal, first_resource}
use Rattle.iam_changes.proofs.twice.first_twice.Goals as goal

pub returns-in-Some : goal.returns-in-Some
returns-in-Some c =
    let world = c.args.world.now in
    first_principal world c.in-Some.twice (MatchOption-at_some (StandOnce (axis_texts Principals world)) (Again world Principals) c.in-Some.twice c.in-Some.is c.in_ok-twice.ensures)

pub returns-in-Some-2 : goal.returns-in-Some-2
returns-in-Some-2 c =
    let world = c.args.world.now in
    let principals = MatchOption-at_none (StandOnce (axis_texts Principals world)) (Again world Principals) c.in_default.is c.in_ok-twice.ensures in
    first_action world c.in-Some-2.twice principals
    (MatchOption-at_some (StandOnce (axis_texts Actions world)) (Again world Actions) c.in-Some-2.twice c.in-Some-2.is c.in_ok-twice-2.ensures)

pub returns : goal.returns
returns c =
    let world = c.args.world.now in
    let principals = MatchOption-at_none (StandOnce (axis_texts Principals world)) (Again world Principals) c.in_default.is c.in_ok-twice.ensures in
    let actions = MatchOption-at_none (StandOnce (axis_texts Actions world)) (Again world Actions) c.in_default-2.is c.in_ok-twice-2.ensures in
    IfOk-weaker c.twice_on-3.result _ _ (λ found h. first_resource world principals actions found h) c.twice_on-3.ensures
