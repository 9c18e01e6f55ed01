use Rattle.std.proofs.Common.{arith, length, subst, refl, ◌<◌, ◌≤◌}
use Rattle.std.proofs.lemmas.List.{take_all}
use Rattle.std.proofs.lemmas.List.Elements.{All-more}
use Rattle.iam_glob.specs.Code.Walk.{AreGiven, IsGiven}
use Rattle.iam_glob.specs.Signs.{signs_in}
use Rattle.iam_glob.specs.declared.sign.Sign.TheVariants.{Any}
use Rattle.iam_glob.proofs.walk.are_given.Goals as goal

pub loop-i-preserved : goal.loop-i-preserved
loop-i-preserved c =
    let below : c.loop-i.i < length (signs_in c.args.signs) = omega (arith, c.loop-i-test.true, c.len-i-end.ensures) in
    All-more IsGiven (signs_in c.args.signs) c.loop-i.i Any below c.loop-i.invariant (subst IsGiven c.in-Given.ensures tt)

pub returns : goal.returns
returns c =
    let signs = signs_in c.args.signs in
    let all : length signs ≤ c.loop-i.i = omega (arith, c.loop-i-test.false, c.len-i-end.ensures) in
    (λ t. subst AreGiven (take_all c.loop-i.i signs all) c.loop-i.invariant, λ given. refl)
