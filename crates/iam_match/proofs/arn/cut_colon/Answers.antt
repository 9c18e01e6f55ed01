use Rattle.std.proofs.Common.{◌≡◌, ◌<◌, ◌≤◌, All, List, arith, false, length, subst, true}
use Rattle.std.proofs.lemmas.List.{take_all}
use Rattle.std.proofs.lemmas.List.Elements.{All-more}
use Rattle.iam_text.specs.Arn.{colon}
use Rattle.iam_glob.specs.Signs.{signs_in}
use Rattle.iam_glob.specs.contracts.sign.SignPartialEq as signs
use Rattle.iam_glob.specs.declared.sign.Sign.{Sign}
use Rattle.iam_glob.specs.declared.sign.Sign.TheVariants as sign
use Rattle.iam_match.specs.Entry.{IsNoColon}
use Rattle.iam_match.proofs.arn.cut_colon.Goals as goal

pub loop-i-preserved : goal.loop-i-preserved
loop-i-preserved c =
    let below : c.loop-i.i < length (signs_in c.args.signs) = omega (arith, c.loop-i-test.true, c.len-i-end.ensures) in
    let Told : Sign → Type 0 = λ s. false ≡ (signs.TheImpl.eq-value).it s (sign.Given colon) in
    let other : IsNoColon c.at.result = λ is. let wrong : false ≡ true = subst Told is c.if-eq.ensures in (let no : ⊥ = cc in no) in
    All-more IsNoColon (signs_in c.args.signs) c.loop-i.i sign.Any below c.loop-i.invariant (subst IsNoColon c.at.ensures other)

pub returns : goal.returns
returns c =
    let all : length (signs_in c.args.signs) ≤ c.loop-i.i = omega (arith, c.loop-i-test.false, c.len-i-end.ensures) in
    let P : List Sign → Type 0 = λ signs. All IsNoColon signs in
    subst P (take_all c.loop-i.i (signs_in c.args.signs) all) c.loop-i.invariant
