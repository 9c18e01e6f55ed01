use Rattle.std.proofs.Common.{◌≡◌, FitsSigned, refl, sym, ◌∙◌, subst}
use Rattle.std.specs.Int.{w128}
use Rattle.std.proofs.lemmas.Int.{to_z-of_z}
use Rattle.iam_condition.specs.declared.operator.Base.{Base}
use Rattle.iam_value.specs.Moment.{IsMoment}
use Rattle.iam_match.specs.Code.Asked.{IsAsked}
use Rattle.iam_match.specs.declared.asked.Asked.TheVariants as asked
use Rattle.iam_match.proofs.asked.Asked.read.Goals as goal

pub returns-in-Some-moment : goal.returns-in-Some-moment
returns-in-Some-moment c =
    let nanos = c.in-Some-moment.nanos in
    let fits : FitsSigned w128 nanos = search in
    let same = to_z-of_z w128 nanos fits in (
      c.in-Date.is,
      (
        subst (IsMoment c.args.text.now) (sym same) c.in-Some-moment.ensures.value,
        λ other is. let found = c.in-Some-moment.ensures.only other is in let here : other ≡ nanos = cc in here ∙ sym same,
      ),
    )

pub returns-in-None-moment : goal.returns-in-None-moment
returns-in-None-moment c =
    let P : Base → Type 0 = λ b. IsAsked b c.args.text.now asked.Nothing in
    subst P (sym c.in-Date.is) (refl, λ context value matched. c.in-None-moment.ensures.value matched.0 matched.3)

pub returns-in-Some-read : goal.returns-in-Some-read
returns-in-Some-read c =
    (c.in-Address.is, (c.in-Some-read.ensures.value, λ other is. let same = c.in-Some-read.ensures.only other is in cc))

pub returns-in-None-read : goal.returns-in-None-read
returns-in-None-read c =
    let P : Base → Type 0 = λ b. IsAsked b c.args.text.now asked.Nothing in
    subst P (sym c.in-Address.is) (refl, λ context value matched. c.in-None-read.ensures.value matched.0 matched.3)
