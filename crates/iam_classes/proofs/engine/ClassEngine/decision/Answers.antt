use Rattle.std.proofs.Common.{◌≡◌, ◌+◌, ◌<◌, ℕ, length, sym, subst, arith}
use Rattle.std.proofs.lemmas.Option.{slice_get_within}
use Rattle.iam_layers.specs.Cell.{IsDecisionAt}
use Rattle.iam_world.specs.World.{WorldValue}
use Rattle.iam_classes.specs.Engine.{EngineValue, IsClassAt, IsNumberAt}
use Rattle.iam_classes.proofs.EngineLemmas.{class_there, of_class, same_class}
use Rattle.iam_classes.proofs.engine.ClassEngine.decision.Goals as goal

pub returns-in-Some-clause-decision : goal.returns-in-Some-clause-decision
returns-in-Some-clause-decision c =
    let world = c.keep_decided.new.self.world in
    let E : EngineValue → Type 0 = λ e. c.args.a < length e.world.actions in
    let W : WorldValue → Type 0 = λ w. c.args.a < length w.actions in
    let below = subst E (sym c.keep_decided.ensures) (subst W (sym c.in_ok-class.ensures.same.0) c.requires.action) in
    let here : c.args.r + 0 ≡ c.args.r = omega (arith) in
    let R : ℕ → Type 0 = λ r. IsDecisionAt world c.args.p c.args.a r c.in-Some.decision in
    subst R here (c.in-Some.ensures world c.args.p c.args.a c.args.r below c.decided_from.ensures)

pub number-requires-clause-class : goal.number-requires-clause-class
number-requires-clause-class c =
    let engine = c.keep_decided.new.self in
    let class = c.in_ok-class.field-0.class in
    let E : EngineValue → Type 0 = λ e. IsClassAt e c.args.p c.args.r class in
    class_there engine c.args.p c.args.r class (subst E (sym c.keep_decided.ensures) c.in_ok-class.ensures.class)

pub verdict-requires : goal.verdict-requires
verdict-requires c =
    let engine = c.number.new.self in
    let class = c.in_ok-class.field-0.class in
    let number = c.in_ok-number.number in
    let said = c.in_ok-number.ensures in
    let E : EngineValue → Type 0 = λ e. IsClassAt e c.args.p c.args.r class in
    let own = subst E (sym c.keep_decided.ensures) c.in_ok-class.ensures.class in
    let is = same_class c.keep_decided.new.self engine c.args.p c.args.r class said.same.0 said.classes own in
    let (ruling, there, of) = of_class engine c.args.p c.args.r class (λ p r. IsNumberAt engine p c.args.a r number) is said.number in
    slice_get_within engine.rulings number ruling there

pub returns-clause-decision : goal.returns-clause-decision
returns-clause-decision c =
    let engine = c.number.new.self in
    let class = c.in_ok-class.field-0.class in
    let number = c.in_ok-number.number in
    let said = c.in_ok-number.ensures in
    let E : EngineValue → Type 0 = λ e. IsClassAt e c.args.p c.args.r class in
    let own = subst E (sym c.keep_decided.ensures) c.in_ok-class.ensures.class in
    let is = same_class c.keep_decided.new.self engine c.args.p c.args.r class said.same.0 said.classes own in
    let all = of_class engine c.args.p c.args.r class (λ p r. IsNumberAt engine p c.args.a r number) is said.number in
    let (applicable, request, asked, holds) = c.verdict.ensures c.args.p c.args.a c.args.r all in
    (applicable, request, asked, holds.decided)
