use Rattle.std.proofs.lemmas.Result.{IfOk-weaker}
use Rattle.iam_classes.specs.Engine.{IsNumberAt}
use Rattle.iam_classes.proofs.EngineLemmas.{class_there, of_class, same_class}
use Rattle.iam_classes.proofs.engine.ClassEngine.find.Goals as goal

pub number-requires-clause-class : goal.number-requires-clause-class
number-requires-clause-class c = class_there c.class.new.self c.args.p c.args.r c.in_ok-found.found.class c.in_ok-found.ensures.class

pub returns-clause-number : goal.returns-clause-number
returns-clause-number c =
    let engine = c.number.new.self in
    let class = c.in_ok-found.found.class in
    let is = same_class c.class.new.self engine c.args.p c.args.r class c.number.ensures.same.0 c.number.ensures.classes c.in_ok-found.ensures.class in
    IfOk-weaker c.number.result _ _ (λ number all. of_class engine c.args.p c.args.r class (λ p r. IsNumberAt engine p c.args.a r number) is all) c.number.ensures.number
