use Rattle.std.proofs.Common.{◌↔◌, Bool, IsTrue, IfOk, All, Any, MatchBool, sym, subst}
use Rattle.std.proofs.lemmas.Result.{IfOk-weaker}
use Rattle.iam_match.specs.Entry.{Resolves, ValueMatches}
use Rattle.iam_match.proofs.StatementLemmas.{all_but}
use Rattle.iam_match.proofs.entry.satisfies.Goals as goal

pub returns-then-operator : goal.returns-then-operator
returns-then-operator c =
    let context = c.args.context.now in
    let b = c.args.operator.base in
    let values = c.args.values.now in
    let text = c.args.text.now in
    let both = all_but (Resolves context b) (ValueMatches context b text) values in
    let some = Any (ValueMatches context b text) values in
    let P : Bool → Type 0 = λ negated. IfOk c.differs_from_all.result (λ s. IsTrue s ↔ MatchBool negated (All (Resolves context b) values × ¬ some) some) in
    subst P (sym c.if-operator.true)
    (IfOk-weaker c.differs_from_all.result _ _ (λ s agrees. (λ t. both.0 (agrees.0 t), λ all. agrees.1 (both.1 all)))
    (c.differs_from_all.ensures b text c.in_ok-asked.ensures))

pub returns : goal.returns
returns c =
    let context = c.args.context.now in
    let b = c.args.operator.base in
    let values = c.args.values.now in
    let text = c.args.text.now in
    let some = Any (ValueMatches context b text) values in
    let P : Bool → Type 0 = λ negated. IfOk c.matches_some.result (λ s. IsTrue s ↔ MatchBool negated (All (Resolves context b) values × ¬ some) some) in
    subst P (sym c.if-operator.false) (c.matches_some.ensures b text c.in_ok-asked.ensures)
