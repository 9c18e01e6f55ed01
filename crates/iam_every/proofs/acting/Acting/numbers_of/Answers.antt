use Rattle.std.proofs.Common.{◌∷◌, [], ◌++◌, ◌∙◌, List, arith, map, subst, sym, take}
use Rattle.std.proofs.lemmas.List.{take_all}
use Rattle.std.specs.List.{AllZip}
use Rattle.iam_decision.specs.Code.Scan.{placed_value}
use Rattle.iam_decision.specs.Matched.{Placed}
use Rattle.iam_every.specs.Code.Acting.{IsActingFor}
use Rattle.iam_every.proofs.KnownLemmas.{zip_map}
use Rattle.iam_every.proofs.SideLemmas.{both_more, placed_more}
use Rattle.iam_every.proofs.acting.Acting.numbers_of.Goals as goal

pub loop-standing-preserved : goal.loop-standing-preserved
loop-standing-preserved c =
    let statements = c.args.statements.now in
    let i = c.loop-standing.standing-index in
    let x = c.standing-item.result in
    let before = map placed_value (take i statements) in
    let numbers = c.loop-standing.numbers.items in
    let Old = IsActingFor c.loop-standing.self.known.items in
    let New = IsActingFor c.number.new.self.known.items in
    let all : AllZip New before numbers =
    zip_map Old New (λ s n (one, at, same). (one, c.in_ok-number.ensures.same n one at, same)) before numbers c.loop-standing.invariant.numbers in
    let (one, at, same) = c.in_ok-number.ensures.number in
    record {
      known = c.in_ok-number.ensures.known;
      numbers = subst (λ (xs : List Placed). AllZip New xs c.push.new.self.items)
          (sym (placed_more statements i x c.loop-standing-test.true c.standing-item.is))
          (subst (AllZip New (before ++ (placed_value x ∷ []))) (sym c.in_ok-push.ensures.items)
          (both_more New before numbers (placed_value x) c.in_ok-number.field-0 all (one, at, same ∙ c.action.ensures)));
    }

pub returns-clause-numbers : goal.returns-clause-numbers
returns-clause-numbers c =
    let all = take_all c.loop-standing.standing-index c.args.statements.now (omega (arith, c.loop-standing-test.false)) in
    subst (λ items. AllZip (IsActingFor c.loop-standing.self.known.items) (map placed_value items) c.loop-standing.numbers.items) all
    c.loop-standing.invariant.numbers
