use Rattle.std.proofs.Common.{◌↔◌, ◌∷◌, [], ◌++◌, IsTrue, List, arith, map, subst, sym, take}
use Rattle.std.proofs.lemmas.List.{take_all}
use Rattle.iam_match.specs.Request.{access_of}
use Rattle.iam_decision.specs.Code.Scan.{placed_value}
use Rattle.iam_decision.specs.Living.{Lives}
use Rattle.iam_decision.specs.Matched.{Placed}
use Rattle.iam_every.specs.Code.Picked.{TellEach}
use Rattle.iam_every.proofs.SideLemmas.{both_more, placed_more}
use Rattle.iam_every.proofs.eligible.lives.Goals as goal

pub loop-standing-preserved : goal.loop-standing-preserved
loop-standing-preserved c =
    let P = Lives (access_of c.args.access) in
    let statements = c.args.statements.now in
    let i = c.loop-standing.standing-index in
    let x = c.standing-item.result in
    let before = map placed_value (take i statements) in
    subst (λ (xs : List Placed). TellEach P xs c.push.new.self.items)
    (sym (placed_more statements i x c.loop-standing-test.true c.standing-item.is))
    (subst (TellEach P (before ++ (placed_value x ∷ []))) (sym c.in_ok-push.ensures.items)
    (both_more (λ s b. IsTrue b ↔ P s) before c.loop-standing.lives.items (placed_value x) c.in_ok-rest_matches.field-0 c.loop-standing.invariant
    c.in_ok-rest_matches.ensures))

pub returns : goal.returns
returns c =
    let all = take_all c.loop-standing.standing-index c.args.statements.now (omega (arith, c.loop-standing-test.false)) in
    subst (λ items. TellEach (Lives (access_of c.args.access)) (map placed_value items) c.loop-standing.lives.items) all c.loop-standing.invariant
