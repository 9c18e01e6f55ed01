use Rattle.std.proofs.Common.{◌≡◌, ◌+◌, ◌++◌, ◌∷◌, [], List, map, take, ap, sym, subst, ◌∙◌}
use Rattle.std.proofs.lemmas.List.{map-append, take_more}
use Rattle.iam_match.specs.Request.{access_of}
use Rattle.iam_decision.specs.Code.Scan.{placed_value}
use Rattle.iam_decision.specs.Living.{AreLiving, living_value}
use Rattle.iam_decision.specs.Matched.{Placed}
use Rattle.iam_decision.specs.declared.scan.Standing.{Standing}
use Rattle.iam_decision.proofs.living.living_among.Goals as goal

pub loop-statement-preserved : goal.loop-statement-preserved
loop-statement-preserved c =
    let statements = c.args.statements.now in
    let i = c.loop-statement.statement-index in
    let x = c.statement-item.result in
    let P : List Placed → Type 0 = λ before. AreLiving (access_of c.args.access) before (map living_value c.add_living.new.living.items) in
    let more : take (i + 1) statements ≡ take i statements ++ (x ∷ []) =
    take_more statements i x c.loop-statement-test.true ∙ ap (λ (y : Standing). take i statements ++ (y ∷ [])) (sym c.statement-item.is) in
    subst P (sym (ap (map placed_value) more ∙ map-append placed_value (take i statements) (x ∷ [])))
    (c.in_ok-add_living.ensures (map placed_value (take i statements)) c.loop-statement.invariant)
