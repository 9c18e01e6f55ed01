use Rattle.std.proofs.Common.{◌≡◌, ◌↔◌, ◌+◌, ◌-◌, ◌<◌, ◌∷◌, ℕ, IsTrue, List, drop, length, map, sym, ap, ◌∙◌, subst, arith}
use Rattle.std.proofs.lemmas.List.{drop_more}
use Rattle.iam_match.specs.Request.{access_of}
use Rattle.iam_decision.specs.Code.Scan.{placed_value}
use Rattle.iam_decision.specs.Living.{Lives}
use Rattle.iam_decision.specs.declared.scan.Standing.{Standing}
use Rattle.iam_living.specs.Word.{AreBits}
use Rattle.iam_living.proofs.lists.word_of.Goals as goal

pub loop-i-preserved : goal.loop-i-preserved
loop-i-preserved c =
    let statements = c.args.statements.now in
    let i = c.loop-i.i in
    let standing = c.index-statements-i.result in
    let below : i - 1 < length statements = omega (arith, c.loop-i.auto.i, c.loop-i-test.true) in
    let next : (i - 1) + 1 ≡ i = omega (arith, c.loop-i-test.true) in
    let first : drop (i - 1) statements ≡ standing ∷ drop i statements =
    drop_more statements (i - 1) standing below ∙ ap (λ (s : Standing). s ∷ drop ((i - 1) + 1) statements) (sym c.index-statements-i.is)
    ∙ ap (λ (k : ℕ). standing ∷ drop k statements) next in
    let L : Standing → Type 0 = λ s. IsTrue c.in_ok-rest_matches.field-0 ↔ Lives (access_of c.args.access) (placed_value s) in
    let P : List Standing → Type 0 = λ z. AreBits (access_of c.args.access) (map placed_value z) c.in-Some.longer in
    subst P (sym first)
    (
    c.in-Some.ensures (access_of c.args.access) (placed_value standing) (map placed_value (drop i statements))
    (subst L (sym c.index-statements-i.is) c.in_ok-rest_matches.ensures)
    c.loop-i.invariant
    )
