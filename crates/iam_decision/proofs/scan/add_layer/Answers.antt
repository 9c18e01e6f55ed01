use Rattle.std.proofs.Common.{◌≡◌, ◌<◌, ◌++◌, ℕ, List, map, length, sym, subst, arith}
use Rattle.std.proofs.lemmas.List.{length-map}
use Rattle.iam_policy.specs.Reading.{PolicyValue}
use Rattle.iam_decision.specs.Applicable.{IsCountable}
use Rattle.iam_decision.specs.Matched.{in_level}
use Rattle.iam_decision.specs.Code.Scan.{placed_value}
use Rattle.iam_decision.proofs.ScanLemmas.{added_more, all_at, at_map}
use Rattle.iam_decision.proofs.scan.add_layer.Goals as goal

pub add_level-requires : goal.add_level-requires
add_level-requires c =
    let P : List PolicyValue → Type 0 = λ policies. IsCountable policies in
    subst P (sym c.as_slice.ensures.value)
    (all_at IsCountable (λ level. level.items) c.args.levels.now c.loop-number.number c.index-levels-number.result c.loop-number-test.true c.index-levels-number.is c.requires.policies_count)

pub loop-number-preserved : goal.loop-number-preserved
loop-number-preserved c =
    let f = λ (l : ℕ × List PolicyValue). in_level c.args.layer l.0 l.1 in
    let levels : List (List PolicyValue) = map (λ level. level.items) c.args.levels.now in
    let i = c.loop-number.number in
    let policies : List PolicyValue = c.index-levels-number.result.items in
    let P : List PolicyValue → Type 0 = λ ps. map placed_value c.add_level.new.statements.items ≡ map placed_value c.loop-number.statements.items ++ in_level c.args.layer i ps in
    let long : length levels ≡ length c.args.levels.now = length-map c.args.levels.now (λ level. level.items) in
    let below : i < length c.args.levels.now = c.loop-number-test.true in
    added_more f levels i policies (map placed_value c.args.statements.now.items) (map placed_value c.loop-number.statements.items) (map placed_value c.add_level.new.statements.items) (omega arith)
    (at_map (λ level. level.items) c.args.levels.now i c.index-levels-number.result c.loop-number-test.true c.index-levels-number.is)
    c.loop-number.invariant (subst P c.as_slice.ensures.value c.in_ok-add_level.ensures)
