use Rattle.std.proofs.Common.{◌∙◌, ◌<◌, ℕ, List, length, sym, arith}
use Rattle.std.proofs.lemmas.Bool.{not-false}
use Rattle.std.proofs.lemmas.List.{get_or_default, take_more_same}
use Rattle.std.proofs.lemmas.Slice.Eq.{bytes_eq-Decides}
use Rattle.iam_asked.proofs.own.are_same_texts.Goals as goal

pub loop-i-preserved : goal.loop-i-preserved
loop-i-preserved c =
    let text : List ℕ = c.index-texts-i.result in
    let other : List ℕ = c.index-others-i.result in
    let others = c.args.others.now in
    let inside : c.loop-i.i < length others = omega (arith, c.loop-i-test.true, c.if-texts-others.false) in
    let same = (bytes_eq-Decides c.as_str.result.now c.as_str-in-loop-i.result.now).0 (not-false _ (sym c.ne.ensures ∙ c.if-ne.false)) in
    take_more_same c.args.texts.now others c.loop-i.i text c.loop-i-test.true inside c.loop-i.invariant
    (sym c.index-texts-i.is ∙ sym c.as_str.ensures ∙ same ∙ c.as_str-in-loop-i.ensures ∙ c.index-others-i.is ∙ get_or_default others c.loop-i.i other text inside)
