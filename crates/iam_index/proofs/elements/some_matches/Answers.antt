use Rattle.std.proofs.Common.{◌≤◌, ◌∙◌, List, length, sym, take, subst}
use Rattle.std.proofs.lemmas.List.{take_all}
use Rattle.iam_glob.specs.declared.sign.Sign.{Sign}
use Rattle.iam_index.proofs.MarkLemmas.{MatchNone, no_more, none_at_all, one_done}
use Rattle.iam_index.proofs.elements.some_matches.Goals as goal

pub loop-pattern-preserved : goal.loop-pattern-preserved
loop-pattern-preserved c =
    let world = c.args.world.now in
    let patterns = c.args.action.now.patterns in
    let i = c.loop-pattern.pattern-index in
    let pattern = c.pattern-item.result in
    let M : List (List Sign) → Type 0 = MatchNone world in
    subst M (one_done patterns c.patterns-pattern-items.result.now i pattern c.patterns-pattern-items.ensures c.loop-pattern-test.true c.pattern-item.is)
    (no_more world (take i patterns) pattern (c.some_tried.ensures c.if-some_tried.false) c.loop-pattern.invariant)

pub returns : goal.returns
returns c = λ _.
    let world = c.args.world.now in
    let element = c.args.action.now in
    let L : List (List Sign) → Type 0 = λ ps. length ps ≤ c.loop-pattern.pattern-index in
    let past : length element.patterns ≤ c.loop-pattern.pattern-index = subst L c.patterns-pattern-items.ensures c.loop-pattern-test.false in
    let M : List (List Sign) → Type 0 = MatchNone world in
    none_at_all world element (sym c.is_negated.ensures ∙ c.if-is_negated.false)
    (subst M (take_all c.loop-pattern.pattern-index element.patterns past) c.loop-pattern.invariant)
