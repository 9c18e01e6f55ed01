use Rattle.std.proofs.Common.{◌≡◌, ◌≤◌, ◌∙◌, Bool, true, false, List, length, not, refl, sym, take, subst}
use Rattle.std.proofs.lemmas.List.{take_all}
use Rattle.std.specs.Bool.{beq}
use Rattle.std.specs.List.{list_any}
use Rattle.iam_glob.specs.declared.sign.Sign.{Sign}
use Rattle.iam_index.specs.Elements.{TellActs, TellSome}
use Rattle.iam_index.proofs.MarkLemmas.{all_done, none_marked, one_done}
use Rattle.iam_index.proofs.elements.element_of.Goals as goal

pub loop-pattern-preserved : goal.loop-pattern-preserved
loop-pattern-preserved c =
    let patterns = c.args.action.now.patterns in
    let i = c.loop-pattern.pattern-index in
    let pattern = c.pattern-item.result in
    let T : List (List Sign) → Type 0 = λ ps. TellSome c.args.world.now (not c.is_negated-acting.result) ps c.mark.new.acts.items in
    subst T (one_done patterns c.patterns-pattern-items.result.now i pattern c.patterns-pattern-items.ensures c.loop-pattern-test.true c.pattern-item.is)
    (c.mark.ensures (take i patterns) c.loop-pattern.invariant)

pub returns : goal.returns
returns c =
    let world = c.args.world.now in
    let element = c.args.action.now in
    let acts = c.loop-pattern.acts.items in
    let L : List (List Sign) → Type 0 = λ ps. length ps ≤ c.loop-pattern.pattern-index in
    let past : length element.patterns ≤ c.loop-pattern.pattern-index = subst L c.patterns-pattern-items.ensures c.loop-pattern-test.false in
    let T : List (List Sign) → Type 0 = λ ps. TellSome world (not element.negated) ps acts in
    let N : Bool → Type 0 = λ n. TellSome world (not n) (take c.loop-pattern.pattern-index element.patterns) acts in
    let tell = subst T (take_all c.loop-pattern.pattern-index element.patterns past) (subst N c.is_negated-acting.ensures c.loop-pattern.invariant) in
    let A : List Bool → Type 0 = λ xs. list_any (λ act. beq act true) xs ≡ false in
    let marked : c.contains-some.result ≡ false → A acts = λ none. subst A c.deref.ensures.value (sym c.contains-some.ensures.value ∙ none) in
    let acting : TellActs world element acts = all_done world element acts tell in
    (record { acts = acting; idle = λ none. none_marked world element acts tell.count acting (marked none) }, refl)
