use Rattle.std.proofs.Common.{◌∙◌, sym}
use Rattle.iam_context.proofs.Finding.{first_here, first_next}
use Rattle.iam_context.proofs.find.find_in_part.Goals as goal

pub returns-then-is_same_key : goal.returns-then-is_same_key
returns-then-is_same_key c =
    sym (c.loop-name.invariant ∙ first_here c.args.part.now.items _ c.loop-name.name-index c.loop-name-item.result c.args.key.now c.as_str.result.now c.as_slice.result.now
    c.deref-name-items.ensures.value c.loop-name-test.true c.loop-name-item.is c.as_str.ensures c.as_slice.ensures (sym c.is_same_key.ensures ∙ c.if-is_same_key.true))

pub loop-name-preserved : goal.loop-name-preserved
loop-name-preserved c =
    c.loop-name.invariant ∙ first_next c.args.part.now.items _ c.loop-name.name-index c.loop-name-item.result c.args.key.now c.as_str.result.now
    c.deref-name-items.ensures.value c.loop-name-test.true c.loop-name-item.is c.as_str.ensures (sym c.is_same_key.ensures ∙ c.if-is_same_key.false)
