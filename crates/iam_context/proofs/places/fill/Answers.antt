use Rattle.std.proofs.Common.{◌∙◌, ap, take}
use Rattle.iam_context.specs.Code.Places.{key_print}
use Rattle.iam_context.proofs.PlaceLemmas.{so_many, take_one}
use Rattle.iam_context.proofs.places.fill.Goals as goal

pub loop-i-preserved : goal.loop-i-preserved
loop-i-preserved c =
    let xs = c.args.part.now.items in
    let ys = c.deref-entry-items.result.now in
    let i = c.loop-i.i in
    let entry = c.entry-item.result in
    rw (take_one xs ys i entry c.deref-entry-items.ensures.value c.loop-i-test.true c.entry-item.is)
    (c.in_ok-put.ensures (take i xs) entry c.loop-i.invariant (so_many xs ys i c.deref-entry-items.ensures.value c.loop-i-test.true)
    (c.key_print.ensures ∙ ap key_print (c.as_bytes.ensures.value ∙ c.as_str.ensures)))
