use Rattle.std.proofs.Common.{◌≡◌, ◌+◌, ◌-◌, ◌++◌, length, take, drop, subst, sym, ap, ◌∙◌, arith, take-add}
use Rattle.std.proofs.KnownBytes.{Appends-trans}
use Rattle.std.proofs.lemmas.List.{take_rest}
use Rattle.std.specs.Io.KnownBytes.{Appends}
use Rattle.iam_report.proofs.output.write_text.Goals as goal

-- what was written before, and then the bytes that this write took
pub loop-done-preserved : goal.loop-done-preserved
loop-done-preserved g c =
    let text = c.args.text.now in
    let done = c.loop-done.done in
    let count = c.in-Ok.count in
    let parts : take (done + count) text ≡ take done text ++ take count (take (length text - done) (drop done text)) =
    take-add done count text ∙ ap (λ rest. take done text ++ take count rest) (sym (take_rest text done)) in
    (subst (Appends _ _) (sym parts) (Appends-trans _ _ _ _ _ c.loop-done.invariant.0 c.in-Ok.ensures.bytes), omega (arith, c.in-Ok.ensures.bound))
