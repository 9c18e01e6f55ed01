use Rattle.std.proofs.Common.{◌≡◌, ◌∙◌, ◌++◌, ap, string_bytes}
use Rattle.iam_open_changes.proofs.PartLemmas.{put_more}
use Rattle.iam_open_changes.proofs.report.put_parts.Goals as goal

pub loop-part-preserved : goal.loop-part-preserved
loop-part-preserved c =
    let old = c.loop-part.whole in
    let more : string_bytes c.push_str.new.self ≡ string_bytes old.text ++ string_bytes c.part-item.result.text =
    c.in_ok-push_str.ensures.bytes ∙ ap (λ it. string_bytes old.text ++ it) c.as_str.ensures.value in
    let (text, kinds) =
    put_more (string_bytes c.args.whole.now.text) c.args.whole.now.kinds c.args.parts.now c.loop-part.part-index c.part-item.result
    (string_bytes old.text) (string_bytes c.push_str.new.self) old.kinds c.joined-whole.result c.loop-part-test.true c.part-item.is
    c.loop-part.invariant.text more c.loop-part.invariant.kinds c.joined-whole.ensures in
    record { text = text; kinds = kinds }
