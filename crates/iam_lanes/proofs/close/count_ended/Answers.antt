use Rattle.std.proofs.Common.{◌≡◌, ℕ, ◌+◌, cond, ltb, get_or, sym, ap, ◌∙◌, arith}
use Rattle.std.specs.Mem.Slots.{slots_items}
use Rattle.iam_lanes.proofs.Closing.{word_is, passed_more, bit_within, byte_is}
use Rattle.iam_lanes.proofs.close.count_ended.Goals as goal

pub loop-lane-preserved : goal.loop-lane-preserved
loop-lane-preserved c =
    let words = slots_items c.args.closed.now.words in
    let lane = c.loop-lane.lane in
    let length_is = get_or c.args.lengths.now lane 0 in
    let word : get_or words (lane + 1) 0 ≡ c.word.result = word_is words (lane + 1) c.word.result c.word.ensures in
    let bit : c.from-ended.result ≡ cond (ltb length_is (get_or words (lane + 1) 0)) 1 0 = c.from-ended.ensures ∙ byte_is (ltb length_is c.word.result) ∙ ap (λ n. cond {A = ℕ} (ltb length_is n) 1 0) (sym word) in
    let small = bit_within (ltb length_is (get_or words (lane + 1) 0)) in
    let few = c.loop-lane.invariant.few in
    let counted = c.loop-lane.invariant.counted in
    let more = passed_more lane words c.args.lengths.now in
    record { few = omega arith; counted = omega arith }
