use Rattle.std.proofs.Common.{ap, arith}
use Rattle.iam_lanes.proofs.Steps.{splits}
use Rattle.iam_lanes.proofs.lanes.hand_out.Goals as goal

pub split_seat-other-requires : goal.split_seat-other-requires
split_seat-other-requires c =
    let key = c.args.table.now.shared.key in
    let pass = c.loop-dealt.pass in
    let left = c.loop-dealt.invariant.left in
    let seats = ap (λ me. me.0.seats) left in
    let test = c.loop-dealt-test.true in
    let wide = c.requires.laid.wide in
    (c.loop-dealt.invariant.table, omega arith, splits key.lengths.items key.seats pass.id pass.me.0 (omega arith) (ap (λ me. me.0.ends) left))
