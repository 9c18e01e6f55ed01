use Rattle.std.proofs.Common.{length, ap, arith}
use Rattle.std.proofs.lemmas.List.{length-take}
use Rattle.iam_report.proofs.text.full_tile.Goals as goal

pub push-requires : goal.push-requires
push-requires c =
    let loop = c.loop-verdict in
    omega (arith, c.requires, ap length loop.invariant, length-take loop.verdict-index c.args.verdicts.now)
