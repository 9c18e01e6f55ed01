use Rattle.std.proofs.Common.{◌≡◌, ◌+◌, ◌-◌, ◌*◌, ◌<◌, Bool, false, get_or, length, sym, subst, arith}
use Rattle.std.proofs.lemmas.Option.{slice_get-get_or}
use Rattle.iam_classes.proofs.WordLemmas.{AreBits, bits_more, bits_none}
use Rattle.iam_classes.proofs.gather.bits.Goals as goal

pub loop-k-init : goal.loop-k-init
loop-k-init c = (omega arith, bits_none c.args.row.now)

pub loop-k-preserved : goal.loop-k-preserved
loop-k-preserved c =
    let row = c.args.row.now in
    let k = c.loop-k.k - 1 in
    let bit : Bool = get_or row k false in
    let below : k < length row = omega (arith, c.loop-k-test.true, c.loop-k.invariant.0) in
    let same : c.loop-k.k ≡ k + 1 = omega (arith, c.loop-k-test.true) in
    let before : AreBits row (k + 1) c.loop-k.word = subst (λ n. AreBits row n c.loop-k.word) same c.loop-k.invariant.1 in
    let more = bits_more row k c.loop-k.word bit below (slice_get-get_or row k false below) before in
    (omega (arith, below), subst (λ b. AreBits row k (c.loop-k.word * 2 + b)) (sym c.from.ensures) more)
