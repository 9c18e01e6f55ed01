use Rattle.std.proofs.Common.{get_or}
use Rattle.std.proofs.lemmas.Option.{slice_get-get_or}
use Rattle.iam_every.proofs.acting.is_at.Goals as goal

pub returns-then-n-known : goal.returns-then-n-known
returns-then-n-known c on =
    let known = c.args.known.now in
    let n = c.args.n in
    let other = c.index-known-n.result in
    (get_or known n other, slice_get-get_or known n other c.if-n-known.true, c.equals.ensures on)
