use Rattle.std.proofs.lemmas.Bool.Decides.{nat_tests}
use Rattle.std.proofs.Common.{◌≡◌}
use Rattle.std.proofs.Common.{[], arith}
use Rattle.std.proofs.lemmas.List.{nil_from_length}
use Rattle.iam_value.specs.Moment.{IsClock, IsUtc}
use Rattle.iam_value.proofs.Cuts.{same_reading}
use Rattle.iam_value.proofs.Times.{utc_cut}
use Rattle.iam_value.proofs.dates.utc.Goals as goal

pub returns-then-not-is_empty-clause-value : goal.returns-then-not-is_empty-clause-value
returns-then-not-is_empty-clause-value c = λ n is.
    let p = utc_cut c.args.bytes.now c.in_ok-time.time.now c.in_ok-time.rest.now n c.in_ok-time.ensures is in
    let test = rw p.0 at c.if-not-is_empty.ensures in
    cc

pub returns-clause-value : goal.returns-clause-value
returns-clause-value c =
    let empty : c.in_ok-time.rest.now ≡ [] = nil_from_length c.in_ok-time.rest.now (grind (arith, nat_tests)) in
    same_reading c.clock.result (IsClock c.in_ok-time.time.now) (IsUtc c.args.bytes.now)
    (λ n is. (c.in_ok-time.time.now, rw empty at c.in_ok-time.ensures.0, is))
    (λ n is. (utc_cut c.args.bytes.now c.in_ok-time.time.now c.in_ok-time.rest.now n c.in_ok-time.ensures is).1)
    c.clock.ensures.value
