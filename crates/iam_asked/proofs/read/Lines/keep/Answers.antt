use Rattle.std.proofs.Common.{◌++◌, ap, arith, length}
use Rattle.iam_asked.specs.Said.{IsShort}
use Rattle.iam_asked.proofs.Cutting.{fault_of_long, read_tail}
use Rattle.iam_asked.proofs.read.Lines.keep.Goals as goal

pub returns-clause-fault : goal.returns-clause-fault
returns-clause-fault c = λ bytes more has unbroken.
    let rest = c.args.self.now.rest.items in
    let tail = c.args.tail.now in
    let reading = c.args.self.now.reading in
    let items = ap length c.in_ok-extend_from_slice.ensures.items in
    let long : ¬ IsShort (rest ++ tail) = λ short. omega (arith, short, items, c.len.ensures, c.if-len-le-MOST_BYTES.false) in
    fault_of_long (bytes ++ tail) (rest ++ tail) more reading (record { line = c.count.result; fault = c.fault_of_long.result })
    (read_tail bytes rest tail reading has unbroken) long c.count.ensures.value c.count.ensures.few c.count.ensures.small c.fault_of_long.ensures
