use Rattle.std.proofs.Common.{◌≡◌, vec_len, All}
use Rattle.iam_work.specs.Code.Closing.{Gathers}
use Rattle.iam_work.proofs.close.gather.Given as goal

abbrev pub invariant-loop-seat : goal.invariant-loop-seat
invariant-loop-seat l = record {
  table : l.pass.table_id ≡ l.table.shared.table_id;
  rest : All (λ s. s.work.marks ≡ l.table.shared.table_id) l.seats.items;
  gathered : Gathers l.fn.seats.items l.seats.items l.pass.me.0;
}

abbrev pub decreases-loop-seat : goal.decreases-loop-seat
decreases-loop-seat l = vec_len l.seats
