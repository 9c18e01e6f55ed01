use Rattle.std.proofs.Common.{vec_len}
use Rattle.iam_crew.proofs.team.+fn-run-join+arg2+fn-run-join+arg3+run.Given as goal

abbrev pub decreases-join+arg2 : goal.decreases-join+arg2
decreases-join+arg2 g l = vec_len l.seats

abbrev pub decreases-join+arg3 : goal.decreases-join+arg3
decreases-join+arg3 g l = vec_len l.right

abbrev pub decreases-run : goal.decreases-run
decreases-run g l = vec_len l.seats
