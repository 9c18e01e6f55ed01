-- What a theft gave, from what the deque said.
use Rattle.crossbeam_deque.specs.declared.steal.Steal.{Steal}
use Rattle.crossbeam_deque.specs.declared.steal.Steal.TheVariants as deque
use Rattle.iam_work.specs.declared.run.Run.{Run}
use Rattle.iam_work.specs.declared.stolen.Stolen.{Stolen}
use Rattle.iam_work.specs.declared.stolen.Stolen.TheVariants.{Took, Empty, Lost}

abbrev pub stolen_of : Steal Run → Stolen
stolen_of (deque.Success run) = Took run
stolen_of deque.Empty = Empty
stolen_of deque.Retry = Lost
