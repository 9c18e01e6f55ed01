use Rattle.std.proofs.Common.{◌≡◌, map, take}
use Rattle.iam_glob.specs.Glob.{folded}
use Rattle.iam_kinds.specs.Code.{AreIn}
use Rattle.iam_kinds.specs.Places.{IsRising}
use Rattle.iam_kinds.specs.Walk.{IsCasedFor, machine_at}
use Rattle.iam_kinds.proofs.ReachLemmas.{AreExactly}
use Rattle.iam_kinds.proofs.cased.cased_text.Given as goal

abbrev pub invariant-loop-letter : goal.invariant-loop-letter
invariant-loop-letter l = record {
  same : map folded l.cased.items ≡ take l.letter-index l.text;
  cased : IsCasedFor l.asked l.own.patterns.items l.cased.items;
  within : AreIn l.asked.table.now.patterns.items l.places.items;
  rising : IsRising l.places.items;
  placed : AreExactly (machine_at l.asked) (take l.letter-index l.text) l.places.items;
}
