use Rattle.std.proofs.Common.{◌≡◌, ◌++◌, map}
use Rattle.iam_every.proofs.told.lists_of.Given as goal

abbrev pub invariant-loop-one : goal.invariant-loop-one
invariant-loop-one l = record {
  parts : l.yielded ++ l.one-iterator.rest.items ≡ l.fn.known.items;
  lists : l.lists.items ≡ map (λ one. one.said) l.yielded;
}
