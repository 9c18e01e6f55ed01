use Rattle.std.proofs.Common.{ℕ, List, map, take, drop}
use Rattle.iam_context.specs.Keys.{HasKeys}
use Rattle.iam_shape.specs.First.{with_paths}
use Rattle.iam_shape.specs.declared.path.Name.TheVariants.{Context}
use Rattle.iam_shape.specs.declared.path.Path.TheVariants.{Field}
use Rattle.iam_world_context.specs.Clean.{AreClean}
use Rattle.iam_world_context.specs.Contexts.{IsFaultyAmong, parts_of}
use Rattle.iam_world_context.specs.declared.fault.PartFault.{PartFault}
use Rattle.iam_world_context.proofs.PartLemmas.{beside}
use Rattle.iam_world_context.proofs.contexts.check_parts.Given as goal

-- the parts so far are clean, and the first faulty one is among what is left
abbrev pub invariant-loop-i : goal.invariant-loop-i
invariant-loop-i l = record {
  clean : (keys : List (List ℕ)) → HasKeys l.others keys → AreClean keys (map (λ part. part.items) (take l.i l.parts));
  first : (keys : List (List ℕ)) → HasKeys l.others keys → (fault : PartFault)
      → IsFaultyAmong (with_paths (λ i. Field l.list i Context) l.i (map (beside keys) (map (λ part. part.items) (drop l.i l.parts)))) fault
      → IsFaultyAmong (parts_of l.list keys (map (λ part. part.items) l.parts)) fault;
}
