use Rattle.std.proofs.Common.{take}
use Rattle.std.specs.List.{AllZip}
use Rattle.iam_world.specs.Code.Documents.{IsCleared}
use Rattle.iam_shape.specs.Shape.{each}
use Rattle.iam_world.proofs.documents.read_each.Given as goal

-- what was read so far, and its documents are cleared
abbrev pub invariant-loop-i : goal.invariant-loop-i
invariant-loop-i g l = record {
  read : AllZip (g.L.Reader.reads l.layer) (take l.i l.list) l.read.items;
  cleared : IsCleared (each (g.L.Reader.documents l.layer) 0 (take l.i l.list)) l.initial.budget l.budget;
}
