use Rattle.std.proofs.Common.{map, take, drop}
use Rattle.std.specs.List.{AllZip}
use Rattle.iam_shape.specs.Lent.{principal_of}
use Rattle.iam_shape.specs.First.{IsFirstAt, with_paths}
use Rattle.iam_world.specs.WorldFault.{IsNoRequester, IsRequesterAt}
use Rattle.iam_shape.specs.declared.path.Path.TheVariants.{Item}
use Rattle.iam_shape.specs.declared.path.Name.TheVariants.{Principals}
use Rattle.iam_shape.specs.declared.path.Path.{Path}
use Rattle.iam_world.proofs.names.read_requesters.Given as goal

-- the requesters so far, and the first principal that is none is among those that are left
abbrev pub invariant-loop-i : goal.invariant-loop-i
invariant-loop-i l = record {
  read : AllZip IsRequesterAt (map principal_of (take l.i l.principals)) l.requesters.items;
  first : (path : Path) → IsFirstAt IsNoRequester (with_paths (Item Principals) l.i (map principal_of (drop l.i l.principals))) path
      → IsFirstAt IsNoRequester (with_paths (Item Principals) 0 (map principal_of l.principals)) path;
}
