use Rattle.std.proofs.Common.{refl}
use Rattle.iam_kinds.proofs.PlaceLemmas.{not_found}
use Rattle.iam_kinds.proofs.table.settled_place.Goals as goal

pub returns-in-Err : goal.returns-in-Err
returns-in-Err c = rw (not_found c.args.good.now c.args.group c.in-Err.field-0 c.requires c.in-Err.ensures.position) refl
