use Rattle.iam_crew.proofs.Slots.{placed_more}
use Rattle.iam_crew.proofs.order.put.Goals as goal

pub returns-clause-placed : goal.returns-clause-placed
returns-clause-placed g c made placed = placed_more c.args.slots.now.items made c.args.one c.requires placed
