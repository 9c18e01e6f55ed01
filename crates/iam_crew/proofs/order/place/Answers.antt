use Rattle.std.proofs.Common.{List, None, Option, length, sym, ap, ◌∙◌, subst}
use Rattle.std.proofs.lemmas.List.{length-replicate}
use Rattle.iam_crew.specs.Code.Order.{IsPlaced}
use Rattle.iam_crew.proofs.Slots.{placed_none}
use Rattle.iam_crew.proofs.order.place.Goals as goal

pub loop-one-init : goal.loop-one-init
loop-one-init g c = record {
  count = ap length c.in_ok-slots.ensures ∙ length-replicate c.args.tiles None;
  placed = subst (λ (slots : List (Option g.row.O.Denot)). IsPlaced slots _) (sym c.in_ok-slots.ensures) (placed_none c.args.tiles);
}

pub loop-one-preserved : goal.loop-one-preserved
loop-one-preserved g c = record {
  count = c.put.ensures.count ∙ c.loop-one.invariant.count;
  placed = c.put.ensures.placed c.loop-one.yielded c.loop-one.invariant.placed;
}
