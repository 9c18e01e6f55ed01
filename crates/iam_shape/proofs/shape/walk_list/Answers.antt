use Rattle.std.proofs.Common.{◌∙◌}
use Rattle.serde_json.specs.View.{view}
use Rattle.iam_shape.proofs.Walks.{each_here, each_later, zip_more}
use Rattle.iam_shape.proofs.shape.walk_list.Goals as goal

pub returns-in-Err-clause-path : goal.returns-in-Err-clause-path
returns-in-Err-clause-path g c = λ other.
    c.loop-i.invariant.left
    ∙ each_here view g.P.Part.checks c.args.values.now c.loop-i.i c.index-values-i.result c.in-Err.path c.loop-i-test.true c.index-values-i.is c.in-Err.ensures

pub loop-i-preserved : goal.loop-i-preserved
loop-i-preserved g c = record {
  left =
      c.loop-i.invariant.left
      ∙ each_later view g.P.Part.checks c.args.values.now c.loop-i.i c.index-values-i.result c.loop-i-test.true c.index-values-i.is c.in-Ok.ensures.0;
  said =
      rw c.in_ok-push-in-Ok.ensures.items
      (zip_more g.P.Part.says view c.args.values.now c.loop-i.i c.index-values-i.result c.loop-i.found.items c.in-Ok.part c.loop-i-test.true
      c.index-values-i.is c.loop-i.invariant.said c.in-Ok.ensures.1);
}
