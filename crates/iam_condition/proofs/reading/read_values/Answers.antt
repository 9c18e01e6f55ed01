use Rattle.std.proofs.Common.{subst}
use Rattle.std.specs.List.{AllByRecursion}
use Rattle.serde_json.specs.View.{view}
use Rattle.iam_condition.specs.Code.Reading.{IsFine}
use Rattle.iam_condition.specs.Condition.{ReadsValue}
use Rattle.iam_condition.proofs.ReadingLemmas.{drop_at, zip_more}
use Rattle.iam_condition.proofs.reading.read_values.Goals as goal

pub loop-value-preserved : goal.loop-value-preserved
loop-value-preserved c =
    let values = c.args.values.now in
    let i = c.loop-value.value-index in
    let v = c.value-item.result in
    let fine = subst (AllByRecursion (IsFine c.args.version c.args.base)) (drop_at view values i v c.loop-value-test.true c.value-item.is) c.loop-value.invariant.fine in
    record {
      so_far =
          rw c.in_ok-push.ensures.items
          (zip_more (ReadsValue c.args.version c.args.base) view values i v c.loop-value.read.items c.in_ok-read_value.field-0 c.loop-value-test.true c.value-item.is c.loop-value.invariant.so_far c.in_ok-read_value.ensures);
      fine = fine.1;
    }
