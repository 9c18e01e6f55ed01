use Rattle.std.proofs.Common.{subst}
use Rattle.std.specs.List.{AllByRecursion}
use Rattle.iam_condition.specs.Code.Reading.{IsFineGiven, given_of}
use Rattle.iam_condition.specs.Condition.{ReadsEntry}
use Rattle.iam_condition.proofs.ReadingLemmas.{drop_at, zip_more}
use Rattle.iam_condition.proofs.reading.read_keys.Goals as goal

pub loop-key-preserved : goal.loop-key-preserved
loop-key-preserved c =
    let keys = c.args.keys.now in
    let i = c.loop-key.key-index in
    let k = c.key-item.result in
    let fine = subst (AllByRecursion (IsFineGiven c.args.version)) (drop_at given_of keys i k c.loop-key-test.true c.key-item.is) c.loop-key.invariant.fine in
    record {
      so_far =
          rw c.in_ok-push.ensures.items
          (zip_more (ReadsEntry c.args.version) given_of keys i k c.loop-key.entries.items c.in_ok-read_key.field-0 c.loop-key-test.true c.key-item.is c.loop-key.invariant.so_far c.in_ok-read_key.ensures);
      fine = fine.1;
    }
