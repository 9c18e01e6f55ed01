use Rattle.std.proofs.Common.{sym, subst}
use Rattle.std.specs.List.{AllByRecursion}
use Rattle.serde_json.specs.View.{view}
use Rattle.iam_condition.specs.Code.Reading.{IsFineGiven}
use Rattle.iam_condition.proofs.ReadingLemmas.{all_fine}
use Rattle.iam_condition.proofs.reading.read_entries.Goals as goal

pub read_keys-requires : goal.read_keys-requires
read_keys-requires c =
    rw c.as_slice.ensures.value
    (subst (AllByRecursion (IsFineGiven c.args.version)) (sym c.in_ok-keys.ensures) (all_fine c.args.version (view c.args.condition.now) c.requires.texts c.requires.values))
