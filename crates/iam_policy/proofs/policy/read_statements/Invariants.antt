use Rattle.std.proofs.Common.{◌≡◌, take, vec_len}
use Rattle.std.specs.List.{AllZip}
use Rattle.serde_json.specs.View.{view}
use Rattle.iam_policy.specs.Code.First.{AreFaultless}
use Rattle.iam_policy.specs.Code.Sids.{HasSids}
use Rattle.iam_policy.specs.Fault.{statements_in, sids_before}
use Rattle.iam_policy.specs.Reading.{ReadsStatement}
use Rattle.iam_policy.specs.Version.{version_of}
use Rattle.iam_policy.proofs.policy.read_statements.Given as goal

abbrev pub invariant-loop-number : goal.invariant-loop-number
invariant-loop-number l = record {
  sids : HasSids l.sids (sids_before (view l.document) l.number);
  clean : AreFaultless l.kind (view l.document) l.number;
  read : AllZip (ReadsStatement (version_of (view l.document))) (take l.number (statements_in (view l.document))) l.read.items;
  len : vec_len l.read ≡ l.number;
}
