use Rattle.std.proofs.Common.{rules}
use Rattle.iam_value.specs.Address.{IsAddress}
use Rattle.iam_value.specs.Reading.{IsReading}
use Rattle.iam_value.proofs.Addresses.{same_address}
use Rattle.iam_value.proofs.Cuts.{the_answer}
use Rattle.iam_value.proofs.ranges.Address.read.Goals as goal

reading : (c : goal.After-map) → IsReading c.map.result (IsAddress c.args.text.now)
reading c = search rules

pub returns-clause-only : goal.returns-clause-only
returns-clause-only c = the_answer c.map.result (IsAddress c.args.text.now) (same_address c.args.text.now) (reading c)
