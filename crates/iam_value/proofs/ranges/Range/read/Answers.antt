use Rattle.iam_value.specs.Reading.{IsReading}
use Rattle.iam_value.specs.Address.{Block, IsRange}
use Rattle.iam_value.proofs.Cuts.{the_answer}
use Rattle.iam_value.proofs.Addresses.{slash_cut, host_reading, range_cut, network_reading, same_range}
use Rattle.iam_value.proofs.ranges.Range.read.Goals as goal

none : (c : goal.After-from_residual) → (range : Block) → ¬ (IsRange c.args.text.now range)
none c range is =
    let cut = rw c.in-Some.is at (slash_cut c.args.text.now c.split_once.result c.split_once.ensures.cases) in
    let p = range_cut c.args.text.now c.in-Some.address.now c.in-Some.prefix.now range cut is in
    c.in_err-octet-in-Some.ensures p.0 (rw c.as_bytes.ensures.value p.2)

pub returns-in_err-octet-in-Some-clause-value : goal.returns-in_err-octet-in-Some-clause-value
returns-in_err-octet-in-Some-clause-value c = rw c.from_residual.ensures (none c)

pub returns-in_err-octet-in-Some-clause-only : goal.returns-in_err-octet-in-Some-clause-only
returns-in_err-octet-in-Some-clause-only c = λ range is. absurd (none c range is)

host : (c : goal.After-all_of) → IsReading c.all_of.result (IsRange c.args.text.now)
host c = host_reading c.args.text.now c.all_of.result (rw c.in-None.is at (slash_cut c.args.text.now c.split_once.result c.split_once.ensures.cases)) c.all_of.ensures

pub returns-in-None-clause-value : goal.returns-in-None-clause-value
returns-in-None-clause-value c = host c

pub returns-in-None-clause-only : goal.returns-in-None-clause-only
returns-in-None-clause-only c = the_answer c.all_of.result (IsRange c.args.text.now) (same_range c.args.text.now) (host c)

network : (c : goal.After-first_of) → IsReading c.first_of.result (IsRange c.args.text.now)
network c =
    let cut = rw c.in-Some.is at (slash_cut c.args.text.now c.split_once.result c.split_once.ensures.cases) in
    network_reading c.args.text.now c.in-Some.address.now c.in-Some.prefix.now c.in_ok-octet-in-Some.field-0 c.first_of.result cut (rw c.as_bytes.ensures.value at c.in_ok-octet-in-Some.ensures) c.first_of.ensures

pub returns-in_ok-octet-in-Some-clause-value : goal.returns-in_ok-octet-in-Some-clause-value
returns-in_ok-octet-in-Some-clause-value c = network c

pub returns-in_ok-octet-in-Some-clause-only : goal.returns-in_ok-octet-in-Some-clause-only
returns-in_ok-octet-in-Some-clause-only c = the_answer c.first_of.result (IsRange c.args.text.now) (same_range c.args.text.now) (network c)
