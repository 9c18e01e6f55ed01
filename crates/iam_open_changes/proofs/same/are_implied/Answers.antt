use Rattle.std.proofs.Common.{◌<◌, List, arith, length, map}
use Rattle.std.proofs.lemmas.List.{length-map}
use Rattle.std.specs.List.{Any}
use Rattle.iam_condition.specs.Entry.{EntryValue}
use Rattle.iam_match.proofs.StatementLemmas.{all_taken}
use Rattle.iam_open.proofs.ListLemmas.{at_map}
use Rattle.iam_open_changes.specs.Code.Implied.{Implies}
use Rattle.iam_open_changes.proofs.AllLemmas.{all_more}
use Rattle.iam_open_changes.proofs.same.are_implied.Goals as goal

pub loop-other-preserved : goal.loop-other-preserved
loop-other-preserved c =
    let others = c.args.others.now in
    let xs : List EntryValue = map (λ entry. entry.now) others in
    let i = c.loop-other.other-index in
    let inside : i < length others = c.loop-other-test.true in
    let below : i < length xs = omega (arith, length-map others (λ entry. entry.now), inside) in
    all_more (λ entry. Any (λ it. Implies it entry) c.args.entries.now) xs i c.other-item.result.now below
    (at_map (λ entry. entry.now) others i c.other-item.result inside c.other-item.is) c.loop-other.invariant
    (c.in_ok-is_implied.ensures c.if-not-branch.false)

pub returns : goal.returns
returns c = λ t.
    let others = c.args.others.now in
    let xs : List EntryValue = map (λ entry. entry.now) others in
    all_taken (λ entry. Any (λ it. Implies it entry) c.args.entries.now) xs c.loop-other.other-index
    (omega (arith, length-map others (λ entry. entry.now), c.loop-other-test.false)) c.loop-other.invariant
