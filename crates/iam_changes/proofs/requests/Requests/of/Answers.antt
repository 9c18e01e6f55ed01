use Rattle.std.proofs.Common.{◌+◌, ap, subst}
use Rattle.iam_world.specs.World.{WorldValue}
use Rattle.iam_changes.specs.Code.Found.{IsLeftCount}
use Rattle.iam_changes.proofs.Counts.{linked}
use Rattle.iam_changes.proofs.requests.Requests.of.Goals as goal

pub invariant_of-result : goal.invariant_of-result
invariant_of-result c =
    let before = c.args.before.now in
    let after = c.args.after.now in
    let count = c.count_left.result in
    let left = subst (λ (other : WorldValue). IsLeftCount before other count) c.in_ok-to_after.ensures.other
    (subst (λ (world : WorldValue). IsLeftCount world c.in_ok-to_after.to_after.other count) c.in_ok-to_after.ensures.world c.count_left.ensures.count) in
    linked c.one_triple.ensures.some before after count (c.cells.result + count) c.in_ok-to_before.to_before c.in_ok-to_after.to_after
    c.in_ok-to_before.ensures.world c.in_ok-to_before.ensures.other c.in_ok-to_after.ensures.world c.in_ok-to_after.ensures.other left
    (ap (λ n. n + count) c.cells.ensures.value)
