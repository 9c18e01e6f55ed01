use Rattle.std.proofs.Common.{◌≡◌, ◌*◌, ◌+◌, ◌<◌, ◌/◌, ℕ, Some, length, ap, sym, ◌∙◌, subst, arith}
use Rattle.std.proofs.lemmas.Option.{slice_get-get_or}
use Rattle.iam_layers.specs.Cell.{IsDecisionAt}
use Rattle.iam_classes.proofs.SpanLemmas.{decided_is}
use Rattle.iam_classes.proofs.span.Known.decision.Goals as goal

pub returns : goal.returns
returns c = λ world p a r below (action, all).
    let number = a / 64 in
    let k = c.args.self.action in
    let i = c.args.i in
    let decided = c.in_ok-decided.field-0.now in
    let is : 64 * number + k ≡ a = omega (arith, action) in
    let under : 64 * number + k < length world.actions = omega (arith, is, below) in
    let found = c.in_ok-decided.ensures.lookup in
    let all_at = slice_get-get_or c.args.self.decided.now i decided found.3.0 ∙ ap Some (sym found.1) in
    let D : ℕ → Type 0 = λ n. IsDecisionAt world p n (r + i) c.at.result in
    subst D is
    (decided_is world p (r + i) number k decided c.at.result c.found_decide.ensures c.acting_are_found.ensures.found c.rows_find.ensures
    (all i decided all_at) c.requires under c.at.ensures)
