use Rattle.std.proofs.Common.{◌≡◌, ◌∙◌, subst}
use Rattle.std.specs.Bool.{Decides, one_answer}
use Rattle.std.specs.Cmp.Lexicographic.{pointwise}
use Rattle.iam_context.specs.Context.{ContextValue}
use Rattle.iam_asked.specs.Code.Own.{same_entry}
use Rattle.iam_asked.proofs.OwnLemmas.{same_own-Decides}
use Rattle.iam_asked.proofs.own.OwnPartialEq.eq.Goals as goal

pub returns : goal.returns
returns c =
    let one = c.as_slice.ensures.value ∙ c.self.view_is in
    let two = c.as_slice-2.ensures.value ∙ c.other.view_is in
    let told : Decides c.are_same_entries.result (c.args.self.now ≡ c.args.other.now) =
    subst (λ (b : ContextValue). Decides c.are_same_entries.result (c.args.self.now ≡ b)) two
    (subst (λ (a : ContextValue). Decides c.are_same_entries.result (a ≡ c.as_slice-2.result.now)) one c.are_same_entries.ensures) in
    one_answer c.are_same_entries.result (pointwise same_entry c.args.self.now c.args.other.now) told (same_own-Decides c.args.self.now c.args.other.now)
