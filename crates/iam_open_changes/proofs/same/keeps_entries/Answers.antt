use Rattle.std.proofs.Common.{All, List, subst}
use Rattle.std.proofs.lemmas.Result.{IfOk-weaker}
use Rattle.std.specs.List.{Any}
use Rattle.iam_condition.specs.Entry.{EntryValue}
use Rattle.iam_open_changes.specs.Code.Implied.{Implies}
use Rattle.iam_open_changes.specs.Code.Kept.{KeptValue}
use Rattle.iam_open_changes.proofs.same.keeps_entries.Goals as goal

pub returns : goal.returns
returns c =
    let Are : List EntryValue → List EntryValue → Type 0 = λ entries others. All (λ entry. Any (λ it. Implies it entry) entries) others in
    IfOk-weaker c.are_implied.result _ _
    (λ yes are is.
    subst (λ (k : KeptValue). Are k.standing.statement.conditions c.args.other.now.entries) c.one.view_is
    (subst (λ (k : KeptValue). Are c.one.inside.standing.statement.now.conditions k.entries) c.other.view_is
    (rw (c.conditions.ensures, c.as_slice.ensures.value) at (are is))))
    c.are_implied.ensures
