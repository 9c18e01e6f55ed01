use Rattle.std.proofs.Common.{◌≡◌, ◌++◌, ◌∙◌, ap, sym, cond, not, true, false, Some, None, rules}
use Rattle.std.proofs.lemmas.Result.{err_from_is_err_and}
use Rattle.serde_json.specs.View.{view}
use Rattle.iam_shape.specs.Code.Walk.{account_back, account_front, checks_behind}
use Rattle.iam_shape.specs.Shape.{levels_checks, member}
use Rattle.iam_shape.specs.declared.path.Name.TheVariants.{Accounts, Org}
use Rattle.iam_shape.specs.declared.path.Path.TheVariants.{Item}
use Rattle.iam_shape.proofs.Walks.{first_bad_among, first_bad_behind, first_bad_here, shape_fault_from}
use Rattle.iam_shape.proofs.accounts.walk_account.Goals as goal

pub returns-in_err-id : goal.returns-in_err-id
returns-in_err-id c =
    let d = view c.args.account.now in
    let i = c.args.i in
    let p = err_from_is_err_and c.from_residual.result c.from_residual.ensures.1 in
    rw (p.1, p.2)
    (
    λ ids has last other.
    shape_fault_from (account_front ids i d) (checks_behind ids i d)
    (first_bad_here (account_front ids i d) (levels_checks Accounts i Org (member Org d) ++ account_back i d)) c.in_err-id.field-0.0
    (c.in_err-id.ensures d c.in-Some.ensures ids has last other)
    )

pub returns-in_err-org : goal.returns-in_err-org
returns-in_err-org c =
    let d = view c.args.account.now in
    let i = c.args.i in
    let p = err_from_is_err_and c.from_residual-in_err-org.result c.from_residual-in_err-org.ensures.1 in
    rw (p.1, p.2)
    (
    λ ids has last other.
    first_bad_among (account_front ids i d) (levels_checks Accounts i Org (member Org d)) (account_back i d) (c.in_ok-id.ensures d c.in-Some.ensures ids has last).0
    c.in_err-org.field-0.0 (c.in_err-org.ensures d c.in-Some.ensures.org)
    )

pub returns-then-members : goal.returns-then-members
returns-then-members c = λ ids has last other.
    let d = view c.args.account.now in
    let i = c.args.i in
    let other_names : c.in-Some.members.has_other ≡ true = search rules in
    first_bad_behind (account_front ids i d) (levels_checks Accounts i Org (member Org d)) (account_back i d) (c.in_ok-id.ensures d c.in-Some.ensures ids has last).0
    (c.in_ok-org.ensures d c.in-Some.ensures.org).0
    ∙ ap (λ b. cond b None (Some (Item Accounts i))) (sym c.in-Some.ensures.only ∙ ap not other_names)

pub returns : goal.returns
returns c = λ ids has last.
    let d = view c.args.account.now in
    let i = c.args.i in
    let other_names : c.in-Some.members.has_other ≡ false = search rules in
    let front = c.in_ok-id.ensures d c.in-Some.ensures ids has last in (
      first_bad_behind (account_front ids i d) (levels_checks Accounts i Org (member Org d)) (account_back i d) front.0 (c.in_ok-org.ensures d c.in-Some.ensures.org).0
          ∙ ap (λ b. cond b None (Some (Item Accounts i))) (sym c.in-Some.ensures.only ∙ ap not other_names),
      (record { id = front.1.0; management = front.1.1; org = (c.in_ok-org.ensures d c.in-Some.ensures.org).1 }, front.1.2),
    )
