use Rattle.std.proofs.Common.{◌≡◌, ◌++◌, true, false, sym, ◌∙◌, ap}
use Rattle.std.proofs.lemmas.List.{append_cancel_left}
use Rattle.iam_context.specs.Code.ArnParts.{is_of_account, path_from}
use Rattle.iam_context.proofs.PathLemmas.{path_test}
use Rattle.iam_context.proofs.ArnLemmas.{parts_of, parts_is_arn, parts_from_cut, parts_pass, same_parts}
use Rattle.iam_context.proofs.arn.parts_behind.Goals as goal
use Rattle.iam_context.proofs.arn.parts_behind.Goals.{else-is_of_account-via-then-is_of_account+else-is_path, else-is_of_account-via-else-is_of_account}

pub returns-in_err-path-clause-value : goal.returns-in_err-path-clause-value
returns-in_err-path-clause-value c =
    rw c.from_residual-in_err-path.ensures
    (
    λ r p.
    let a = c.in_ok-parts.parts in
    let pass =
    parts_pass r c.args.arn.now c.args.word.now a.prefix.now a.partition.now a.service.now a.region.now a.account.now a.resource.now p
    (c.in_ok-parts.ensures.only (parts_of c.args.word.now r) (parts_is_arn c.args.arn.now c.args.word.now r p)) in
    c.in_err-path.ensures.cases r.path pass.1
    )

pub returns-then-is_path-clause-value : goal.returns-then-is_path-clause-value
returns-then-is_path-clause-value c =
    let a = c.in_ok-parts.parts in
    let strip = c.in_ok-path.ensures.cases in
    parts_from_cut c.args.arn.now c.args.word.now a.prefix.now a.partition.now a.service.now a.region.now a.account.now a.resource.now
    c.in_ok-path.path.now c.in_ok-parts.ensures.parts (sym c.is_of_account.ensures ∙ c.if-is_of_account.true)
    (strip.1.1 ∙ ap (λ p. c.args.word.now ++ p) (sym strip.2))
    (ap (path_from false) (sym c.as_bytes.ensures.value) ∙ sym c.is_path.ensures ∙ c.if-is_path.true)

pub returns-then-is_path-clause-only : goal.returns-then-is_path-clause-only
returns-then-is_path-clause-only c = λ other p.
    let a = c.in_ok-parts.parts in
    let strip = c.in_ok-path.ensures.cases in
    same_parts other c.args.word.now a.prefix.now a.partition.now a.service.now a.region.now a.account.now a.resource.now c.in_ok-path.path.now
    (c.in_ok-parts.ensures.only (parts_of c.args.word.now other) (parts_is_arn c.args.arn.now c.args.word.now other p))
    (strip.1.1 ∙ ap (λ p. c.args.word.now ++ p) (sym strip.2))

pub returns-else-is_of_account-clause-value : goal.returns-else-is_of_account-clause-value
returns-else-is_of_account-clause-value c = λ r p.
    let a = c.in_ok-parts.parts in
    let pass =
    parts_pass r c.args.arn.now c.args.word.now a.prefix.now a.partition.now a.service.now a.region.now a.account.now a.resource.now p
    (c.in_ok-parts.ensures.only (parts_of c.args.word.now r) (parts_is_arn c.args.arn.now c.args.word.now r p)) in
    elim c.else-is_of_account.branch [
      | else-is_of_account-via-then-is_of_account+else-is_path w ↦ (
          let strip = c.in_ok-path.ensures.cases in
          let path_is : r.path ≡ c.in_ok-path.path.now =
          append_cancel_left c.args.word.now r.path c.in_ok-path.path.now (sym pass.1 ∙ strip.1.1 ∙ ap (λ p. c.args.word.now ++ p) (sym strip.2)) in
          let fails : path_from false c.in_ok-path.path.now ≡ false = ap (path_from false) (sym w.as_bytes.ensures.value) ∙ sym w.is_path.ensures ∙ w.if-is_path.false in
          let holds : path_from false r.path ≡ true = (path_test r.path).1 p.path in
          let wrong : true ≡ false = sym holds ∙ ap (path_from false) path_is ∙ fails in
          cc
          )
      | else-is_of_account-via-else-is_of_account w ↦ (
          let holds : is_of_account a.prefix.now a.partition.now a.service.now a.region.now a.account.now ≡ true = pass.0 in
          let fails : is_of_account a.prefix.now a.partition.now a.service.now a.region.now a.account.now ≡ false = sym c.is_of_account.ensures ∙ w.if-is_of_account.false in
          cc
          )
    ]
