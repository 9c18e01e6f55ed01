use Rattle.std.proofs.Common.{◌<◌, arith}
use Rattle.iam_text.specs.Arn.{colons}
use Rattle.iam_text.proofs.ArnLemmas.{few_parts, five_cuts, arn_unique}
use Rattle.iam_text.proofs.arn.Arn.cut.Goals as goal

pub returns-in_err-partition-clause-no_parts : goal.returns-in_err-partition-clause-no_parts
returns-in_err-partition-clause-no_parts c =
    let few : colons c.args.text.now < 5 = omega (arith, c.in_ok-prefix.ensures.2, c.in_err-partition.ensures) in
    few_parts c.from_residual-in_err-partition.result c.args.text.now few

pub returns-in_err-service-clause-no_parts : goal.returns-in_err-service-clause-no_parts
returns-in_err-service-clause-no_parts c =
    let few : colons c.args.text.now < 5 = omega (arith, c.in_ok-prefix.ensures.2, c.in_ok-partition.ensures.2, c.in_err-service.ensures) in
    few_parts c.from_residual-in_err-service.result c.args.text.now few

pub returns-in_err-region-clause-no_parts : goal.returns-in_err-region-clause-no_parts
returns-in_err-region-clause-no_parts c =
    let few : colons c.args.text.now < 5 =
    omega (arith, c.in_ok-prefix.ensures.2, c.in_ok-partition.ensures.2, c.in_ok-service.ensures.2, c.in_err-region.ensures) in
    few_parts c.from_residual-in_err-region.result c.args.text.now few

pub returns-in_err-account-clause-no_parts : goal.returns-in_err-account-clause-no_parts
returns-in_err-account-clause-no_parts c =
    let few : colons c.args.text.now < 5 =
    omega (
      arith,
      c.in_ok-prefix.ensures.2,
      c.in_ok-partition.ensures.2,
      c.in_ok-service.ensures.2,
      c.in_ok-region.ensures.2,
      c.in_err-account.ensures,
    ) in
    few_parts c.from_residual-in_err-account.result c.args.text.now few

pub returns-clause-only : goal.returns-clause-only
returns-clause-only c = λ parts other.
    arn_unique _ parts c.args.text.now
    (
    five_cuts c.args.text.now c.in_ok-prefix.rest.now c.in_ok-partition.rest.now c.in_ok-service.rest.now c.in_ok-region.rest.now
    c.in_ok-prefix.prefix.now c.in_ok-partition.partition.now c.in_ok-service.service.now c.in_ok-region.region.now
    c.in_ok-account.account.now c.in_ok-account.resource.now
    c.in_ok-prefix.ensures c.in_ok-partition.ensures c.in_ok-service.ensures c.in_ok-region.ensures c.in_ok-account.ensures
    )
    other
