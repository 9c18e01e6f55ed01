use Rattle.std.proofs.Common.{◌≡◌, ◌++◌, ◌∙◌, List, Some, [], ap, append-nil, arith, drop, map, option_map}
use Rattle.std.proofs.lemmas.List.{drop_all}
use Rattle.iam_decision.specs.Code.Scan.{placed_value}
use Rattle.iam_glob.specs.declared.sign.Sign.{Sign}
use Rattle.iam_every.specs.Groups.{groups_of}
use Rattle.iam_open_every.specs.Groups.{groups_at}
use Rattle.iam_open_every.proofs.GroupLemmas.{open_groups}
use Rattle.iam_open_every.proofs.groups.open_groups.Goals as goal

pub returns-clause-alike : goal.returns-clause-alike
returns-clause-alike c =
    let known = c.args.known.now in
    let context = c.args.context.now in
    let statements = c.args.statements.now in
    let groups = groups_of c.loop-standing.groups.items in
    let behind : drop c.loop-standing.standing-index statements ≡ [] =
    drop_all c.loop-standing.standing-index statements (omega (arith, c.loop-standing-test.false)) in
    open_groups known context (map placed_value statements) groups (
    c.loop-standing.invariant
    ∙ ap (λ xs. option_map (λ rest. groups ++ rest) (groups_at known context (map placed_value xs))) behind
    ∙ ap (λ (gs : List (List (List Sign))). Some gs) (append-nil groups)
    )
