use Rattle.std.proofs.Common.{◌+◌, ◌/◌, ap, arith, ◌∙◌, subst, string_bytes}
use Rattle.std.proofs.lemmas.Result.{MatchResult-weaker}
use Rattle.iam_crew.specs.Bound.{bound_of}
use Rattle.iam_open.specs.Asked.{asked_of}
use Rattle.iam_open.specs.Code.Parts.{IsFirstIn}
use Rattle.iam_open.proofs.FirstLemmas.{first_whole, tiles_never}
use Rattle.iam_open.proofs.first.first_turned_report.Goals as goal

pub returns : goal.returns
returns g c =
    let world = c.args.world.now in
    let asked = asked_of c.args.asked in
    let gathered = c.in_ok-gathered.gathered in
    let cells = c.cells-cells.result in
    let each = cells / 4096 + 1 in
    let all = tiles_never asked world each (bound_of gathered.low) gathered.outputs.items (omega arith)
    (c.in_ok-gathered.ensures.count ∙ ap (λ n. n / each + 1) c.cells-cells.ensures.value) c.in_ok-gathered.ensures.given in
    MatchResult-weaker c.header_and.result c.header_and.ensures
    (
    λ text is.
    first_whole asked world c.low_of-from.result (λ cell inside below. all cell inside (omega (arith, below, c.low_of-from.ensures))) c.in_ok-found.found
    (subst (λ n. IsFirstIn asked world c.low_of-from.result n c.in_ok-found.found) c.cells-cells.ensures.value c.in_ok-found.ensures) (string_bytes text) is
    )
    (λ _ _. tt)
