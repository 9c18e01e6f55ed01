use Rattle.std.proofs.Common.{◌<◌, get_or, length, map, ap, sym, ◌∙◌, arith}
use Rattle.std.proofs.lemmas.Option.{slice_get-get_or}
use Rattle.iam_decision.specs.Code.Scan.{placed_value}
use Rattle.iam_index.proofs.lists.is_same_list.Goals as goal

pub returns-then-number-lists : goal.returns-then-number-lists
returns-then-number-lists c = λ same.
    let lists = c.args.lists.now in
    let n = c.args.number in
    let found = c.index-lists-number.result in
    let within : n < length lists = omega (arith, c.if-number-lists.true) in
    (get_or lists n found, slice_get-get_or lists n found within, ap (map placed_value) (sym c.as_slice.ensures.value) ∙ c.are_all_equal.ensures same)
