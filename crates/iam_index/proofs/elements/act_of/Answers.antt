use Rattle.std.proofs.Common.{◌≡◌, Bool, Bor, List, Some, ap, sym, ◌∙◌}
use Rattle.std.proofs.lemmas.Option.{slice_get-get_or}
use Rattle.std.specs.List.{slice_get}
use Rattle.iam_index.proofs.ElementLemmas.{row_at}
use Rattle.iam_index.proofs.elements.act_of.Goals as goal

pub returns : goal.returns
returns c = λ world living s text rows at asked.
    let row : Bor (List Bool) = c.in_ok-row.row.now in
    let act = c.in_ok-act.field-0.now in
    let (_, first, _, (inside, _), _) = c.in_ok-row.ensures.lookup in
    let (_, second, _, (within, _), _) = c.in_ok-act.ensures.lookup in
    let there : slice_get c.args.rows.now c.args.i ≡ Some row = slice_get-get_or c.args.rows.now c.args.i row inside ∙ ap Some (sym first) in
    let here : slice_get row.now c.args.a ≡ Some act = slice_get-get_or row.now c.args.a act within ∙ ap Some (sym second) in
    row_at world living c.args.rows.now c.args.i s row rows at there c.args.a act text here asked
