use Rattle.std.proofs.Common.{◌≡◌, Some, ap, sym, ◌∙◌}
use Rattle.std.proofs.lemmas.Option.{slice_get-get_or}
use Rattle.std.specs.List.{slice_get}
use Rattle.iam_index.proofs.numbers.told_at.Goals as goal

pub returns : goal.returns
returns c = λ world statements standing text right numbered at asked.
    let numbers = c.args.numbers.now in
    let i = c.args.i in
    let number = c.in_ok-number.number in
    let found = c.in_ok-get.field-0.now in
    let (_, first, _, (inside, _), _) = c.in_ok-get.ensures.lookup in
    let is : found ≡ Some number = c.in_ok-number.was in
    let there : slice_get numbers i ≡ Some (Some number) = slice_get-get_or numbers i found inside ∙ ap Some (sym first) ∙ ap Some is in
    c.act.ensures world standing.statement.now.action text right (numbered i number standing there at) asked
