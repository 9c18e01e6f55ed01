use Rattle.std.proofs.Common.{◌≡◌, IfSome, List, Option, Some, ap, sym, ◌∙◌, subst}
use Rattle.std.proofs.lemmas.Option.{slice_get-get_or}
use Rattle.std.specs.List.{slice_get}
use Rattle.iam_element.specs.Reading.{ResourceElement}
use Rattle.iam_columns.specs.Rows.{TellsMatch}
use Rattle.iam_columns.specs.declared.rows.Row.{Row}
use Rattle.iam_columns.proofs.ListLemmas.{some_same}
use Rattle.iam_columns.proofs.rows.Rows.matches.Goals as goal

pub returns : goal.returns
returns c = λ world element right has.
    let rows = c.args.self.now.rows.items in
    let n = c.in_ok-number.number in
    let found = c.in_ok-found.found.now in
    let (_, first, _, (inside, _), _) = c.in_ok-found.ensures.lookup in
    let R : List Row → Type 0 = λ rs. slice_get rs n ≡ Some found in
    let there = subst R c.deref.ensures.value (slice_get-get_or c.deref.result.now n found inside ∙ ap Some (sym first)) in
    let (other, at, same) = rw c.in_ok-number.was at has in
    let own : found ≡ other = some_same found other (sym there ∙ at) in
    let A : Option ResourceElement → Type 0 = λ e. IfSome c.tells.result (TellsMatch world e c.args.r) in
    subst A (ap (λ (x : Row). Some x.element.now) own ∙ same) (c.tells.ensures world (right n found there))
