use Rattle.std.proofs.Common.{inl, Some, ap, sym, ◌∙◌}
use Rattle.std.proofs.lemmas.Option.{slice_get-get_or}
use Rattle.iam_index.proofs.numbers.numbers_at.Goals as goal

pub returns-in-Some : goal.returns-in-Some
returns-in-Some c =
    let list = c.in-Some.numbers.now in
    let (_, first, _, (inside, _), _) = c.in-Some.ensures.lookup in
    inl (list, slice_get-get_or c.args.known.now c.args.k list inside ∙ ap Some (sym first), c.as_slice.ensures.value)
