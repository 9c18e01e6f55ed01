use Rattle.std.proofs.Common.{◌∙◌, sym}
use Rattle.iam_open_changes.proofs.LookLemmas.{known_found}
use Rattle.iam_open_changes.proofs.same.has_same_known.Goals as goal

pub returns : goal.returns
returns c = λ t.
    known_found c.args.before c.args.after c.world_part.result.now.items c.world_part-2.result.now.items c.principal_part.result.now.items
    c.principal_part-2.result.now.items c.part.result.now.items c.part-2.result.now.items c.world_part.ensures c.world_part-2.ensures
    (sym c.as_slice.ensures.value ∙ c.are_same_entries.ensures c.if-not-are_same_entries.false ∙ c.as_slice-2.ensures.value)
    c.principal_part.ensures c.principal_part-2.ensures
    (sym c.as_slice-3.ensures.value ∙ c.are_same_entries-2.ensures c.if-not-are_same_entries-2.false ∙ c.as_slice-4.ensures.value)
    c.part.ensures c.part-2.ensures
    (sym c.as_slice-5.ensures.value ∙ c.are_same_entries-3.ensures t ∙ c.as_slice-6.ensures.value)
