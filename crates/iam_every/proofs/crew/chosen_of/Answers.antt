use Rattle.std.proofs.Common.{rules, ◌≡◌, ◌↔◌, ◌∙◌, ◌<◌, ap, IsTrue, is_none, length, map, refl, sym, arith}
use Rattle.std.proofs.lemmas.List.{length-map}
use Rattle.std.specs.List.{list_any}
use Rattle.iam_element.proofs.ElementLemmas.{list_any_map}
use Rattle.iam_every.specs.Every.{RowValue, row_of}
use Rattle.iam_every.specs.declared.rows.Row.{Row}
use Rattle.iam_every.proofs.crew.chosen_of.Goals as goal

pub returns-clause-chosen : goal.returns-clause-chosen
returns-clause-chosen c =
    let items = c.in_ok-rows.rows.items in
    let some : IsTrue (mathlib.Core.Bool.not c.is_empty-some.result) ↔ (0 < length items) = search rules in
    let same : length (map row_of items) ≡ length items = length-map items row_of in
    record {
      principal = refl;
      rows = map row_of items;
      are = c.in_ok-rows.ensures.rows;
      wanted = search rules;
      some = (
        λ on. let less : 0 < length items = some.0 on in omega (arith, less, same),
        λ less. some.1 (omega (arith, less, same)),
      );
      unshown =
          c.has_unshown-unshown.ensures ∙ ap (list_any (λ (row : Row). is_none (row_of row).verdict)) c.as_slice.ensures.value
          ∙ sym (list_any_map (λ (row : RowValue). is_none row.verdict) row_of items);
    }
