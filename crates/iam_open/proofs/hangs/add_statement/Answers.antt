use Rattle.std.proofs.Common.{◌∙◌, List, Option, ℕ, ap, sym}
use Rattle.std.proofs.lemmas.Result.{on_ok_weaker}
use Rattle.std.specs.List.{flat_map}
use Rattle.iam_condition.specs.Entry.{EntryValue}
use Rattle.iam_element.specs.Reading.{ResourceElement}
use Rattle.iam_open.specs.Asks.{all_added, element_keys, entry_keys}
use Rattle.iam_open.proofs.AskLemmas.{all_added_append}
use Rattle.iam_open.proofs.hangs.add_statement.Goals as goal

pub returns : goal.returns
returns c =
    let known = c.args.known.now in
    let before = c.args.keys.now.items in
    let s = c.args.statement.now in
    let entries = flat_map entry_keys s.conditions in
    on_ok_weaker c.add_conditions.result
    (λ is.
    is ∙ ap (λ (es : List EntryValue). all_added known c.add_element.new.keys.items (flat_map entry_keys es)) c.conditions.ensures
    ∙ ap (λ (keys : List (List ℕ)). all_added known keys entries)
    (c.in_ok-add_element.ensures ∙ ap (λ (e : Option ResourceElement). all_added known before (element_keys e)) c.resource.ensures)
    ∙ sym (all_added_append known before (element_keys s.resource) entries))
    c.add_conditions.ensures
