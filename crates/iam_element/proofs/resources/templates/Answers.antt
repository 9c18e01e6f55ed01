use Rattle.std.proofs.Common.{◌≡◌, ◌++◌, ◌∙◌, ◌∷◌, [], ◌+◌, subst, take, None, List, ap, false, map, refl, sym, Some, true}
use Rattle.std.specs.List.{AllZip, filter_map, slice_get}
use Rattle.std.specs.Option.{option_map_or}
use Rattle.serde_json.specs.Find.{as_str}
use Rattle.serde_json.specs.View.{view}
use Rattle.iam_element.specs.Element.{is_text}
use Rattle.iam_element.specs.Grammar.{is_bad_variable}
use Rattle.iam_text.specs.declared.draft.Piece.{Piece}
use Rattle.iam_text.specs.Draft.{IsDraftIn}
use Rattle.iam_element.proofs.ElementLemmas.{item_at, none_at}
use Rattle.iam_element.proofs.GrammarLemmas.{drafted}
use Rattle.iam_element.proofs.ReadingLemmas.{zip_none, zip_some}
use Rattle.iam_element.proofs.resources.templates.Goals as goal
use Rattle.iam_element.proofs.resources.templates.Goals.{in-Some+in_ok-of+in_ok-push, in_default}

pub of-requires : goal.of-requires
of-requires c =
    let values = map view c.args.values.now in
    let at : slice_get values c.loop-value.value-index ≡ Some (view c.value-item.result) =
    item_at view c.args.values.now values c.loop-value.value-index c.value-item.result refl c.loop-value-test.true c.value-item.is in
    let clean : is_text (is_bad_variable c.args.version) (view c.value-item.result) ≡ false = none_at (is_text (is_bad_variable c.args.version)) values c.loop-value.value-index (view c.value-item.result) c.requires at in
    drafted c.args.version c.in-Some.text.now (ap (λ o. option_map_or (is_bad_variable c.args.version) o false) c.in-Some.ensures ∙ clean)

pub loop-value-preserved : goal.loop-value-preserved
loop-value-preserved c =
    let values = map view c.args.values.now in
    let i = c.loop-value.value-index in
    let at : slice_get values i ≡ Some (view c.value-item.result) =
    item_at view c.args.values.now values i c.value-item.result refl c.loop-value-test.true c.value-item.is in
    let P : List (List Piece) → Type 0 = λ ys. AllZip (IsDraftIn c.args.version true) (filter_map as_str (take (i + 1) values)) ys in
    elim c.match-as_str.branch [
      | in-Some+in_ok-of+in_ok-push w ↦ (
          let pushed : c.match-as_str.templates.items ≡ c.loop-value.templates.items ++ (w.in_ok-of.field-0 ∷ []) = ap (λ v. v.items) w.templates-is ∙ w.in_ok-push.ensures.items in
          subst P (sym pushed)
          (zip_some (IsDraftIn c.args.version true) as_str values i (view c.value-item.result) c.loop-value.templates.items w.in-Some.text.now w.in_ok-of.field-0 at (sym w.in-Some.ensures) c.loop-value.invariant w.in_ok-of.ensures)
          )
      | in_default w ↦ (
          let none : as_str (view c.value-item.result) ≡ None = sym w.in_default.ensures in
          let same : c.match-as_str.templates.items ≡ c.loop-value.templates.items = ap (λ v. v.items) w.templates-is in
          subst P (sym same) (zip_none (IsDraftIn c.args.version true) as_str values i (view c.value-item.result) c.loop-value.templates.items at none c.loop-value.invariant)
          )
    ]
