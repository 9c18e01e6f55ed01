use Rattle.std.proofs.Common.{◌+◌, ◌<◌, ◌∙◌, ◌++◌, [], ℕ, List, All, ap, arith, length, length-append, string_bytes, subst, sym}
use Rattle.std.proofs.lemmas.List.{flat_map_more}
use Rattle.std.proofs.lemmas.List.Elements.{All-tail}
use Rattle.std.specs.List.{flat_map}
use Rattle.iam_open_every.specs.Code.Texts.{all_rows, named_rows, rows_in}
use Rattle.iam_open_every.specs.Report.{rows_text}
use Rattle.iam_open_every.specs.declared.crew.Chosen.{Chosen}
use Rattle.iam_open_every.specs.declared.rows.Row.{Row}
use Rattle.iam_open_every.proofs.ReportLemmas.{texts_more}
use Rattle.iam_open_every.proofs.report.texts.Goals as goal

pub loop-chosen-preserved : goal.loop-chosen-preserved
loop-chosen-preserved c =
    let format = c.args.format in
    let brief = c.args.brief in
    let world = c.args.world.now in
    let so_far = c.loop-chosen.invariant in
    let chosen = c.in-Some.chosen in
    let rest = c.next.new.self.rest.items in
    let steps = c.in-Some.ensures.steps.0 in
    let first = c.loop-chosen.first in
    let name = c.principal_text-principal.result.now in
    let texts = c.loop-chosen.texts.items in
    let text = c.in_ok-rows_text.field-0 in
    let same = c.as_slice-rows.ensures in
    let long = ap (λ (rows : List Row). length rows) same in
    let K : Chosen → Type 0 = λ x. x.principal < length world.principals in
    let count = ap (λ (l : List Chosen). length (rows_in l)) steps in
    let left : ℕ → List ℕ = λ k. rows_text format brief k (all_rows world rest) in
    let before = flat_map string_bytes texts in record {
      known = All-tail K chosen rest (subst (All K) steps so_far.known);
      few = omega (arith, so_far.few, long, count, length-append chosen.rows (rows_in rest));
      texts =
          texts_more format brief world chosen rest name first (rows_text format brief 0 (all_rows world c.args.all.items)) before (string_bytes text)
          (so_far.texts ∙ ap (λ (l : List Chosen). before ++ rows_text format brief first (all_rows world l)) steps) c.principal_text-principal.ensures
          (c.in_ok-rows_text.ensures ∙ ap (λ (rows : List Row). rows_text format brief first (named_rows name rows)) same)
          ∙ ap (λ t. t ++ left (first + length chosen.rows)) (flat_map_more string_bytes [] texts text ∙ ap (flat_map string_bytes) (sym c.in_ok-push.ensures.items))
          ∙ ap (λ (rows : List Row). flat_map string_bytes c.push.new.self.items ++ left (first + length rows)) (sym same);
    }
