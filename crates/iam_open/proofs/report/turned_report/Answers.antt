use Rattle.std.proofs.Common.{◌≡◌, ◌∙◌, ◌+◌, ◌*◌, ◌/◌, ◌<◌, ◌++◌, ℕ, Global, List, [], String, ap, arith, length, string_bytes, subst}
use Rattle.std.proofs.Math.Nat.{add-mul, lt-div-mul-add}
use Rattle.std.proofs.lemmas.Result.{MatchResult-weaker}
use Rattle.iam_world.specs.World.{world_cells}
use Rattle.iam_open.specs.Asked.{asked_of}
use Rattle.iam_open.specs.Code.Parts.{IsPart, all_together, from_of, to_of}
use Rattle.iam_open.specs.Rows.{opening_text}
use Rattle.iam_row.specs.Piece.{closing_text}
use Rattle.iam_row.specs.declared.quoted.Format.{Format}
use Rattle.iam_open.proofs.PartLemmas.{all_parts, part_none}
use Rattle.iam_open.proofs.report.turned_report.Goals as goal

pub returns : goal.returns
returns g c =
    let world = c.args.world.now in
    let format = c.args.format in
    let made = c.in_ok-quoted.ensures.format in
    let brief = c.args.brief in
    let asked = asked_of c.args.asked in
    let outputs : List (String Global) = c.in_ok-gathered.gathered.outputs.items in
    let each = c.cells.result / 4096 + 1 in
    let some : 0 < each = omega arith in
    let beyond : c.cells-2.result < c.cells-2.result / each * each + each = lt-div-mul-add some in
    let tiles : (c.cells-2.result / each + 1) * each ≡ c.cells-2.result / each * each + each = omega (arith, add-mul (c.cells-2.result / each) 1 each) in
    let F : ℕ → List ℕ → Type 0 = λ n text. IsPart format brief asked world 0 n text in
    let start : 0 ≡ from_of world each 0 = omega arith in
    let all = all_parts format brief asked world each 0 outputs [] (subst (λ n. F n []) start (part_none format brief asked world 0)) (
    λ i part at.
    let place : i ≡ 0 + i = omega arith in
    subst (λ n. IsPart format brief asked world (from_of world each n) (to_of world each n) (string_bytes part)) place (subst (λ (f : Format). IsPart f brief asked world (from_of world each i) (to_of world each i) (string_bytes part)) made (c.in_ok-gathered.ensures.given i part at))
    ) in
    let count : 0 + length outputs ≡ c.cells-2.result / each + 1 = omega (arith, c.in_ok-gathered.ensures.count) in
    let end : from_of world each (0 + length outputs) ≡ world_cells world =
    ap (from_of world each) count ∙ omega (arith, tiles, beyond, c.cells-2.ensures.value) in
    let whole : F (world_cells world) (all_together format [] outputs) = subst (λ n. F n (all_together format [] outputs)) end all in
    MatchResult-weaker c.between.result c.between.ensures
    (
    λ text is.
    record {
      told = whole.told;
      count = omega (arith, whole.count);
      each = whole.each;
      is =
          is ∙ ap (λ it. it ++ (c.as_str.result.now ++ c.closing.result.now)) c.opening.ensures
          ∙ ap (λ it. opening_text format brief ++ (it ++ c.closing.result.now)) (c.as_str.ensures.value ∙ c.in_ok-rows.ensures)
          ∙ ap (λ it. opening_text format brief ++ (all_together format [] it ++ c.closing.result.now)) c.as_slice.ensures.value
          ∙ ap (λ it. opening_text format brief ++ (all_together format [] outputs ++ it)) c.closing.ensures
          ∙ ap (λ it. opening_text format brief ++ (it ++ closing_text format)) whole.is;
    }
    )
    (λ _ _. tt)
