use Rattle.std.proofs.Common.{List, subst, sym, arith}
use Rattle.std.specs.List.{flat_map}
use Rattle.iam_row.specs.Piece.{MatrixValue, text_of}
use Rattle.iam_row.specs.declared.quoted.Format.{Format}
use Rattle.iam_row.specs.declared.tail.Tail.{Tail}
use Rattle.iam_world.specs.World.{WorldValue}
use Rattle.iam_matrix.specs.Report.{IsMatrixReport}
use Rattle.iam_matrix.specs.Code.Tiles.{AreTailsOf, Chain}
use Rattle.iam_matrix.proofs.Tails.{count_tails, report}
use Rattle.iam_matrix.proofs.report.matrix_report.Goals as goal

pub of-requires-2 : goal.of-requires-2
of-requires-2 g c =
    let lengths = c.args.cut.now in
    let tiles = c.in_ok-tiles.tiles.items in
    let W : WorldValue → Type 0 = λ w. Chain (λ from n (output : List Tail). AreTailsOf c.args.format c.args.brief w from n output) 0 lengths tiles in
    let chained = subst W c.in_ok-index.ensures c.in_ok-tiles.ensures in
    omega (arith, count_tails c.args.format c.args.brief c.args.world.now lengths tiles chained, c.requires, c.cells-cells.ensures.value, c.cells-cells.ensures.few)

pub returns-clause-ok : goal.returns-clause-ok
returns-clause-ok g c =
    let world = c.args.world.now in
    let lengths = c.args.cut.now in
    let brief = c.args.brief in
    let quoted = c.in_ok-quoted.quoted in
    let tiles = c.in_ok-tiles.tiles.items in
    let W : WorldValue → Type 0 = λ w. Chain (λ from n (output : List Tail). AreTailsOf c.args.format brief w from n output) 0 lengths tiles in
    let chained = subst W c.in_ok-index.ensures c.in_ok-tiles.ensures in
    let same = c.in_ok-quoted.ensures.format in
    let F : Format → Type 0 = λ f. Chain (λ from n (output : List Tail). AreTailsOf f brief world from n output) 0 lengths tiles in
    let whole = report brief world quoted lengths tiles (c.full_texts.ensures world) (c.brief_texts.ensures world) c.in_ok-quoted.ensures.texts c.requires (subst F (sym same) chained) in
    let P : Format → Type 0 = λ f. IsMatrixReport f brief world (text_of (record { quoted = quoted; brief = brief; tails = flat_map (λ (tile : List Tail). tile) tiles })) in
    let Q : MatrixValue → Type 0 = λ matrix. IsMatrixReport c.args.format brief world (text_of matrix) in
    subst Q (sym c.of-2.ensures) (subst P same whole)
