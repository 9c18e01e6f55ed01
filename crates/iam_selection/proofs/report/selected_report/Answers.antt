use Rattle.std.proofs.Common.{List, ◌++◌, sym, subst}
use Rattle.iam_row.specs.Piece.{closing_text, opening_text}
use Rattle.iam_row.specs.declared.quoted.Format.{Format}
use Rattle.iam_world.specs.World.{WorldValue}
use Rattle.iam_matrix.specs.Code.Tiles.{Chain}
use Rattle.iam_selection.specs.Report.{IsSelectedReport}
use Rattle.iam_selection.specs.Selection.{SelectionValue}
use Rattle.iam_selection.specs.Code.Listing.{AreFound, ListValue, RowValue, lead_of, list_text, rows_text}
use Rattle.iam_selection.proofs.Founds.{found_all}
use Rattle.iam_selection.proofs.Listings.{listing}
use Rattle.iam_selection.proofs.Written.{all_rows}
use Rattle.iam_selection.proofs.report.selected_report.Goals as goal

pub returns-clause-ok : goal.returns-clause-ok
returns-clause-ok g c =
    let world = c.args.world.now in
    let selection = c.args.selection.now in
    let format = c.args.format in
    let brief = c.args.brief in
    let quoted = c.in_ok-quoted.quoted in
    let lengths = c.args.cut.now in
    let tiles = c.in_ok-tiles.tiles.items in
    let C : SelectionValue → WorldValue → Type 0 = λ s w. Chain (λ from n (rows : List RowValue). AreFound format brief s w from n rows) 0 lengths tiles in
    let chained = subst (C selection) c.in_ok-index.ensures (subst (λ s. C s c.in_ok-index.index) c.in_ok-picker.ensures.selection c.in_ok-tiles.ensures) in
    let rows = all_rows tiles in
    let found = subst (λ n. AreFound format brief selection world 0 n rows) c.requires (found_all format brief selection world 0 lengths tiles chained) in
    let text = listing format brief selection world quoted rows c.in_ok-quoted.ensures.texts c.in_ok-quoted.ensures.format found in
    let F : Format → Type 0 = λ f.
    IsSelectedReport format brief selection world (opening_text f brief ++ (rows_text quoted (lead_of rows) rows ++ closing_text f)) in
    let L : ListValue → Type 0 = λ list. IsSelectedReport format brief selection world (list_text list) in
    subst L (sym c.of-3.ensures) (subst F (sym c.in_ok-quoted.ensures.format) text)
