-- The text of a report that was made whole, or is put together from pieces.
use Rattle.std.specs.Prelude.{ℕ, List}
use Rattle.iam_row.specs.Piece.{text_of}
use Rattle.iam_selection.specs.Code.Listing.{list_text}
use Rattle.iam_changes.specs.Code.Pieces as changes
use Rattle.iam_app.specs.declared.output.Report.{Report}
use Rattle.iam_app.specs.declared.output.Report.TheVariants.{Whole, Matrix, Rows, Changes}

abbrev pub report_text : Report → List ℕ
report_text (Whole text) = text.items
report_text (Matrix matrix) = text_of matrix
report_text (Rows rows) = list_text rows
report_text (Changes report) = changes.report_text report
