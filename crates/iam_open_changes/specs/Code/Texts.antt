-- Texts of a request that are lent.
use Rattle.iam_open_changes.specs.declared.row.Texts.{Texts}
use Rattle.iam_row.specs.Report.{CellTexts}

abbrev pub texts_of : Texts → CellTexts
texts_of texts = record { principal = texts.principal.now; action = texts.action.now; resource = texts.resource.now }
