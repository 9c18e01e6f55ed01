use Rattle.std.proofs.Common.{sym, subst}
use Rattle.std.specs.Prelude.{IsUtf8}
use Rattle.iam_row.proofs.Fields.{field_is_utf8}
use Rattle.iam_row.proofs.quoted.csv_field.Goals as goal

pub unwrap-requires : goal.unwrap-requires
unwrap-requires c = c.from_utf8.ensures.succeeds (subst IsUtf8 (sym c.in_ok-bytes.ensures) (field_is_utf8 c.args.text.now c.utf8.text))
