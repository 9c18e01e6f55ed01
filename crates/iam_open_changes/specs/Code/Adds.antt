-- Rows that are put behind others: their text, and their kinds.
use Rattle.std.specs.Prelude.{◌≡◌, ◌++◌, ◌||◌, List, [], ◌∷◌, Bool, false, string_bytes}
use Rattle.iam_open_changes.specs.Rows.{RowValue, kinds_of, rows_behind}
use Rattle.iam_open_changes.specs.declared.rows.Kinds.{Kinds}
use Rattle.iam_open_changes.specs.declared.rows.Part.{Part}
use Rattle.iam_row.specs.declared.quoted.Format.{Format}

abbrev pub joined_kinds : Kinds → Kinds → Kinds
joined_kinds kinds others =
    record { gained = kinds.gained || others.gained; lost = kinds.lost || others.lost; unknown = kinds.unknown || others.unknown }

abbrev pub no_kinds : Kinds
no_kinds = record { gained = false; lost = false; unknown = false }

-- the kinds of parts behind others
abbrev pub kinds_with : Kinds → List Part → Kinds
kinds_with kinds [] = kinds
kinds_with kinds (part ∷ parts) = kinds_with (joined_kinds kinds part.kinds) parts

-- these rows were put behind those of a part
pub record Adds (format : Format) (brief : Bool) (old : Part) (rows : List RowValue) (new : Part) : Type 0 where
  pub text : string_bytes new.text ≡ string_bytes old.text ++ rows_behind format brief rows
  pub kinds : new.kinds ≡ joined_kinds old.kinds (kinds_of rows)
