-- Rows of changes as they are kept: the cells without a row before each, and what is said before and after.
use Rattle.std.specs.Prelude.{ℕ, zero, suc, ◌+◌, List, [], ◌∷◌, Option, None, Some, Bool, true, false, get_or, if◌then◌else◌, option_map, ◌||◌}
use Rattle.iam_decision.specs.declared.verdict.Verdict.{Verdict}
use Rattle.iam_row.specs.Piece.{bare}
use Rattle.iam_row.specs.declared.changes.Change.{Change}
use Rattle.iam_row.specs.declared.changes.Change.TheVariants.{Gained, Lost, Differs}
use Rattle.iam_row.specs.declared.quoted.Format.{Format}
use Rattle.iam_row.specs.declared.tail.Tail.{Tail}
use Rattle.iam_tiles.specs.Code.Numbered.{no_tail}
use Rattle.iam_changes.specs.Change.{ChangeValue, verdict_of}
use Rattle.iam_changes.specs.Code.Pieces.{PartValue, pair_tail}
use Rattle.iam_changes.specs.declared.change.Kinds.{Kinds}
use Rattle.iam_changes.specs.declared.pair.Pair.{Pair}

-- what would stand where a number has no pair
abbrev pub no_pair : Pair
no_pair = record { before = None; after = None }

-- what is kept of a change: what is said before and after, or in brief the decisions
abbrev pub kept_said : Bool → Option Verdict → Option Verdict
kept_said true said = option_map (λ verdict. bare verdict.decision) said
kept_said false said = said

abbrev pub pair_of : Bool → Option Verdict → Option Verdict → Pair
pair_of brief before after = record { before = kept_said brief before; after = kept_said brief after }

abbrev pub pair_in : Bool → ChangeValue → Pair
pair_in brief change = pair_of brief (verdict_of change.before) (verdict_of change.after)

-- the change of a request, by whether it is allowed before and after, and whether it differs otherwise
abbrev pub change_by : Bool → Bool → Bool → Option Change
change_by false true differs = Some Gained
change_by true false differs = Some Lost
change_by false false differs = if differs then Some Differs else None
change_by true true differs = if differs then Some Differs else None

-- ---- kinds of changes

abbrev pub no_kinds : Kinds
no_kinds = record { gained = false; lost = false; differs = false }

abbrev pub with_kind : Kinds → Change → Kinds
with_kind kinds Gained = record kinds { gained = true }
with_kind kinds Lost = record kinds { lost = true }
with_kind kinds Differs = record kinds { differs = true }

abbrev pub joined_kinds : Kinds → Kinds → Kinds
joined_kinds kinds others =
    record { gained = kinds.gained || others.gained; lost = kinds.lost || others.lost; differs = kinds.differs || others.differs }

-- ---- rows by their gaps

-- items at cells from this one on, each behind so many others
abbrev pub placed : {A : Type 0} → ℕ → List ℕ → List A → List (ℕ × A)
placed from [] items = []
placed from (gap ∷ gaps) [] = []
placed from (gap ∷ gaps) (item ∷ items) = (from + gap, item) ∷ placed (from + gap + 1) gaps items

-- the cell behind the last
abbrev pub end_of : ℕ → List ℕ → ℕ
end_of from [] = from
end_of from (gap ∷ gaps) = end_of (from + gap + 1) gaps

-- rows that are gathered, the cell behind the last, and the kinds of changes
pub record GatheredValue : Type 0 where
  pub rows : List (ℕ × Pair)
  pub end : ℕ
  pub kinds : Kinds

-- a row as it stands in a part
abbrev pub part_row : Format → Bool → ℕ × Pair → ℕ × Tail
part_row format brief row = (row.0, pair_tail format brief row.1)

-- row i of a part, and the cell behind the row before it
abbrev pub row_at : PartValue → ℕ → ℕ × Tail
row_at part i = get_or part.rows i (0, no_tail)

abbrev pub cell_behind : PartValue → ℕ → ℕ
cell_behind part zero = part.from
cell_behind part (suc i) = (row_at part i).0 + 1

-- the kinds of changes of parts
abbrev pub kinds_in : List PartValue → Kinds
kinds_in [] = no_kinds
kinds_in (part ∷ parts) = joined_kinds part.kinds (kinds_in parts)
