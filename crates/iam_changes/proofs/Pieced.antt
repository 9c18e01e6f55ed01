-- The row of a change of a cell of a world, from the pieces of the world's texts.
use Rattle.std.proofs.Common.{◌≡◌, ℕ, ◌+◌, ◌-◌, ◌/◌, ◌%◌, ◌<◌, ◌≤◌, Bool, List, if◌then◌else◌, length, max, ap, subst, ◌∙◌, arith}
use Rattle.std.proofs.lemmas.Bool.{le-ltb, lt-ltb}
use Rattle.std.proofs.lemmas.List.{length-map}
use Rattle.std.proofs.Math.Nat.{max-eq_left}
use Rattle.iam_layers.specs.Cell.{IsCell}
use Rattle.iam_layers.proofs.CellLemmas.{cell_parts}
use Rattle.iam_world.specs.World.{ResourceValue, WorldValue}
use Rattle.iam_row.specs.Code.ChangeParts.{change_action, change_pieces, change_row, text_behind}
use Rattle.iam_row.specs.Piece.{pieces_at, resource_piece}
use Rattle.iam_row.specs.Report.{CellTexts, IsCellTexts}
use Rattle.iam_row.specs.declared.quoted.Format.{Format}
use Rattle.iam_row.specs.declared.quoted.Quoted.{Quoted}
use Rattle.iam_row.specs.declared.tail.Tail.{Tail}
use Rattle.iam_row.proofs.Rows.{one_texts, texts_there}
use Rattle.iam_report.specs.Code.Place.{comma_of, position_in}
use Rattle.iam_changes.specs.Change.{ChangeValue, Changes}
use Rattle.iam_changes.specs.Code.Kept.{pair_in}
use Rattle.iam_changes.specs.Code.Pieces.{ArePiecesOf, pair_tail, row_behind, row_text}
use Rattle.iam_changes.specs.Report.{row_of}
use Rattle.iam_changes.specs.declared.text.Pieces.{Pieces}
use Rattle.iam_changes.proofs.Cells.{inside}
use Rattle.iam_changes.proofs.Rendered.{rendered}
use Rattle.iam_changes.proofs.Texts.{pieces_there}

-- as many pieces as there are, where there is one
one_at_least : (n m : ℕ) → n ≡ m → 0 < m → max n 1 ≡ m
one_at_least n m e some = let most : 1 ≤ n = omega (arith, e, some) in max-eq_left most ∙ e

-- the pieces of a cell's texts
pieces_in : (world : WorldValue) (quoted : Quoted) (cell : ℕ) (texts : CellTexts) → ArePiecesOf world quoted → IsCellTexts world cell texts
    → pieces_at quoted (position_in quoted cell) ≡ change_pieces quoted.format texts
pieces_in world quoted cell texts same is =
    let P = length world.principals in
    let A = length world.actions in
    let R = length world.resources in
    let parts = cell_parts P A R cell (inside world cell texts is) in
    let here : IsCell world cell (cell / R / A) (cell / R % A) (cell % R) = record { principal = parts.0; action = parts.1; resource = parts.2; number = parts.3 } in
    let there = texts_there world cell (cell / R / A) (cell / R % A) (cell % R) here in
    let one : there.0 ≡ texts = one_texts world cell there.0 texts (cell / R / A, cell / R % A, cell % R, here, there.1) is in
    let at : ℕ → ℕ → CellTexts = λ r a. pieces_at quoted (record { cell = cell; principal = cell / r / a; action = cell / r % a; resource = cell % r }) in
    let resources : max (length quoted.resources) 1 ≡ R =
    one_at_least (length quoted.resources) R
    (ap (λ (xs : List (List ℕ)). length xs) same.resources ∙ length-map world.resources (λ (resource : ResourceValue). resource_piece quoted.format resource.arn)) (omega (arith, parts.2)) in
    let actions : max (length quoted.actions) 1 ≡ A =
    one_at_least (length quoted.actions) A
    (ap (λ (xs : List (List ℕ)). length xs) same.actions ∙ length-map world.actions (change_action quoted.format)) (omega (arith, parts.1)) in
    ap (λ r. at r (max (length quoted.actions) 1)) resources ∙ ap (at R) actions
    ∙ pieces_there world quoted (record { cell = cell; principal = cell / R / A; action = cell / R % A; resource = cell % R }) there.0 same there.1
    ∙ ap (change_pieces quoted.format) one

-- the row of a change of a cell
change_behind : (world : WorldValue) (quoted : Quoted) (format : Format) (brief all : Bool) (comma : List ℕ) (cell : ℕ) (change : ChangeValue) → ArePiecesOf world quoted → quoted.format ≡ format
    → IsCellTexts world cell change.texts → Changes all change.before change.after change.change
    → row_behind quoted comma cell (pair_tail format brief (pair_in brief change)) ≡ change_row format brief comma (row_of change)
change_behind world quoted format brief all comma cell change same made is changed =
    let tail : Format → Tail = λ f. pair_tail f brief (pair_in brief change) in
    let Q : Format → Type 0 = λ f. row_behind quoted comma cell (tail f) ≡ change_row f brief comma (row_of change) in
    subst Q made
    (ap (λ pieces. text_behind quoted.format comma pieces (tail quoted.format)) (pieces_in world quoted cell change.texts same is)
    ∙ rendered quoted.format brief all comma change changed)

-- the row of a change among those of two worlds, of a cell of AFTER, and of one of BEFORE
pub row_after : (world : WorldValue) (pieces : Pieces) (format : Format) (brief all : Bool) (cell : ℕ) (change : ChangeValue) → ArePiecesOf world pieces.after → pieces.after.format ≡ format
    → cell < pieces.cells → IsCellTexts world cell change.texts → Changes all change.before change.after change.change
    → row_text pieces (cell, pair_tail format brief (pair_in brief change)) ≡ change_row format brief (comma_of pieces.lead cell) (row_of change)
row_after world pieces format brief all cell change same made below is changed =
    let tail = pair_tail format brief (pair_in brief change) in
    let comma = comma_of pieces.lead cell in
    ap (λ b. if b then row_behind pieces.after comma cell tail else row_behind pieces.before comma (cell - pieces.cells) tail) (lt-ltb cell pieces.cells below)
    ∙ change_behind world pieces.after format brief all comma cell change same made is changed

pub row_before : (world : WorldValue) (pieces : Pieces) (format : Format) (brief all : Bool) (cell own : ℕ) (change : ChangeValue) → ArePiecesOf world pieces.before → pieces.before.format ≡ format
    → cell ≡ pieces.cells + own → IsCellTexts world own change.texts → Changes all change.before change.after change.change
    → row_text pieces (cell, pair_tail format brief (pair_in brief change)) ≡ change_row format brief (comma_of pieces.lead cell) (row_of change)
row_before world pieces format brief all cell own change same made number is changed =
    let tail = pair_tail format brief (pair_in brief change) in
    let comma = comma_of pieces.lead cell in
    let past : pieces.cells ≤ cell = omega (arith, number) in
    let left : cell - pieces.cells ≡ own = omega (arith, number) in
    ap (λ b. if b then row_behind pieces.after comma cell tail else row_behind pieces.before comma (cell - pieces.cells) tail) (le-ltb cell pieces.cells past)
    ∙ ap (λ n. row_behind pieces.before comma n tail) left
    ∙ change_behind world pieces.before format brief all comma own change same made is changed
