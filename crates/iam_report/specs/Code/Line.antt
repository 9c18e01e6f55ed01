-- Rows that share what stands beside the number of their cells.
use Rattle.std.specs.Prelude.{◌≡◌, ℕ, Bool, List, [], ◌++◌, codes, decimal, get_or}
use Rattle.iam_report.specs.Code.Front.{FrontValue}
use Rattle.iam_tiles.specs.Code.Numbered.{no_tail}
use Rattle.iam_row.specs.Piece.{pieces_at}
use Rattle.iam_row.specs.Report.{CellTexts}
use Rattle.iam_row.specs.declared.position.Position.{Position}
use Rattle.iam_row.specs.declared.quoted.Format.{Format}
use Rattle.iam_row.specs.declared.quoted.Format.TheVariants.{Csv, Json}
use Rattle.iam_row.specs.declared.quoted.Quoted.{Quoted}
use Rattle.iam_row.specs.declared.tail.Tail.{Tail}

-- a line: the texts of the report, the tails of its rows, and the front that was made last, and for which cell, principal,
-- action and tail
pub record LineValue : Type 0 where
  pub quoted : Quoted
  pub tails : List Tail
  pub front : FrontValue
  pub is_made : Bool
  pub cell : ℕ
  pub principal : ℕ
  pub action : ℕ
  pub tail : ℕ

-- what stands before the number of a cell that is not the first, by the text of its action
abbrev pub before_of : Format → List ℕ → List ℕ
before_of Csv action = []
before_of Json action = codes "," ++ action

-- what stands between the number and the resource, by the texts of the principal and the action and the front of the tail
abbrev pub behind_of : Format → List ℕ → List ℕ → List ℕ → List ℕ
behind_of Csv principal action front = principal ++ action
behind_of Json principal action front = front ++ principal

abbrev pub tail_at : List Tail → ℕ → Tail
tail_at tails n = get_or tails n no_tail

-- a front with the texts of this principal, this action and this tail
pub record HasSides (quoted : Quoted) (tails : List Tail) (p a n : ℕ) (front : FrontValue) : Type 0 where
  pub before : front.before ≡ before_of quoted.format (get_or quoted.actions a [])
  pub behind : front.behind ≡ behind_of quoted.format (get_or quoted.principals p []) (get_or quoted.actions a []) (tail_at tails n).front

-- a row, from its pieces; what stands before an object is given
abbrev pub text_behind : Format → List ℕ → ℕ → CellTexts → Tail → List ℕ
text_behind Csv comma cell pieces tail = decimal cell ++ (pieces.principal ++ (pieces.action ++ (pieces.resource ++ tail.back)))
text_behind Json comma cell pieces tail =
    comma ++ (pieces.action ++ (decimal cell ++ (tail.front ++ (pieces.principal ++ (pieces.resource ++ tail.back)))))

abbrev pub row_behind : Quoted → List ℕ → Position → Tail → List ℕ
row_behind quoted comma at tail = text_behind quoted.format comma at.cell (pieces_at quoted at) tail
