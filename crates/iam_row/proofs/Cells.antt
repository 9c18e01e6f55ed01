-- Positions that are counted up are the cells of a world, and the rows there are those of the report.
use Rattle.std.proofs.Common.{◌≡◌, ℕ, ◌+◌, ◌*◌, ◌<◌, Bool, true, false, nat_lt, List, [], ◌∷◌, ◌++◌, length, map, refl, sym, ap, ◌∙◌, subst, arith, append_assoc, append-nil}
use Rattle.std.proofs.lemmas.Bool.Decides.{nat_tests}
use Rattle.std.proofs.lemmas.List.{length-map}
use Rattle.std.proofs.Math.Nat.{add-mul, lt_of_mul-lt-mul_right, mul_comm}
use Rattle.iam_decision.specs.declared.verdict.Decision.{Decision}
use Rattle.iam_decision.specs.declared.verdict.Verdict.{Verdict}
use Rattle.iam_world.specs.World.{WorldValue, world_cells}
use Rattle.iam_layers.specs.Cell.{IsCell}
use Rattle.iam_row.specs.Piece.{IsQuotedOf, brief_tail, cell_row, closing_text, first_position, full_tail, next_by, next_in, next_of, opening_text, pieces_of, row_at, row_text, rows_text, text_of}
use Rattle.iam_row.specs.Report.{CellTexts, IsReport, brief_layout, full_layout}
use Rattle.iam_row.specs.declared.position.Position.{Position}
use Rattle.iam_row.specs.declared.quoted.Quoted.{Quoted}
use Rattle.iam_row.specs.declared.tail.Tail.{Tail}
use Rattle.iam_row.proofs.Rendered.{brief_rendered, full_rendered}
use Rattle.iam_row.proofs.Reports.{brief_is_report, full_is_report}
use Rattle.iam_row.proofs.Rows.{AddsRows, adds_both, adds_none, adds_one, texts_there}
use Rattle.iam_row.proofs.Texts.{pieces_there}

-- the position is that of a cell
abbrev pub IsAt : WorldValue → Position → Type 0
IsAt world at = IsCell world at.cell at.principal at.action at.resource

-- the next place in rows of n places
next_place : (i n j m : ℕ) → m ≡ i * n + j → n ≡ j + 1 → m + 1 ≡ (i + 1) * n + 0
next_place i n j m e last = omega (arith, e, last, add-mul i 1 n)

-- it is in a row of these, where it is a place of these
next_row : (i k n m : ℕ) → m ≡ (i + 1) * n + 0 → m < k * n → i + 1 < k
next_row i k n m e less = let below : (i + 1) * n < k * n = omega (arith, e, less) in lt_of_mul-lt-mul_right n below

next_by_is : (world : WorldValue) (at : Position) (r a : Bool) → IsAt world at → at.cell + 1 < world_cells world
    → (r ≡ true → at.resource + 1 < length world.resources) → (r ≡ false → length world.resources ≡ at.resource + 1)
    → (a ≡ true → at.action + 1 < length world.actions) → (a ≡ false → length world.actions ≡ at.action + 1)
    → IsAt world (next_by r a at)
next_by_is world at true a is more inside last inner outer = record {
  principal = is.principal;
  action = is.action;
  resource = inside refl;
  number = omega (arith, is.number);
}
next_by_is world at false true is more inside last inner outer =
    let n = length world.resources in
    let row : at.principal * length world.actions + at.action + 1 ≡ at.principal * length world.actions + (at.action + 1) = omega arith in record {
      principal = is.principal;
      action = inner refl;
      resource = omega (arith, is.resource);
      number = next_place _ n at.resource at.cell is.number (last refl) ∙ ap (λ i. i * n + 0) row;
    }
next_by_is world at false false is more inside last inner outer =
    let m = length world.actions in
    let n = length world.resources in
    let row = at.principal * m + at.action in
    let number : at.cell + 1 ≡ (row + 1) * n + 0 = next_place row n at.resource at.cell is.number (last refl) in
    let next : row + 1 ≡ (at.principal + 1) * m + 0 = next_place at.principal m at.action row refl (outer refl) in
    let below : row + 1 < length world.principals * m = next_row row (length world.principals * m) n (at.cell + 1) number more in record {
      principal = next_row at.principal (length world.principals) m (row + 1) next below;
      action = omega (arith, is.action);
      resource = omega (arith, is.resource);
      number = number ∙ ap (λ i. i * n + 0) next;
    }

tested : (i n m : ℕ) → m ≡ n → nat_lt i m ≡ true → i < n
tested i n m e h = grind (arith, nat_tests)

untested : (i n m : ℕ) → m ≡ n → i < n → nat_lt (i + 1) m ≡ false → n ≡ i + 1
untested i n m e below h = grind (arith, nat_tests)

-- the next position is that of the next cell
pub next_there : (world : WorldValue) (actions resources : ℕ) (at : Position) → actions ≡ length world.actions → resources ≡ length world.resources
    → IsAt world at → at.cell + 1 < world_cells world → IsAt world (next_of actions resources at)
next_there world actions resources at e f is more =
    next_by_is world at _ _ is more
    (tested (at.resource + 1) (length world.resources) resources f)
    (untested at.resource (length world.resources) resources f is.resource)
    (tested (at.action + 1) (length world.actions) actions e)
    (untested at.action (length world.actions) actions e is.action)

next_is : (world : WorldValue) (quoted : Quoted) (at : Position) → IsQuotedOf world quoted → IsAt world at → at.cell + 1 < world_cells world
    → IsAt world (next_in quoted at)
next_is world quoted at same is more =
    next_there world (length quoted.actions) (length quoted.resources) at (ap length same.actions ∙ simp length-map)
    (ap length same.resources ∙ simp length-map) is more

next_number : (r a : Bool) (at : Position) → (next_by r a at).cell ≡ at.cell + 1
next_number true a at = refl
next_number false true at = refl
next_number false false at = refl

-- cell 0, where there is one
first_is : (world : WorldValue) → 0 < world_cells world → IsAt world first_position
first_is world some =
    let p = length world.principals in
    let m = length world.actions in
    let n = length world.resources in
    let all : 0 * n < p * m * n = omega (arith, some) in
    let rows : 0 < p * m = lt_of_mul-lt-mul_right n all in
    let outer : 0 * m < p * m = omega (arith, rows) in
    let inner : 0 * p < m * p = omega (arith, rows, mul_comm p m) in
    let last : 0 * (p * m) < n * (p * m) = omega (arith, some, mul_comm (p * m) n) in record {
      principal = lt_of_mul-lt-mul_right m outer;
      action = lt_of_mul-lt-mul_right p inner;
      resource = lt_of_mul-lt-mul_right (p * m) last;
      number = omega arith;
    }

-- all rows from a position on
all_rows : {A : Type 0} (world : WorldValue) (quoted : Quoted) (row : ℕ → CellTexts → A → List ℕ) (tail : A → Tail) → IsQuotedOf world quoted
    → ((cell : ℕ) (texts : CellTexts) (x : A) → row_text quoted.format cell (pieces_of quoted.format texts) (tail x) ≡ row cell texts x)
    → (at : Position) (xs : List A) (start : List ℕ) → at.cell + length xs ≡ world_cells world → (at.cell < world_cells world → IsAt world at)
    → AddsRows world row at.cell xs start (start ++ rows_text quoted at (map tail xs))
all_rows world quoted row tail same is at [] start count there =
    subst (λ t. AddsRows world row at.cell [] start t) (sym (append-nil start)) (adds_none world row at.cell start)
all_rows {A} world quoted row tail same is at (x ∷ xs) start count there =
    let here : IsAt world at = there (omega (arith, count)) in
    let texts = texts_there world at.cell at.principal at.action at.resource here in
    let mid = start ++ row_at quoted at (tail x) in
    let next = next_in quoted at in
    let number : next.cell ≡ at.cell + 1 = next_number _ _ at in
    let first : AddsRows world row at.cell (x ∷ []) start mid =
    adds_one world row at.cell texts.0 x start mid (at.principal, at.action, at.resource, here, texts.1)
    (ap (λ t. start ++ t)
    (ap (λ pieces. row_text quoted.format at.cell pieces (tail x)) (pieces_there world quoted at texts.0 same texts.1) ∙ is at.cell texts.0 x)) in
    let rest : AddsRows world row next.cell xs mid (mid ++ rows_text quoted next (map tail xs)) =
    all_rows world quoted row tail same is next xs mid (omega (arith, count, number))
    (λ less. next_is world quoted at same here (omega (arith, less, number))) in
    let behind : AddsRows world row (at.cell + 1) xs mid (mid ++ rows_text quoted next (map tail xs)) =
    subst (λ c. AddsRows world row c xs mid (mid ++ rows_text quoted next (map tail xs))) number rest in
    subst (λ t. AddsRows world row at.cell (x ∷ xs) start t) (append_assoc start (row_at quoted at (tail x)) (rows_text quoted next (map tail xs)))
    (adds_both world row at.cell (x ∷ []) xs start mid _ first behind)

pub full_are_report : (world : WorldValue) (quoted : Quoted) (verdicts : List Verdict) → IsQuotedOf world quoted → length verdicts ≡ world_cells world
    → IsReport full_layout quoted.format world verdicts (text_of (record { quoted = quoted; brief = false; tails = map (full_tail quoted.format) verdicts }))
full_are_report world quoted verdicts same count =
    let opening = opening_text quoted.format false in
    let rows = rows_text quoted first_position (map (full_tail quoted.format) verdicts) in
    let adds = all_rows world quoted (cell_row full_layout quoted.format) (full_tail quoted.format) same (full_rendered quoted.format) first_position verdicts opening (omega (arith, count)) (first_is world) in
    subst (IsReport full_layout quoted.format world verdicts) (append_assoc opening rows (closing_text quoted.format))
    (full_is_report world quoted.format verdicts (opening ++ rows) adds)

pub brief_are_report : (world : WorldValue) (quoted : Quoted) (decisions : List Decision) → IsQuotedOf world quoted → length decisions ≡ world_cells world
    → IsReport brief_layout quoted.format world decisions (text_of (record { quoted = quoted; brief = true; tails = map (brief_tail quoted.format) decisions }))
brief_are_report world quoted decisions same count =
    let opening = opening_text quoted.format true in
    let rows = rows_text quoted first_position (map (brief_tail quoted.format) decisions) in
    let adds = all_rows world quoted (cell_row brief_layout quoted.format) (brief_tail quoted.format) same (brief_rendered quoted.format) first_position decisions opening (omega (arith, count)) (first_is world) in
    subst (IsReport brief_layout quoted.format world decisions) (append_assoc opening rows (closing_text quoted.format))
    (brief_is_report world quoted.format decisions (opening ++ rows) adds)
