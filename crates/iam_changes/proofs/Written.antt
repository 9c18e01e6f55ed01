-- The text of a report of changes, in parts, and the kinds of changes in it.
use Rattle.std.proofs.Common.{◌≡◌, ℕ, suc, ◌+◌, ◌<◌, ◌||◌, Bool, true, false, List, [], ◌∷◌, ◌++◌, drop, get_or, length, take, refl, sym, ap, ◌∙◌, arith}
use Rattle.std.specs.List.{flat_map}
use Rattle.std.proofs.lemmas.Grind.{flat_map-append}
use Rattle.std.proofs.lemmas.List.Concat.{flat_map-cons}
use Rattle.iam_row.specs.Code.ChangeParts.{changes_opening}
use Rattle.iam_row.specs.Piece.{closing_text}
use Rattle.iam_row.specs.declared.tail.Tail.{Tail}
use Rattle.iam_report.proofs.Buffered.{flat_map_at}
use Rattle.iam_tiles.specs.Code.Numbered.{no_tail}
use Rattle.iam_changes.specs.Code.Kept.{cell_behind, joined_kinds, no_kinds, row_at}
use Rattle.iam_changes.specs.Code.Pieces.{PartValue, ReportValue, lead_of, report_text, row_text, rows_in, rows_text}
use Rattle.iam_changes.specs.declared.change.Kinds.{Kinds}
use Rattle.iam_changes.specs.declared.text.Pieces.{Pieces}

-- the text of all rows is that of each part, one behind the other
pub parts_text : (pieces : Pieces) (parts : List PartValue) → flat_map (λ (part : PartValue). rows_text pieces part.rows) parts ≡ rows_text pieces (rows_in parts)
parts_text pieces [] = refl
parts_text pieces (part ∷ parts) =
    flat_map-cons (λ (p : PartValue). rows_text pieces p.rows) part parts ∙ ap (λ t. rows_text pieces part.rows ++ t) (parts_text pieces parts)
    ∙ sym (flat_map-append (row_text pieces) part.rows (rows_in parts)) ∙ ap (rows_text pieces) (sym (flat_map-cons (λ (p : PartValue). p.rows) part parts))

pub text_parts : (report whole : ReportValue) (rows : List (ℕ × Tail)) (front : List ℕ) → report ≡ whole → rows ≡ report.rows
    → front ≡ changes_opening report.pieces.after.format report.brief → report_text whole ≡ front ++ (rows_text report.pieces rows ++ closing_text report.pieces.after.format)
text_parts report whole rows front is e opens =
    let rest : List (ℕ × Tail) → List ℕ = λ rs. rows_text report.pieces rs ++ closing_text report.pieces.after.format in
    ap report_text (sym is) ∙ ap (λ t. t ++ rest report.rows) (sym opens) ∙ ap (λ rs. front ++ rest rs) (sym e)

-- the cell of the first row, where the parts before this one have none
pub lead_at : (parts : List PartValue) (i : ℕ) (part : PartValue) → i < length parts → part ≡ get_or parts i part → rows_in (take i parts) ≡ []
    → 0 < length part.rows → (row_at part 0).0 ≡ lead_of (rows_in parts)
lead_at parts i part inside is none some =
    let rest = rows_in (drop (i + 1) parts) in
    let whole : rows_in parts ≡ part.rows ++ rest =
    flat_map_at (λ (p : PartValue). p.rows) parts i part inside ∙ ap (λ rows. rows ++ ((get_or parts i part).rows ++ rest)) none
    ∙ ap (λ (p : PartValue). p.rows ++ rest) (sym is) in
    first_of part.rows rest some ∙ ap lead_of (sym whole)
  where
    first_of : (rows rest : List (ℕ × Tail)) → 0 < length rows → (get_or rows 0 (0, no_tail)).0 ≡ lead_of (rows ++ rest)
    first_of [] rest h = absurd (omega (arith, h))
    first_of (row ∷ rows) rest h = refl

-- the cell behind a row
pub behind_row : (part : PartValue) (i n : ℕ) → n ≡ suc i → cell_behind part n ≡ (row_at part i).0 + 1
behind_row part i n e = ap (cell_behind part) e

-- ---- kinds

same_kinds : (a b c x y z : Bool) → a ≡ x → b ≡ y → c ≡ z → ◌≡◌ {A = Kinds} (record { gained = a; lost = b; differs = c }) (record { gained = x; lost = y; differs = z })
same_kinds a b c x y z e f g =
    let kinds : Bool → Bool → Bool → Kinds = λ p q r. record { gained = p; lost = q; differs = r } in
    ap (λ p. kinds p b c) e ∙ ap (λ q. kinds x q c) f ∙ ap (kinds x y) g

either_both : (a b c : Bool) → ((a || b) || c) ≡ (a || (b || c))
either_both true b c = refl
either_both false b c = refl

either_none : (a : Bool) → (a || false) ≡ a
either_none true = refl
either_none false = refl

pub joined_both : (a b c : Kinds) → joined_kinds (joined_kinds a b) c ≡ joined_kinds a (joined_kinds b c)
joined_both a b c =
    same_kinds _ _ _ _ _ _ (either_both a.gained b.gained c.gained) (either_both a.lost b.lost c.lost) (either_both a.differs b.differs c.differs)

pub joined_none : (a : Kinds) → joined_kinds a no_kinds ≡ a
joined_none a = same_kinds _ _ _ _ _ _ (either_none a.gained) (either_none a.lost) (either_none a.differs)
