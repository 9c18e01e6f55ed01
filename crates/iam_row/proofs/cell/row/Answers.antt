use Rattle.std.proofs.Common.{◌≡◌, ◌++◌, ◌∙◌, List, ℕ, Vec, Global, ap, subst}
use Rattle.iam_row.specs.Code.Parts.{IsRowOf, pieces_in}
use Rattle.iam_row.specs.Piece.{opening_text, pieces_of, row_text, tail_of}
use Rattle.iam_row.specs.Report.{CellTexts}
use Rattle.iam_row.specs.declared.quoted.Format.TheVariants.{Csv}
use Rattle.iam_row.specs.declared.tail.Tail.{Tail}
use Rattle.iam_row.proofs.cell.row.Goals as goal

pub returns : goal.returns
returns c p a r is =
    let cell = c.args.cell in
    let brief = c.args.brief in
    let verdict = c.args.verdict.now in
    let has = c.in_ok-pieces.ensures in
    let pieces : CellTexts = pieces_in c.in_ok-pieces.pieces in
    let tail = c.in_ok-tail.tail in
    let opening = opening_text Csv brief in
    let whole : c.into_bytes.result.items ≡ opening ++ row_text Csv cell (pieces_of Csv has.0) (tail_of Csv brief verdict) =
    ap (λ (v : Vec ℕ Global). v.items) c.into_bytes.ensures.value ∙ c.in_ok-text.ensures ∙ ap (λ (t : List ℕ). t ++ row_text Csv cell pieces tail) c.opening.ensures
    ∙ ap (λ (ps : CellTexts). opening ++ row_text Csv cell ps tail) has.2
    ∙ ap (λ (t : Tail). opening ++ row_text Csv cell (pieces_of Csv has.0) t) c.in_ok-tail.ensures in
    let P : ℕ × ℕ × ℕ → Type 0 = λ t. IsRowOf c.args.world.now cell t.0 t.1 t.2 brief verdict c.into_bytes.result.items in
    subst P (c.triple-p.ensures.only p a r is) (has.0, has.1, whole)
