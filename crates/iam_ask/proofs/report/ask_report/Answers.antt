use Rattle.std.proofs.Common.{◌≡◌, ◌++◌, List, length, map, ap, sym, subst, ◌∙◌}
use Rattle.std.specs.List.{flat_map}
use Rattle.std.proofs.lemmas.List.{length-map}
use Rattle.iam_row.specs.Piece.{IsQuotedOf, closing_text, opening_text, tail_of}
use Rattle.iam_row.specs.declared.quoted.Format.{Format}
use Rattle.iam_row.specs.declared.tail.Tail.{Tail}
use Rattle.iam_matrix.proofs.Tails.{chain_tails}
use Rattle.iam_ask.specs.Code.Rows.{AskValue, IsAnswerTo, ask_text, rows_text}
use Rattle.iam_ask.specs.Report.{IsAskReport}
use Rattle.iam_ask.proofs.Made.{reported}
use Rattle.iam_ask.proofs.report.ask_report.Goals as goal

pub of-requires-2 : goal.of-requires-2
of-requires-2 g c =
    let all = chain_tails (IsAnswerTo c.args.brief c.args.requests.now) (tail_of c.args.format c.args.brief) 0 c.args.cut.now c.in_ok-tiles.tiles.items c.in_ok-tiles.ensures in
    ap (λ (ts : List Tail). length ts) all.2 ∙ length-map all.0 (tail_of c.args.format c.args.brief) ∙ all.1.count_is ∙ c.requires

pub returns-clause-ok : goal.returns-clause-ok
returns-clause-ok g c =
    let requests = c.args.requests.now in
    let format = c.args.format in
    let brief = c.args.brief in
    let quoted = c.in_ok-quoted.quoted in
    let all = chain_tails (IsAnswerTo brief requests) (tail_of format brief) 0 c.args.cut.now c.in_ok-tiles.tiles.items c.in_ok-tiles.ensures in
    let same = subst (λ w. IsQuotedOf w quoted) c.world-world.ensures c.in_ok-quoted.ensures.texts in
    let count : length (map (tail_of format brief) all.0) ≡ length requests.asked = length-map all.0 (tail_of format brief) ∙ all.1.count_is ∙ c.requires in
    let text = reported format brief requests quoted all.0 same c.in_ok-quoted.ensures.format all.1.each count in
    let T : List Tail → Type 0 = λ tails.
    IsAskReport format brief requests (opening_text format brief ++ (rows_text quoted requests.asked 0 tails ++ closing_text format)) in
    let tails = subst T (sym all.2) text in
    let F : Format → Type 0 = λ f.
    IsAskReport format brief requests (opening_text f brief ++ (rows_text quoted requests.asked 0 (flat_map (λ (tile : List Tail). tile) c.in_ok-tiles.tiles.items) ++ closing_text f)) in
    let A : AskValue → Type 0 = λ ask. IsAskReport format brief requests (ask_text ask) in
    subst A (sym c.of-2.ensures) (subst F (sym c.in_ok-quoted.ensures.format) tails)
