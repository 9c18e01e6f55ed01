use Rattle.std.proofs.Common.{◌≡◌, ◌++◌, ◌∷◌, [], ℕ, List, ap, map, sym, ◌∙◌}
use Rattle.std.proofs.lemmas.Bool.{eqb-true}
use Rattle.std.proofs.lemmas.List.{nil_from_length}
use Rattle.std.proofs.lemmas.Str.{chars-nil}
use Rattle.std.specs.Str.{chars}
use Rattle.iam_glob.specs.Glob.{sign_of}
use Rattle.iam_text.specs.declared.draft.Piece.{Piece}
use Rattle.iam_text.specs.Draft.{plain_draft}
use Rattle.iam_text.specs.Stretches.{piece_of}
use Rattle.iam_context.proofs.pattern.lone_variable.Goals as goal

pub returns-then-is_end : goal.returns-then-is_end
returns-then-is_end c =
    let wild = c.stretches.result.wild in
    let front = c.in_ok-front.front.now in
    let behind = c.in_ok-front.behind.pieces in
    let piece = piece_of c.in_ok-front.form in
    let before = λ (characters : List ℕ). plain_draft (map (sign_of wild) characters) ++ (piece ∷ behind) in
    let empty : front ≡ [] = nil_from_length front (eqb-true _ 0 (sym c.is_empty.ensures ∙ c.if-is_empty.true)) in
    sym c.stretches.ensures
    ∙ c.in_ok-front.ensures.0
    ∙ ap (λ text. before (chars text)) empty
    ∙ ap before chars-nil
    ∙ ap (λ (ps : List Piece). piece ∷ ps) (c.is_end.ensures c.if-is_end.true)
    ∙ ap (λ f. piece_of f ∷ []) c.in-Named.is
