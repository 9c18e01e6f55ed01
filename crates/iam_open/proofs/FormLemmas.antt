-- What a text asks for beyond what is known, form by form.
use Rattle.std.proofs.Common.{◌≡◌, ◌∙◌, ℕ, List, [], ◌∷◌, ◌++◌, Bool, false, ◌||◌, refl, ap}
use Rattle.std.proofs.lemmas.List.Folds.{list_any-append}
use Rattle.iam_glob.specs.declared.sign.Sign.{Sign}
use Rattle.iam_open.specs.Code.Known.{piece_beyond, text_beyond}
use Rattle.iam_text.specs.Draft.{plain_draft}
use Rattle.iam_text.specs.declared.draft.Piece.{Piece}

-- plain text asks for nothing
pub plain_beyond : (known : List (List ℕ)) (signs : List Sign) → text_beyond known (plain_draft signs) ≡ false
plain_beyond known [] = refl
plain_beyond known (sign ∷ signs) = plain_beyond known signs

-- over plain text and the piece behind it
pub over_front : (known : List (List ℕ)) (pieces rest : List Piece) (front : List Sign) (piece : Piece) → pieces ≡ plain_draft front ++ (piece ∷ rest)
    → text_beyond known pieces ≡ (piece_beyond known piece || text_beyond known rest)
over_front known pieces rest front piece is =
    ap (text_beyond known) is ∙ list_any-append (piece_beyond known) (plain_draft front) (piece ∷ rest)
    ∙ ap (λ (b : Bool). b || (piece_beyond known piece || text_beyond known rest)) (plain_beyond known front)
