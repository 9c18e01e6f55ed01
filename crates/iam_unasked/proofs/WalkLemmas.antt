-- What a text asks for, form by form.
use Rattle.std.proofs.Common.{◌≡◌, ◌∙◌, ℕ, List, [], ◌∷◌, ◌++◌, Bool, false, ◌||◌, refl, ap}
use Rattle.std.proofs.lemmas.List.Folds.{list_any-append}
use Rattle.std.specs.List.{list_any}
use Rattle.iam_glob.specs.declared.sign.Sign.{Sign}
use Rattle.iam_text.specs.declared.draft.Piece.{Piece}
use Rattle.iam_text.specs.Draft.{plain_draft}
use Rattle.iam_unasked.specs.Asks.{piece_asks}

-- plain text asks for nothing
pub plain_asks : (keys : List (List ℕ)) (signs : List Sign) → list_any (piece_asks keys) (plain_draft signs) ≡ false
plain_asks keys [] = refl
plain_asks keys (sign ∷ signs) = plain_asks keys signs

-- over plain text and the piece behind it
pub over_front : (keys : List (List ℕ)) (pieces rest : List Piece) (front : List Sign) (piece : Piece) → pieces ≡ plain_draft front ++ (piece ∷ rest)
    → list_any (piece_asks keys) pieces ≡ (piece_asks keys piece || list_any (piece_asks keys) rest)
over_front keys pieces rest front piece is =
    ap (list_any (piece_asks keys)) is ∙ list_any-append (piece_asks keys) (plain_draft front) (piece ∷ rest)
    ∙ ap (λ (b : Bool). b || (piece_asks keys piece || list_any (piece_asks keys) rest)) (plain_asks keys front)
