-- A draft as it is walked: stretches of plain text, and the forms between them. LOGIC 4.2.
use Rattle.std.specs.Prelude.{◌≡◌, ◌≤◌, ℕ, List, ◌++◌, Bool, codes, length, option_map}
use Rattle.iam_text.specs.declared.draft.Piece.{Piece}
use Rattle.iam_text.specs.declared.draft.Piece.TheVariants.{Escaped, Variable}
use Rattle.iam_text.specs.declared.form.Form.{Form}
use Rattle.iam_text.specs.declared.form.Form.TheVariants.{Literal, Named}

-- the text that is left, whether wildcards stand there, and the pieces that it stands for
pub record StretchesValue : Type 0 where
  pub text : List ℕ
  pub wild : Bool
  pub pieces : List Piece

-- the piece of a form
abbrev pub piece_of : Form → Piece
piece_of (Literal c) = Escaped c
piece_of (Named key default) = Variable key.now (option_map (λ d. d.now) default)

-- no `${` begins in the front of a text, which the rest follows
abbrev pub NoneBegins : List ℕ → List ℕ → Type 0
NoneBegins front rest = (before behind : List ℕ) → front ++ rest ≡ before ++ (codes "${" ++ behind) → length front ≤ length before

-- the text is cut at its first `${`, into what stands before it and behind it
abbrev pub IsCutAtForm : List ℕ → List ℕ → List ℕ → Type 0
IsCutAtForm text front inside = (text ≡ front ++ (codes "${" ++ inside)) × NoneBegins front (codes "${" ++ inside)
