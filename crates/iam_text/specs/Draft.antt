-- Texts that may hold variables: AWS IAM User Guide, "IAM policy elements: Variables and tags". A text is the list of
-- its bytes, and so are a key and a default; an escaped piece is a character. LOGIC 4.1, 4.2 and 16.
use Rattle.std.specs.Prelude.{◌≡◌, ◌≢◌, ℕ, List, [], ◌∷◌, ◌++◌, Bool, ◌||◌, not, ◌==◌, Some, None, IsTrue, codes, encode_utf8, map, replicate}
use Rattle.std.specs.List.{list_all}
use Rattle.std.specs.Str.{chars}
use Rattle.iam_text.specs.declared.draft.Piece.{Piece}
use Rattle.iam_text.specs.declared.draft.Piece.TheVariants.{Plain, Escaped, Variable}
use Rattle.iam_glob.specs.declared.sign.Sign.{Sign}
use Rattle.iam_text.specs.declared.version.Version.{Version}
use Rattle.iam_text.specs.declared.version.Version.TheVariants.{V2012, V2008}
use Rattle.iam_text.specs.Characters.{is_run}
use Rattle.iam_glob.specs.Glob.{sign_of}

-- the pieces of a text without variables: each sign is one
abbrev pub plain_draft : List Sign → List Piece
plain_draft signs = map Plain signs

-- a character of a key: not `$`, `{`, `}`, `,`, `'`, `*` or `?`
abbrev pub is_key_character : ℕ → Bool
is_key_character c = not (c == 36 || c == 123 || c == 125 || c == 44 || c == 39 || c == 42 || c == 63)

-- one or more of these
abbrev pub is_key : List ℕ → Bool
is_key text = is_run is_key_character text

-- how a piece is written: a character by itself; `${*}`, `${?}` or `${$}`; `${key}`; or `${key, 'default'}`, with no or
-- more spaces behind the comma, and a default without `'`
abbrev pub IsWritten : Bool → Piece → List ℕ → Type 0
IsWritten wild (Plain sign) part = (c : ℕ) × (sign ≡ sign_of wild c) × (part ≡ encode_utf8 c)
IsWritten wild (Escaped c) part = IsTrue (c == 42 || c == 63 || c == 36) × (part ≡ codes "${" ++ (c ∷ codes "}"))
IsWritten wild (Variable key None) part = IsTrue (is_key key) × (part ≡ codes "${" ++ (key ++ codes "}"))
IsWritten wild (Variable key (Some default)) part =
    (spaces : ℕ) × IsTrue (is_key key) × IsTrue (list_all (λ c. not (c == 39)) default)
    × (part ≡ codes "${" ++ (key ++ (codes "," ++ (replicate spaces 32 ++ (codes "'" ++ (default ++ codes "'}"))))))

-- a `$` by itself does not stand before a `{`
abbrev pub IsApart : List ℕ → List ℕ → Type 0
IsApart part rest = part ≡ codes "$" → (more : List ℕ) → rest ≢ 123 ∷ more

-- the text begins with the piece, and this is left
pub record BeginsWith (wild : Bool) (text : List ℕ) (piece : Piece) (rest : List ℕ) : Type 0 where
  pub part : List ℕ
  pub written : IsWritten wild piece part
  pub joined : text ≡ part ++ rest
  pub apart : IsApart part rest

-- the pieces, one behind the other, are the text
abbrev pub IsDraft : Bool → List ℕ → List Piece → Type 0
IsDraft wild text [] = text ≡ []
IsDraft wild text (piece ∷ pieces) = (rest : List ℕ) × BeginsWith wild text piece rest × IsDraft wild rest pieces

-- the draft of a text in a document of a version: in version 2008-10-17 each character is a piece, and `${` begins no
-- variable
abbrev pub IsDraftIn : Version → Bool → List ℕ → List Piece → Type 0
IsDraftIn V2012 wild text pieces = IsDraft wild text pieces
IsDraftIn V2008 wild text pieces = pieces ≡ plain_draft (map (sign_of wild) (chars text))
