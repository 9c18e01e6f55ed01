-- How the code reads the forms of a text, beside the definition that it meets (`Draft`).
use Rattle.std.specs.Prelude.{◌≡◌, ◌<◌, ◌+◌, ◌⊎◌, ℕ, List, [], ◌∷◌, ◌++◌, ◌||◌, not, ◌==◌, Some, None, IsTrue, false, length, replicate, slice_index}
use Rattle.std.specs.List.{list_all}
use Rattle.iam_text.specs.declared.draft.Piece.{Piece}
use Rattle.iam_text.specs.declared.draft.Piece.TheVariants.{Plain, Escaped, Variable}
use Rattle.iam_text.specs.Draft.{is_key, is_key_character}

-- a `${` stands at the place
pub record BeginsAt (text : List ℕ) (k : ℕ) : Type 0 where
  pub inside : k + 1 < length text
  pub dollar : slice_index text k ≡ 36
  pub brace : slice_index text (k + 1) ≡ 123

-- and none before it
pub record IsFirstForm (text : List ℕ) (i : ℕ) : Type 0 where
  pub here : BeginsAt text i
  pub first : (k : ℕ) → k < i → ¬ BeginsAt text k

-- what stands between `${` and `}` is this piece, which has no default
abbrev pub IsClosed : Piece → List ℕ → Type 0
IsClosed (Plain sign) inside = ⊥
IsClosed (Escaped c) inside = IsTrue (c == 42 || c == 63 || c == 36) × (inside ≡ c ∷ [])
IsClosed (Variable key None) inside = IsTrue (is_key key) × (inside ≡ key)
IsClosed (Variable key (Some default)) inside = ⊥

-- the text is spaces, the default in quotes, `}` and the rest
abbrev pub IsQuoted : List ℕ → List ℕ → List ℕ → Type 0
IsQuoted text default rest =
    (spaces : ℕ) × IsTrue (list_all (λ c. not (c == 39)) default)
    × (text ≡ replicate spaces 32 ++ (39 ∷ (default ++ (39 ∷ (125 ∷ rest)))))

-- the text behind `${` is this piece, which has a default, and the rest
abbrev pub HasDefault : Piece → List ℕ → List ℕ → Type 0
HasDefault (Variable key (Some default)) text rest =
    (behind : List ℕ) × IsTrue (is_key key) × (text ≡ key ++ (44 ∷ behind)) × IsQuoted behind default rest
HasDefault _ text rest = ⊥

-- the text behind `${` is this piece, which has no default, and the rest
abbrev pub HasClosed : Piece → List ℕ → List ℕ → Type 0
HasClosed piece text rest = (inside : List ℕ) × IsClosed piece inside × (text ≡ inside ++ (125 ∷ rest))

-- the text behind `${` is this piece and the rest
abbrev pub HasForm : Piece → List ℕ → List ℕ → Type 0
HasForm piece text rest = HasClosed piece text rest ⊎ HasDefault piece text rest

-- the text behind `${` is `*`, `?` or `$`, a `}` and the rest
abbrev pub HasLiteral : ℕ → List ℕ → List ℕ → Type 0
HasLiteral c text rest = IsTrue (c == 42 || c == 63 || c == 36) × (text ≡ c ∷ (125 ∷ rest))

-- the text is cut behind the characters of a key that it begins with
pub record IsCutKey (text key behind : List ℕ) : Type 0 where
  pub joined : text ≡ key ++ behind
  pub all : IsTrue (list_all is_key_character key)
  pub end : (c : ℕ) (rest : List ℕ) → behind ≡ c ∷ rest → is_key_character c ≡ false
