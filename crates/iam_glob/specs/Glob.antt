-- Patterns over texts: AWS IAM User Guide, "IAM JSON policy elements reference", the wildcards of
-- `Action` and `Resource`. A text is the list of its characters, Unicode scalar values. LOGIC 2.1 and 2.2.
use Rattle.std.specs.Prelude.{◌≡◌, ℕ, Bool, List, [], ◌∷◌, ⊤, length, map, ◌==◌, if◌then◌else◌}
use Rattle.std.specs.List.{AllZip, concat}
use Rattle.std.specs.Char.{to_ascii_lowercase}
use Rattle.iam_glob.specs.declared.sign.Sign.{Sign}
use Rattle.iam_glob.specs.declared.sign.Sign.TheVariants.{Given, One, Any}

-- a character of a pattern where wildcards stand: `*` is any run, `?` is any one character
abbrev pub wild_sign : ℕ → Sign
wild_sign c = if c == 42 then Any else (if c == 63 then One else Given c)

-- a character of a pattern where wildcards do not stand
abbrev pub plain_sign : ℕ → Sign
plain_sign c = Given c

-- the sign of a character, by whether wildcards stand there
abbrev pub sign_of : Bool → ℕ → Sign
sign_of wild c = if wild then wild_sign c else plain_sign c

-- a given character stands for its own text alone, any one for a text of one character, any run for every text
abbrev pub Fits : Sign → List ℕ → Type 0
Fits (Given c) part = part ≡ c ∷ []
Fits One part = length part ≡ 1
Fits Any part = ⊤

-- a pattern matches a text where a splitting exists: one part for each sign, which join to the text
abbrev pub Matches : List Sign → List ℕ → Type 0
Matches signs text = (parts : List (List ℕ)) × AllZip Fits signs parts × (concat parts ≡ text)

-- folding maps the letters A to Z to a to z and leaves every other character
abbrev pub folded : ℕ → ℕ
folded c = to_ascii_lowercase c

-- the sign with `f` applied to its given character
abbrev pub sign_by : (ℕ → ℕ) → Sign → Sign
sign_by f (Given c) = Given (f c)
sign_by f One = One
sign_by f Any = Any

-- a match without regard to case: both sides are folded first
abbrev pub MatchesFold : List Sign → List ℕ → Type 0
MatchesFold signs text = Matches (map (sign_by folded) signs) (map folded text)

-- the signs are the characters of the text, each given
abbrev pub Equals : List Sign → List ℕ → Type 0
Equals signs text = signs ≡ map plain_sign text

-- the same without regard to case
abbrev pub EqualsFold : List Sign → List ℕ → Type 0
EqualsFold signs text = Equals (map (sign_by folded) signs) (map folded text)
