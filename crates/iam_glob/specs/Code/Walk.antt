-- The walk that the matcher takes, beside the definition that it meets (`Glob`).
use Rattle.std.specs.Prelude.{◌≡◌, ◌↔◌, ◌<◌, ℕ, zero, suc, List, [], ◌∷◌, ◌++◌, ⊤, ◌⊎◌, length, All, slice_index_or}
use Rattle.std.specs.Str.{chars}
use Rattle.iam_glob.specs.Glob.{folded}
use Rattle.iam_glob.specs.Signs.{signs_in}
use Rattle.iam_glob.specs.declared.sign.Sign.{Sign}
use Rattle.iam_glob.specs.declared.sign.Sign.TheVariants.{Given, One, Any}
use Rattle.iam_glob.specs.declared.case.Case.{Case}
use Rattle.iam_glob.specs.declared.case.Case.TheVariants.{Kept, Folded}
use Rattle.iam_glob.specs.declared.walk.Front.{Front}
use Rattle.iam_glob.specs.declared.walk.Front.TheVariants as front
use Rattle.iam_glob.specs.declared.ascii.Place.{Place}
use Rattle.iam_glob.specs.declared.ascii.Place.TheVariants as place

-- a character as it is compared
abbrev pub char_in : Case → ℕ → ℕ
char_in Kept c = c
char_in Folded c = folded c

-- the sign stands for this one character
abbrev pub Covers : (ℕ → ℕ) → Sign → ℕ → Type 0
Covers f (Given c) d = f c ≡ f d
Covers f One d = ⊤
Covers f Any d = ⊥

-- the sign stands for the first character of the text, and this is left
abbrev pub GoesOn : (ℕ → ℕ) → Sign → List ℕ → List ℕ → Type 0
GoesOn f sign text rest = (d : ℕ) × Covers f sign d × (text ≡ d ∷ rest)

-- the text does not begin with a character that the sign stands for
abbrev pub Stops : (ℕ → ℕ) → Sign → List ℕ → Type 0
Stops f sign text = (rest : List ℕ) → ¬ GoesOn f sign text rest

-- the sign stands for the last character of the text, and this is before it
abbrev pub ComesBack : (ℕ → ℕ) → Sign → List ℕ → List ℕ → Type 0
ComesBack f sign text rest = (d : ℕ) × Covers f sign d × (text ≡ rest ++ (d ∷ []))

-- the text does not end with a character that the sign stands for
abbrev pub StopsBack : (ℕ → ℕ) → Sign → List ℕ → Type 0
StopsBack f sign text = (rest : List ℕ) → ¬ ComesBack f sign text rest

-- the fact holds of the text, or of what is left of it after some characters
abbrev pub Later : (List ℕ → Type 0) → List ℕ → Type 0
Later P [] = P []
Later P (c ∷ text) = P (c ∷ text) ⊎ Later P text

-- the signs match the text, sign by sign
abbrev pub Walks : (ℕ → ℕ) → List Sign → List ℕ → Type 0
Walks f [] [] = ⊤
Walks f [] (d ∷ text) = ⊥
Walks f (Given c ∷ signs) [] = ⊥
Walks f (Given c ∷ signs) (d ∷ text) = (f c ≡ f d) × Walks f signs text
Walks f (One ∷ signs) [] = ⊥
Walks f (One ∷ signs) (d ∷ text) = Walks f signs text
Walks f (Any ∷ signs) text = Later (Walks f signs) text

-- the signs before the first `Any` fit, one character each, and these signs and this text are left
abbrev pub Reaches : (ℕ → ℕ) → List Sign → List ℕ → List Sign → List ℕ → Type 0
Reaches f [] text signs' text' = ⊥
Reaches f (Given c ∷ signs) [] signs' text' = ⊥
Reaches f (Given c ∷ signs) (d ∷ text) signs' text' = (f c ≡ f d) × Reaches f signs text signs' text'
Reaches f (One ∷ signs) [] signs' text' = ⊥
Reaches f (One ∷ signs) (d ∷ text) signs' text' = Reaches f signs text signs' text'
Reaches f (Any ∷ signs) text signs' text' = (signs ≡ signs') × (text ≡ text')

-- how far the front of a pattern was walked along a text: signs and text ended together, the signs before the first `Any`
-- fit, and these signs and this text are left, or they do not fit
pub data Found : Type 0 where
  whole : Found
  star : List Sign → List ℕ → Found
  off : Found

-- what was found along a text, and along one of ASCII characters
abbrev pub found_in : Front → Found
found_in front.Whole = whole
found_in (front.Star signs text) = star (signs_in signs) (chars text.now)
found_in front.Off = off

abbrev pub found_at : Place → Found
found_at place.Whole = whole
found_at (place.Star signs text) = star (signs_in signs) text.now
found_at place.Off = off

-- what a walk of the front tells of signs and a text
abbrev pub IsFront : (ℕ → ℕ) → List Sign → List ℕ → Found → Type 0
IsFront f signs text whole = Walks f signs text
IsFront f signs text (star signs' text') = Reaches f signs text signs' text'
IsFront f signs text off = ¬ Walks f signs text

-- what a walk settles of a question: yes, no, or as the signs behind an `Any` match some end of the text
abbrev pub Settles : (ℕ → ℕ) → Type 0 → Found → Type 0
Settles f P whole = P
Settles f P (star signs text) = P ↔ Later (Walks f signs) text
Settles f P off = ¬ P

-- how many signs, and one for the `Any` before them, are still to be placed: fewer with each turn of the matcher
abbrev pub signs_left : Found → ℕ
signs_left whole = 0
signs_left (star signs text) = suc (length signs)
signs_left off = 0

-- so many signs stand before the first `Any`
abbrev pub Begins : List Sign → ℕ → Type 0
Begins signs zero = ⊤
Begins [] (suc n) = ⊥
Begins (Given c ∷ signs) (suc n) = Begins signs n
Begins (One ∷ signs) (suc n) = Begins signs n
Begins (Any ∷ signs) (suc n) = ⊥

-- a sign before the first `Any`, by its place
abbrev pub IsInFront : List Sign → ℕ → Sign → Type 0
IsInFront signs i sign = (i < length signs) × Begins signs (suc i) × (sign ≡ slice_index_or signs i Any)

-- a given character
abbrev pub IsGiven : Sign → Type 0
IsGiven (Given c) = ⊤
IsGiven One = ⊥
IsGiven Any = ⊥

-- no sign is a wildcard
abbrev pub AreGiven : List Sign → Type 0
AreGiven signs = All IsGiven signs
