-- How a compiled pattern compares texts, beside the signs that it stands for (`Glob`).
use Rattle.std.specs.Prelude.{◌≡◌, ℕ, List, [], ◌∷◌, ◌++◌, map}
use Rattle.std.specs.Borrow.{Bor}
use Rattle.std.specs.Str.{IsAscii}
use Rattle.iam_glob.specs.Glob.{plain_sign, wild_sign}
use Rattle.iam_glob.specs.Signs.{signs_in}
use Rattle.iam_glob.specs.declared.compiled.Way.{Way}
use Rattle.iam_glob.specs.declared.compiled.Way.TheVariants.{Literal, Front, Walked, Pieces}
use Rattle.iam_glob.specs.declared.sign.Sign.{Sign}
use Rattle.iam_glob.specs.declared.sign.Sign.TheVariants.{Any}

-- the signs of pieces, each before an `Any`
abbrev pub before_any : List (Bor (List ℕ)) → List Sign
before_any [] = []
before_any (piece ∷ pieces) = map plain_sign piece.now ++ (Any ∷ before_any pieces)

-- the signs that a way to compare stands for
abbrev pub way_signs : Way → List Sign
way_signs (Literal text) = map plain_sign text.now
way_signs (Front front) = map plain_sign front.now ++ (Any ∷ [])
way_signs (Walked front signs) = map plain_sign front.now ++ signs_in signs
way_signs (Pieces front pieces back) =
    map plain_sign front.now ++ (Any ∷ (before_any pieces.items ++ map plain_sign back.now))

-- what is compared at the front of any text is ASCII
abbrev pub HasAsciiFront : Way → Type 0
HasAsciiFront (Literal text) = IsAscii text.now
HasAsciiFront (Front front) = IsAscii front.now
HasAsciiFront (Walked front signs) = IsAscii front.now
HasAsciiFront (Pieces front pieces back) = IsAscii front.now

-- a way to compare with these signs
pub record IsWay (way : Way) (signs : List Sign) : Type 0 where
  pub same : signs ≡ way_signs way
  pub ascii : HasAsciiFront way

-- a text is cut before a wildcard or at its end
pub record IsCutAtWildcard (text front rest : List ℕ) : Type 0 where
  pub joined : text ≡ front ++ rest
  pub given : map wild_sign front ≡ map plain_sign front
