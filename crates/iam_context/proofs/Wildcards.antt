-- A text without wildcards is the same pattern wherever it stands.
use Rattle.std.proofs.Common.{◌≡◌, ℕ, Bool, true, false, List, [], ◌∷◌, ◌++◌, map, refl, ap, ◌∙◌, ◌&&◌, ◌==◌, ◌||◌, not, if◌then◌else◌}
use Rattle.std.proofs.lemmas.List.{map-append}
use Rattle.std.proofs.lemmas.Str.{chars-append}
use Rattle.std.specs.List.{list_all}
use Rattle.std.specs.Str.{IsUtf8, chars}
use Rattle.iam_glob.specs.declared.sign.Sign.{Sign}
use Rattle.iam_glob.specs.declared.sign.Sign.TheVariants.{Any, One, Given}
use Rattle.iam_glob.specs.Glob.{plain_sign, sign_of}

-- neither `*` nor `?`
abbrev is_no_wildcard : ℕ → Bool
is_no_wildcard c = not (c == 42 || c == 63)

one_sign : (star mark : Bool) (c : ℕ) → not (star || mark) ≡ true → Given c ≡ (if star then Any else (if mark then One else Given c))
one_sign true mark c is = cc
one_sign false true c is = cc
one_sign false false c is = refl

plain_is : (wild : Bool) (c : ℕ) → is_no_wildcard c ≡ true → plain_sign c ≡ sign_of wild c
plain_is false c is = refl
plain_is true c is = one_sign (c == 42) (c == 63) c is

both_are : (a b : Bool) → (a && b) ≡ true → (a ≡ true) × (b ≡ true)
both_are true true is = (refl, refl)
both_are true false is = cc
both_are false b is = cc

-- the signs of characters of which none is a wildcard
pub plain_signs : (wild : Bool) (characters : List ℕ) → list_all is_no_wildcard characters ≡ true → map plain_sign characters ≡ map (sign_of wild) characters
plain_signs wild [] all = refl
plain_signs wild (c ∷ characters) all =
    let (first, rest) = both_are (is_no_wildcard c) (list_all is_no_wildcard characters) all in
    ap (λ (s : Sign). s ∷ map plain_sign characters) (plain_is wild c first)
    ∙ ap (λ (ss : List Sign). sign_of wild c ∷ ss) (plain_signs wild characters rest)

-- the signs of a text with more behind it
pub signs_more : (wild : Bool) (text more grown : List ℕ) → IsUtf8 text → grown ≡ text ++ more
    → map (sign_of wild) (chars grown) ≡ map (sign_of wild) (chars text) ++ map (sign_of wild) (chars more)
signs_more wild text more grown ok is =
    ap (λ t. map (sign_of wild) (chars t)) is ∙ ap (map (sign_of wild)) (chars-append text more ok) ∙ map-append (sign_of wild) (chars text) (chars more)
