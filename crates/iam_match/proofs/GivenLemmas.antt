-- A pattern whose characters are all given matches the one text that it is.
use Rattle.std.proofs.Common.{◌≡◌, ◌↔◌, ℕ, List, [], ◌∷◌, ◌++◌, Bool, IsTrue, map, refl, sym, ap, ◌∙◌, subst}
use Rattle.std.proofs.lemmas.Slice.Eq.{bytes_eq-Decides}
use Rattle.std.proofs.lemmas.Str.{encodes-chars}
use Rattle.std.specs.List.{AllZip, concat}
use Rattle.std.specs.Str.{IsUtf8, bytes_eq, chars, encode_utf8_all}
use Rattle.iam_glob.specs.Glob.{Equals, Fits, Matches, plain_sign}

-- texts of the same characters
same_text : (one other : List ℕ) → IsUtf8 one → IsUtf8 other → chars one ≡ chars other → one ≡ other
same_text one other ok good same = sym (encodes-chars one ok) ∙ ap encode_utf8_all same ∙ encodes-chars other good

same_given : (cs ds : List ℕ) → map plain_sign cs ≡ map plain_sign ds → cs ≡ ds
same_given [] [] same = refl
same_given [] (d ∷ ds) same = cc
same_given (c ∷ cs) [] same = cc
same_given (c ∷ cs) (d ∷ ds) same =
    let rest = same_given cs ds cc in
    let first : c ≡ d = cc in cc

given_matches : (cs : List ℕ) → Matches (map plain_sign cs) cs
given_matches [] = ([], tt, refl)
given_matches (c ∷ cs) = let rest = given_matches cs in ((c ∷ []) ∷ rest.0, (refl, rest.1), ap (λ t. c ∷ t) rest.2)

matched_given : (cs text : List ℕ) (parts : List (List ℕ)) → AllZip Fits (map plain_sign cs) parts → concat parts ≡ text → cs ≡ text
matched_given [] text [] fits joined = joined
matched_given [] text (part ∷ parts) fits joined = absurd fits
matched_given (c ∷ cs) text [] fits joined = absurd fits
matched_given (c ∷ cs) text (part ∷ parts) fits joined =
    ap (λ t. c ∷ t) (matched_given cs (concat parts) parts fits.1 refl) ∙ ap (λ p. p ++ concat parts) (sym fits.0) ∙ joined

pub given_equals : (value text : List ℕ) (told : Bool) → IsUtf8 value → IsUtf8 text → told ≡ bytes_eq value text
    → IsTrue told ↔ Equals (map plain_sign (chars value)) (chars text)
given_equals value text told ok good is = (
  λ t. ap (λ bytes. map plain_sign (chars bytes)) ((bytes_eq-Decides value text).0 (sym is ∙ t)),
  λ e. is ∙ (bytes_eq-Decides value text).1 (same_text value text ok good (same_given (chars value) (chars text) e)),
)

pub given_match : (value text : List ℕ) (told : Bool) → IsUtf8 value → IsUtf8 text → told ≡ bytes_eq value text
    → IsTrue told ↔ Matches (map plain_sign (chars value)) (chars text)
given_match value text told ok good is = (
  λ t. subst (λ bytes. Matches (map plain_sign (chars value)) (chars bytes)) ((bytes_eq-Decides value text).0 (sym is ∙ t)) (given_matches (chars value)),
  λ (parts, fits, joined).
      is ∙ (bytes_eq-Decides value text).1 (same_text value text ok good (matched_given (chars value) (chars text) parts fits joined)),
)
