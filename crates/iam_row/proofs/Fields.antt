-- A field of CSV is a text where it is made of one.
use Rattle.std.proofs.Common.{◌≡◌, ℕ, ◌==◌, Bool, true, false, List, [], ◌∷◌, get_or, encode_utf8, encode_utf8_all, All, IsUtf8, inl, inr, refl, sym, subst, ◌∙◌, arith, append-nil, ne_eqb, if◌then◌else◌}
use Rattle.std.proofs.lemmas.Bool.{and_parts, cases_eq}
use Rattle.std.proofs.lemmas.List.Elements.{All-from_get_or}
use Rattle.std.proofs.lemmas.List.Folds.{list_any_none}
use Rattle.std.proofs.lemmas.Str.{IsUtf8-append, IsUtf8-encode, IsUtf8-nil, encode_ascii, inside_one}
use Rattle.std.proofs.Math.Utf8.{scalar, scalars}
use Rattle.csv.specs.Writing.{default_writer, escaped, field_text, needs_quotes, quoted}
use Rattle.csv.proofs.WriteFacts.{escaped-append, escaped-double, escaped-none}

-- a quote is a character of one byte
quote_is_utf8 : IsUtf8 (34 ∷ [])
quote_is_utf8 = subst IsUtf8 (encode_ascii 34 (omega arith)) (IsUtf8-encode 34 refl)

-- a quote is written twice, and any other character as it is
escaped_character : (c : ℕ) → scalar c ≡ true → IsUtf8 (escaped default_writer (encode_utf8 c))
escaped_character c ok = elim (cases_eq c 34) [
  | inl same ↦
      let twice = IsUtf8-append (34 ∷ []) (34 ∷ []) quote_is_utf8 quote_is_utf8 in
      rw (same, encode_ascii 34 (omega arith), escaped-double default_writer 34 refl refl) twice
  | inr other ↦
      let free : All (λ b. (b == 34) ≡ false) (encode_utf8 c) = All-from_get_or (λ b. (b == 34) ≡ false) (encode_utf8 c) 0
      (λ k below. ne_eqb (get_or (encode_utf8 c) k 0) 34
      (λ mark. other (inside_one c [] (encode_utf8 c) k (sym (append-nil _)) below (omega (arith, mark)) ∙ mark))) in
      subst IsUtf8 (sym (escaped-none default_writer _ (list_any_none _ _ free))) (IsUtf8-encode c ok)
]

escaped_characters : (cs : List ℕ) → scalars cs ≡ true → IsUtf8 (escaped default_writer (encode_utf8_all cs))
unfolding escaped
escaped_characters [] ok = IsUtf8-nil
escaped_characters (c ∷ cs) ok =
    let parts = and_parts _ _ ok in
    subst IsUtf8 (sym (escaped-append default_writer (encode_utf8 c) (encode_utf8_all cs)))
    (IsUtf8-append _ _ (escaped_character c parts.0) (escaped_characters cs parts.1))

pub field_is_utf8 : (text : List ℕ) → IsUtf8 text → IsUtf8 (field_text default_writer text)
field_is_utf8 text is =
    let inside : IsUtf8 (escaped default_writer text) = subst (λ t. IsUtf8 (escaped default_writer t)) is.1.1 (escaped_characters is.0 is.1.0) in
    by (needs_quotes default_writer text) (IsUtf8-append (34 ∷ []) _ quote_is_utf8 (IsUtf8-append _ (34 ∷ []) inside quote_is_utf8))
  where
    by : (needs : Bool) → IsUtf8 (quoted default_writer text) → IsUtf8 (if needs then quoted default_writer text else text)
    by true between = between
    by false between = is
