-- What `clap` gave of a name is what stands there.
use Rattle.std.proofs.Common.{◌≡◌, ◌∙◌, ℕ, Bool, List, Option, Some, None, Bor, IsTrue, refl, sym, ap}
use Rattle.std.specs.Prelude.{◌↔◌, SomeIff, option_map}
use Rattle.std.specs.Option.{option_eq}
use Rattle.std.specs.Str.{bytes_eq}
use Rattle.std.specs.Str.Parse.{ExplainsUnsignedError, HasUnsignedDigitsIfOk, ParsesUnsigned}
use Rattle.std.proofs.lemmas.Option.{same_Some}
use Rattle.std.proofs.lemmas.Slice.Eq.{bytes_eq-Decides}
use Rattle.clap.specs.Matches.{ReadsOne}
use Rattle.iam_options.specs.Words.{IsNumberIn, WritesNumber, number_of}

-- a number that was read of a text, or none
pub number_read : (bits : ℕ) (text : Option (List ℕ)) (number : Option ℕ) → (text ≡ None → number ≡ None)
    → ((t : List ℕ) → text ≡ Some t → ReadsOne
    (λ s r. ParsesUnsigned bits 10 s r × ExplainsUnsignedError 10 s r × HasUnsignedDigitsIfOk s r) t number)
    → IsNumberIn bits text number
number_read bits None number none value = none refl
number_read bits (Some t) number none value = at_text number (value t refl)
  where
    at_text : (n : Option ℕ) → ReadsOne
        (λ s r. ParsesUnsigned bits 10 s r × ExplainsUnsignedError 10 s r × HasUnsignedDigitsIfOk s r) t n
        → SomeIff n (WritesNumber bits t) (number_of t)
    at_text None given = given.1.0
    at_text (Some n) given = given.0

-- whether a text is there and is this word
pub same_word : (found : Option (List ℕ)) (text : Option (Bor (List ℕ))) (word : Bor (List ℕ)) (is : Bool)
    → option_map (λ s. s.now) text ≡ found → is ≡ option_eq (λ x y. bytes_eq x.now y.now) text (Some word)
    → IsTrue is ↔ (found ≡ Some word.now)
same_word found None word is there tested = (λ on. cc, λ e. cc)
same_word found (Some s) word is there tested =
    let decides = bytes_eq-Decides s.now word.now in (
      λ on. sym there ∙ ap Some (decides.0 (sym tested ∙ on)),
      λ e. tested ∙ decides.1 (same_Some _ _ (there ∙ e)),
    )
