-- Texts that stand in CSV and in JSON as they are: letters, digits, `/` and spaces.
use Rattle.std.proofs.Common.{◌≡◌, ℕ, suc, zero, ◌+◌, ◌<◌, ◌/◌, ◌%◌, Bool, true, false, not, ◌&&◌, ◌||◌, nat_eq, nat_lt, List, [], ◌∷◌, ◌++◌, codes, decimal, refl, ap, ◌∙◌, arith, if◌then◌else◌}
use Rattle.std.specs.Fmt.{digits, digits_onto, digit_glyph}
use Rattle.std.specs.List.{list_all, join_by, flat_map}
use Rattle.std.proofs.lemmas.List.Folds.{list_all-append}
use Rattle.std.proofs.lemmas.Bool.{cond_both}
use Rattle.std.proofs.lemmas.Bool.Decides.{nat_tests}
use Rattle.csv.specs.Writing.{default_writer, field_text, needs_byte, needs_quotes, quoted}
use Rattle.json.specs.Print.{escape, escape_byte}
use Rattle.iam_decision.specs.declared.place.Layer.{Layer}
use Rattle.iam_decision.specs.declared.place.Layer.TheVariants.{Org, Control, Resource, Identity, Boundary, Session}
use Rattle.iam_decision.specs.declared.place.Place.{Place}
use Rattle.iam_decision.specs.declared.verdict.Decision.{Decision}
use Rattle.iam_decision.specs.declared.verdict.Decision.TheVariants.{Allowed, ExplicitDeny, ImplicitDeny}
use Rattle.iam_row.specs.Words.{decision_word, layer_word, numbers_text, place_text}

-- a space, or above 46 and no backslash
abbrev pub is_plain : ℕ → Bool
is_plain b = nat_eq b 32 || (nat_lt 46 b && not (nat_eq b 92))

abbrev pub are_plain : List ℕ → Bool
are_plain s = list_all is_plain s

pub no_quotes : (b : ℕ) → is_plain b ≡ true → needs_byte default_writer b ≡ false
no_quotes b h = grind (arith, nat_tests)

pub no_escape : (b : ℕ) → is_plain b ≡ true → escape_byte b ≡ b ∷ []
unfolding escape_byte
no_escape b h = grind (arith, nat_tests)

plain_digit : (n : ℕ) → is_plain (digit_glyph false (n % 10)) ≡ true
plain_digit n = let small : n % 10 < 10 = omega arith in let e : digit_glyph false (n % 10) ≡ 48 + n % 10 = grind (arith, nat_tests) in grind (arith, nat_tests)

plain_digits : (k n : ℕ) (acc : List ℕ) → are_plain acc ≡ true → are_plain (digits_onto k 10 false n acc) ≡ true
plain_digits zero n acc h = h
plain_digits (suc k) n acc h =
    let more : are_plain (digit_glyph false (n % 10) ∷ acc) ≡ true = ap (λ b. b && are_plain acc) (plain_digit n) ∙ h in
    cond_both (nat_eq (n / 10) 0) (digit_glyph false (n % 10) ∷ acc) (digits_onto k 10 false (n / 10) (digit_glyph false (n % 10) ∷ acc)) (λ s. are_plain s ≡ true)
    (λ _. more) (λ _. plain_digits k (n / 10) (digit_glyph false (n % 10) ∷ acc) more)

pub plain_decimal : (n : ℕ) → are_plain (decimal n) ≡ true
unfolding digits
plain_decimal n = plain_digits 64 n [] refl

pub plain_both : (s t : List ℕ) → are_plain s ≡ true → are_plain t ≡ true → are_plain (s ++ t) ≡ true
plain_both s t h k = list_all-append is_plain s t ∙ ap (λ b. b && are_plain t) h ∙ k

pub plain_layer : (layer : Layer) → are_plain (layer_word layer) ≡ true
plain_layer Org = refl
plain_layer Control = refl
plain_layer Resource = refl
plain_layer Identity = refl
plain_layer Boundary = refl
plain_layer Session = refl

pub plain_decision : (decision : Decision) → are_plain (decision_word decision) ≡ true
plain_decision Allowed = refl
plain_decision ExplicitDeny = refl
plain_decision ImplicitDeny = refl

-- two numbers joined by `/`
plain_two : (n : ℕ) (s : List ℕ) → are_plain s ≡ true → are_plain (decimal n ++ (codes "/" ++ s)) ≡ true
plain_two n s h = plain_both (decimal n) (codes "/" ++ s) (plain_decimal n) h

plain_three : (level policy statement : ℕ) → are_plain (decimal level ++ (codes "/" ++ (decimal policy ++ (codes "/" ++ decimal statement)))) ≡ true
plain_three level policy statement =
    plain_two level (decimal policy ++ (codes "/" ++ decimal statement)) (plain_two policy (decimal statement) (plain_decimal statement))

plain_numbers : (layer : Layer) (level policy statement : ℕ) → are_plain (numbers_text layer level policy statement) ≡ true
plain_numbers Org level policy statement = plain_three level policy statement
plain_numbers Control level policy statement = plain_three level policy statement
plain_numbers Resource level policy statement = plain_decimal statement
plain_numbers Identity level policy statement = plain_two policy (decimal statement) (plain_decimal statement)
plain_numbers Boundary level policy statement = plain_decimal statement
plain_numbers Session level policy statement = plain_two policy (decimal statement) (plain_decimal statement)

pub plain_place : (place : Place) → are_plain (place_text place) ≡ true
plain_place place =
    plain_both (layer_word place.layer) (codes "/" ++ numbers_text place.layer place.level place.policy place.statement) (plain_layer place.layer)
    (plain_numbers place.layer place.level place.policy place.statement)

-- words joined by spaces
plain_rest : {A : Type 0} (word : A → List ℕ) → ((x : A) → are_plain (word x) ≡ true) → (xs : List A) → are_plain (flat_map (λ x. codes " " ++ word x) xs) ≡ true
plain_rest word plain [] = refl
plain_rest word plain (x ∷ xs) = plain_both (codes " " ++ word x) (flat_map (λ y. codes " " ++ word y) xs) (plain x) (plain_rest word plain xs)

pub plain_joined : {A : Type 0} (word : A → List ℕ) → ((x : A) → are_plain (word x) ≡ true) → (xs : List A) → are_plain (join_by word (codes " ") xs) ≡ true
plain_joined word plain [] = refl
plain_joined word plain (x ∷ xs) = plain_both (word x) (flat_map (λ y. codes " " ++ word y) xs) (plain x) (plain_rest word plain xs)

both_parts : (s t : Bool) → (s && t) ≡ true → (s ≡ true) × (t ≡ true)
both_parts true t h = (refl, h)
both_parts false t h = absurd (cc)

-- what holds of a plain text holds of its first byte and of the rest
first_plain : (b : ℕ) (s : List ℕ) → are_plain (b ∷ s) ≡ true → (is_plain b ≡ true) × (are_plain s ≡ true)
first_plain b s h = both_parts (is_plain b) (are_plain s) h

any_quotes : (s : List ℕ) → are_plain s ≡ true → needs_quotes default_writer s ≡ false
any_quotes [] h = refl
any_quotes (b ∷ s) h =
    let p = first_plain b s h in ap (λ t. t || needs_quotes default_writer s) (no_quotes b p.0) ∙ any_quotes s p.1

-- a plain text is its own field
pub field_plain : (s : List ℕ) → are_plain s ≡ true → field_text default_writer s ≡ s
field_plain s h = ap (λ b. if b then quoted default_writer s else s) (any_quotes s h)

-- a plain text has no escape
pub escape_plain : (s : List ℕ) → are_plain s ≡ true → escape s ≡ s
escape_plain [] h = refl
escape_plain (b ∷ s) h =
    let p = first_plain b s h in ap (λ t. t ++ escape s) (no_escape b p.0) ∙ ap (λ t. b ∷ t) (escape_plain s p.1)
