-- Reading the keys of a condition.
use Rattle.std.proofs.Common.{◌≡◌, inl, inr, ℕ, pos, negsuc, suc, zero, ◌+◌, ◌<◌, ◌/◌, ◌%◌, List, [], ◌∷◌, ◌++◌, Bool, true, false, not, ◌&&◌, ◌||◌, ◌==◌, Option, Some, None, IsTrue, IsSome, is_some, codes, length, map, take, drop, get_or, refl, sym, ap, subst, ◌∙◌, arith, if◌then◌else◌}
use Rattle.std.specs.Fmt.{decimal, digit_glyph, digits, digits_onto}
use Rattle.std.proofs.lemmas.List.{at_drop_more}
use Rattle.std.specs.List.{AllByRecursion, AllZip, list_any}
use Rattle.serde_json.specs.Data.{Data, null, boolean, number, string, array, object, unsigned, negative, float}
use Rattle.serde_json.specs.Find.{as_str}
use Rattle.iam_json.specs.Scalar.{scalar_text}
use Rattle.iam_text.specs.declared.version.Version.{Version}
use Rattle.iam_text.specs.declared.version.Version.TheVariants.{V2012, V2008}
use Rattle.iam_text.specs.Variables.{is_draft, is_draft_in, is_draft_from, outside}
use Rattle.iam_value.specs.Reading.{IsReading}
use Rattle.iam_condition.specs.declared.operand.Operand.{Operand}
use Rattle.iam_condition.specs.declared.operator.Base.{Base}
use Rattle.iam_condition.specs.Code.Reading.{IsFine, IsFineGiven, IsFineText}
use Rattle.iam_condition.specs.Code.Walks.{AnyOf}
use Rattle.iam_condition.specs.Condition.{Given, HasBadValue, IsBadValue, given_in, has_bad_text, is_bad_text, values_under}
use Rattle.iam_condition.specs.Operand.{IsValueOperand, has_texts, text_form}
use Rattle.iam_condition.proofs.ValueLemmas.{IsBadGiven, given_bad}

-- the values of a list from i on: that at i, and the rest
pub drop_at : {X Y : Type 0} (f : X → Y) (xs : List X) (i : ℕ) (x : X) → i < length xs → x ≡ get_or xs i x → map f (drop i xs) ≡ f x ∷ map f (drop (i + 1) xs)
drop_at f xs i x below is = at_drop_more (map f) xs i x below ∙ ap (λ z. f z ∷ map f (drop (i + 1) xs)) (sym is)

-- one more element that is read
pub zip_more : {V D Y : Type 0} (R : D → Y → Type 0) (f : V → D) (vs : List V) (i : ℕ) (v : V) (ys : List Y) (y : Y) → i < length vs → v ≡ get_or vs i v
    → AllZip R (map f (take i vs)) ys → R (f v) y → AllZip R (map f (take (i + 1) vs)) (ys ++ (y ∷ []))
zip_more R f [] i v ys y below is zip r = absurd (omega arith)
zip_more R f (x ∷ vs) zero v [] y below is zip r = (subst (λ z. R (f z) y) is r, tt)
zip_more R f (x ∷ vs) zero v (z ∷ zs) y below is zip r = absurd zip
zip_more R f (x ∷ vs) (suc i) v [] y below is zip r = absurd zip
zip_more R f (x ∷ vs) (suc i) v (z ∷ zs) y below is zip r =
    let rest : i < length vs = omega arith in
    let number : suc (i + 1) ≡ suc i + 1 = omega arith in
    subst (λ n. AllZip R (map f (take n (x ∷ vs))) (z ∷ (zs ++ (y ∷ [])))) number (zip.0, zip_more R f vs i v zs y rest is zip.1 r)

-- ---- texts that have a value

passes : (b : Bool) → not b ≡ false → IsTrue b
passes true is = refl
passes false is = cc

-- a text that is on its grammars has a draft where the operator reads texts
pub fine_draft : (version : Version) (base : Base) (text : List ℕ) (wild : Bool) → text_form base ≡ Some wild → IsFineText version base text → IsTrue (is_draft_in version text)
fine_draft version base text wild is fine =
    passes (is_draft_in version text) (ap (λ form. is_some form && not (is_draft_in version text)) (sym is) ∙ fine.draft)

-- and else a value
pub fine_value : (version : Version) (base : Base) (text : List ℕ) (found : Option Operand) → text_form base ≡ None → IsFineText version base text
    → IsReading found (IsValueOperand base text) → IsSome found
fine_value version base text (Some value) is fine reads = refl
fine_value version base text None is fine reads = absurd (fine.on_grammar (ap is_some is, reads))

-- a digit is no `$`
glyph_apart : (d : ℕ) → (digit_glyph false d == 36) ≡ false
glyph_apart d = grind arith

-- the digits of a number have no variables
digits_pass : (k n : ℕ) (rest : List ℕ) → is_draft_from outside rest ≡ true → is_draft_from outside (digits_onto k 10 false n rest) ≡ true
digits_pass zero n rest is = is
digits_pass (suc k) n rest is = go (n / 10 == 0) (digits_pass k (n / 10) (digit_glyph false (n % 10) ∷ rest) one)
  where
    one : is_draft_from outside (digit_glyph false (n % 10) ∷ rest) ≡ true
    one = rw (glyph_apart (n % 10)) is

    go : (b : Bool) → is_draft_from outside (digits_onto k 10 false (n / 10) (digit_glyph false (n % 10) ∷ rest)) ≡ true
        → is_draft_from outside (if b then digit_glyph false (n % 10) ∷ rest else digits_onto k 10 false (n / 10) (digit_glyph false (n % 10) ∷ rest)) ≡ true
    go true later = one
    go false later = later

decimal_passes : (n : ℕ) → is_draft (decimal n) ≡ true
unfolding digits
decimal_passes n = digits_pass 64 n [] refl

-- what is no text has a text without variables
other_passes : (d : Data) (text : List ℕ) → as_str d ≡ None → scalar_text d ≡ Some text → is_draft text ≡ true
other_passes null text off is = cc
other_passes (boolean true) text off is = let same : codes "true" ≡ text = cc in rw (← same) refl
other_passes (boolean false) text off is = let same : codes "false" ≡ text = cc in rw (← same) refl
other_passes (number (unsigned n)) text off is = let same : decimal n ≡ text = cc in rw (← same) (decimal_passes n)
other_passes (number (negative (pos n))) text off is = let same : decimal n ≡ text = cc in rw (← same) (decimal_passes n)
other_passes (number (negative (negsuc n))) text off is = let same : 45 ∷ decimal (suc n) ≡ text = cc in rw (← same) (decimal_passes (suc n))
other_passes (number (float x)) text off is = cc
other_passes (string t) text off is = cc
other_passes (array ds) text off is = cc
other_passes (object ms) text off is = cc

both_false : (b : Bool) → (b && false) ≡ false
both_false true = refl
both_false false = refl

-- what passes in version 2012-10-17 passes in each
passes_in : (version : Version) (text : List ℕ) → is_draft text ≡ true → is_draft_in version text ≡ true
passes_in V2012 text holds = holds
passes_in V2008 text holds = refl

-- a fine value is no text, and has a fine text
pub other_is_fine : (version : Version) (base : Base) (d : Data) (text : List ℕ) → as_str d ≡ None → scalar_text d ≡ Some text → IsFine version base d → IsFineText version base text
other_is_fine version base d text off is fine =
    let tested = passes_in version text (other_passes d text off is) in
    record { on_grammar = λ bad. fine.value (rw is bad); draft = rw tested (both_false (has_texts base)) }

-- ---- all keys

split : (t a b : Bool) → (t && (a || b)) ≡ false → ((t && a) ≡ false) × ((t && b) ≡ false)
split true true b is = cc
split true false b is = (refl, is)
split false a b is = (refl, refl)

apart : (a b : Bool) → (a || b) ≡ false → (a ≡ false) × (b ≡ false)
apart true b is = cc
apart false b is = (refl, is)

fine_values : (version : Version) (base : Base) (ds : List Data) → (has_texts base && list_any (is_bad_text version) ds) ≡ false → ¬ AnyOf (IsBadValue base) ds
    → AllByRecursion (IsFine version base) ds
fine_values version base [] texts values = tt
fine_values version base (d ∷ ds) texts values =
    let parts = split (has_texts base) (is_bad_text version d) (list_any (is_bad_text version) ds) texts in
    (record { value = λ bad. values (inl bad); text = parts.0 }, fine_values version base ds parts.1 (λ bad. values (inr bad)))

fine_keys : (version : Version) (gs : List Given) → list_any (λ g. has_texts g.operator.base && list_any (is_bad_text version) (values_under g.value)) gs ≡ false
    → ¬ AnyOf IsBadGiven gs → AllByRecursion (IsFineGiven version) gs
fine_keys version [] texts values = tt
fine_keys version (g ∷ gs) texts values =
    let parts = apart (has_texts g.operator.base && list_any (is_bad_text version) (values_under g.value)) _ texts in
    (fine_values version g.operator.base (values_under g.value) parts.0 (λ bad. values (inl bad)), fine_keys version gs parts.1 (λ bad. values (inr bad)))

pub all_fine : (version : Version) (d : Data) → has_bad_text version d ≡ false → ¬ HasBadValue d → AllByRecursion (IsFineGiven version) (given_in d)
all_fine version d texts values = fine_keys version (given_in d) texts (λ bad. values (given_bad d bad))
