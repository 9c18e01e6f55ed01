-- A text is cut at its first separator in one way.
use Rattle.std.proofs.Common.{◌≡◌, ◌≢◌, ℕ, ◌<◌, List, [], ◌∷◌, ◌++◌, length, Option, Some, None, refl, sym, ap, ◌∙◌, arith}
use Rattle.std.specs.Int.{IsInRange}
use Rattle.std.specs.Str.Parse.{AllDigits}
use Rattle.std.proofs.lemmas.List.{get_or_at, length-append}
use Rattle.std.proofs.lemmas.List.Elements.{All-head, All-tail, All-from_get_or, All-append, All-cons}
use Rattle.std.proofs.lemmas.Str.Parse.{digit_at}
use Rattle.iam_value.specs.Pieces.{Lacks, IsCutAt}
use Rattle.iam_value.specs.Reading.{IsReading}

-- two texts that go on with the same separator, which they lack, are one, and so is what follows
pub same_cut : (d : ℕ) (xs ys zs ws : List ℕ) → Lacks d xs → Lacks d zs → xs ++ d ∷ ys ≡ zs ++ d ∷ ws → (xs ≡ zs) × (ys ≡ ws)
same_cut d [] ys [] ws p q e = (refl, cc)
same_cut d [] ys (z ∷ zs) ws p q e = absurd (All-head (λ c. c ≢ d) z zs q cc)
same_cut d (x ∷ xs) ys [] ws p q e = absurd (All-head (λ c. c ≢ d) x xs p cc)
same_cut d (x ∷ xs) ys (z ∷ zs) ws p q e =
    let r = same_cut d xs ys zs ws (All-tail (λ c. c ≢ d) x xs p) (All-tail (λ c. c ≢ d) z zs q) cc in
    (cc, r.1)

-- the parts of a text that is known to be cut
pub at_cut : (d : ℕ) (text front back xs ys : List ℕ) → IsCutAt d text front back → text ≡ xs ++ d ∷ ys → Lacks d xs → (xs ≡ front) × (ys ≡ back)
at_cut d text front back xs ys cut written lacks = same_cut d xs ys front back lacks cut.1 (sym written ∙ cut.0)

-- a text with a separator does not lack it
pub not_lacking : (d : ℕ) (text xs ys : List ℕ) → Lacks d text → text ≡ xs ++ d ∷ ys → ⊥
not_lacking d text xs ys lacks written =
    let long : length xs < length text = omega (arith, ap length written, length-append xs (d ∷ ys)) in
    lacks (length xs) 0 long (rw written (get_or_at xs d ys 0 (length xs) refl))

-- digits alone
pub digits_lack : (d : ℕ) (text : List ℕ) → AllDigits 10 text → ¬ (IsInRange 48 57 d) → Lacks d text
digits_lack d text all outside = All-from_get_or (λ c. c ≢ d) text 0 (λ i inside e. outside (rw e at (digit_at text i all inside)))

-- a text that lacks a sign, another sign, and such a text
pub lacks_both : (d c : ℕ) (xs ys : List ℕ) → Lacks d xs → c ≢ d → Lacks d ys → Lacks d (xs ++ c ∷ ys)
lacks_both d c xs ys left other right = All-append (λ x. x ≢ d) xs (c ∷ ys) left (All-cons (λ x. x ≢ d) c ys other right)

-- a reader's answer, where its values are just those of another relation
pub same_reading : {A : Type 0} (answer : Option A) (P Q : A → Type 0) → ((v : A) → P v → Q v) → ((v : A) → Q v → P v) → IsReading answer P → IsReading answer Q
same_reading None P Q to from reading = λ v q. reading v (from v q)
same_reading (Some v) P Q to from reading = to v reading

-- the answer of a reader is the value, where there is one value
pub the_answer : {A : Type 0} (answer : Option A) (P : A → Type 0) → ((v w : A) → P v → P w → v ≡ w) → IsReading answer P → (v : A) → P v → answer ≡ Some v
the_answer None P same reading v is = absurd (reading v is)
the_answer (Some w) P same reading v is = ap Some (same w v reading is)
