-- What stands before the first `${` of a text.
use Rattle.std.proofs.Common.{◌≡◌, ℕ, List, [], ◌∷◌, ◌++◌, Bool, true, false, ◌==◌, ◌&&◌, ◌||◌, ◌≢◌, not, nat_le, nat_lt, IsTrue, Some, None, refl, ap, ◌∙◌, arith, codes, eqb-true, cond, option_map}
use Rattle.std.specs.List.{list_any}
use Rattle.std.specs.Option.{option_map_or}
use Rattle.std.proofs.lemmas.List.{append-nil}
use Rattle.iam_element.specs.Grammar.{before_variable, has_early_variable, is_bad_variable}
use Rattle.iam_text.specs.declared.version.Version.{Version}
use Rattle.iam_text.specs.declared.version.Version.TheVariants.{V2012, V2008}
use Rattle.iam_text.specs.Variables.{is_draft, is_draft_from, is_draft_in, opened, outside, dollar}
use Rattle.iam_text.specs.Arn.{colons}
use Rattle.iam_text.specs.Stretches.{IsCutAtForm, NoneBegins}
use Rattle.iam_element.proofs.ElementLemmas.{first_false, second_false}

-- a text whose first two characters are the sign, or are not
sign_here : (c d : ℕ) (text : List ℕ) → (c == 36 && d == 123) ≡ true → c ∷ (d ∷ text) ≡ codes "${" ++ text
sign_here c d text is = go (c == 36) (d == 123) refl refl is
  where
    go : (x y : Bool) → (c == 36) ≡ x → (d == 123) ≡ y → (x && y) ≡ true → c ∷ (d ∷ text) ≡ codes "${" ++ text
    go true true e f h = ap (λ x. x ∷ (d ∷ text)) (eqb-true c 36 e) ∙ ap (λ x. 36 ∷ (x ∷ text)) (eqb-true d 123 f)
    go true false e f h = cc
    go false y e f h = cc

-- where `${` does not stand at the front, the first one is that of the rest
before_next : (c d : ℕ) (text : List ℕ) → ((inside : List ℕ) → c ∷ (d ∷ text) ≢ codes "${" ++ inside)
    → before_variable (c ∷ (d ∷ text)) ≡ option_map (λ front. c ∷ front) (before_variable (d ∷ text))
before_next c d text off = go (c == 36 && d == 123) refl
  where
    go : (b : Bool) → (c == 36 && d == 123) ≡ b → before_variable (c ∷ (d ∷ text)) ≡ option_map (λ front. c ∷ front) (before_variable (d ∷ text))
    go true e = absurd (off text (sign_here c d text e))
    go false e = ap (λ b. cond b (Some []) (option_map (λ front. c ∷ front) (before_variable (d ∷ text)))) e

none_here : (c : ℕ) (front rest : List ℕ) → NoneBegins (c ∷ front) rest → (inside : List ℕ) → (c ∷ front) ++ rest ≢ codes "${" ++ inside
none_here c front rest none inside e = omega (arith, none [] inside e)

none_behind : (c : ℕ) (front rest : List ℕ) → NoneBegins (c ∷ front) rest → NoneBegins front rest
none_behind c front rest none before inside e = omega (arith, none (c ∷ before) inside (ap (λ t. c ∷ t) e))

before_some : (front inside : List ℕ) → NoneBegins front (codes "${" ++ inside) → before_variable (front ++ (codes "${" ++ inside)) ≡ Some front
before_some [] inside none = refl
before_some (c ∷ []) inside none = before_next c 36 (123 ∷ inside) (none_here c [] (codes "${" ++ inside) none)
before_some (c ∷ d ∷ front) inside none =
    before_next c d (front ++ (codes "${" ++ inside)) (none_here c (d ∷ front) (codes "${" ++ inside) none)
    ∙ ap (option_map (λ front. c ∷ front)) (before_some (d ∷ front) inside (none_behind c (d ∷ front) (codes "${" ++ inside) none))

before_none : (text : List ℕ) → NoneBegins text [] → before_variable text ≡ None
before_none [] none = refl
before_none (c ∷ []) none = refl
before_none (c ∷ d ∷ text) none =
    before_next c d text (λ inside e. none_here c (d ∷ text) [] none inside (append-nil (c ∷ (d ∷ text)) ∙ e))
    ∙ ap (option_map (λ front. c ∷ front)) (before_none (d ∷ text) (none_behind c (d ∷ text) [] none))

-- a text in which no variable begins
pub none_bad : (text : List ℕ) → is_draft text ≡ true → NoneBegins text [] → (not (is_draft text) || has_early_variable text) ≡ false
none_bad text drafted none =
    ap (λ b. not b || has_early_variable text) drafted ∙ ap (λ o. option_map_or (λ front. nat_lt (colons front) 5) o false) (before_none text none)

-- a text that is cut at its first variable
pub cut_bad : (text front inside : List ℕ) → IsCutAtForm text front inside → is_draft text ≡ is_draft_from opened inside
    → (not (is_draft text) || has_early_variable text) ≡ (not (is_draft_from opened inside) || nat_lt (colons front) 5)
cut_bad text front inside (joined, none) same =
    ap (λ b. not b || has_early_variable text) same
    ∙ ap (λ o. not (is_draft_from opened inside) || option_map_or (λ f. nat_lt (colons f) 5) o false) (ap before_variable joined ∙ before_some front inside none)

pub turned : (b : Bool) → not b ≡ false → b ≡ true
turned true e = cc
turned false e = cc

-- a text without `$` has no variable
pub dollar_bad : (text : List ℕ) → list_any (λ c. c == 36) text ≡ false → (not (is_draft text) || has_early_variable text) ≡ false
dollar_bad text none = ap (λ b. not b || has_early_variable text) (passes text none) ∙ ap (λ o. option_map_or (λ front. nat_lt (colons front) 5) o false) (before text none)
  where
    passes : (t : List ℕ) → list_any (λ c. c == 36) t ≡ false → is_draft t ≡ true
    passes [] off = refl
    passes (c ∷ t) off =
        ap (λ b. option_map_or (λ s. is_draft_from s t) (cond b (Some dollar) (Some outside)) false) (first_false (c == 36) (list_any (λ x. x == 36) t) off)
        ∙ passes t (second_false (c == 36) (list_any (λ x. x == 36) t) off)

    before : (t : List ℕ) → list_any (λ c. c == 36) t ≡ false → before_variable t ≡ None
    before [] off = refl
    before (c ∷ []) off = refl
    before (c ∷ d ∷ t) off =
        ap (λ b. cond (b && d == 123) (Some []) (option_map (λ front. c ∷ front) (before_variable (d ∷ t)))) (first_false (c == 36) (list_any (λ x. x == 36) (d ∷ t)) off)
        ∙ ap (option_map (λ front. c ∷ front)) (before (d ∷ t) (second_false (c == 36) (list_any (λ x. x == 36) (d ∷ t)) off))

-- fewer than five colons are not five
pub few_colons : (n : ℕ) → not (nat_le 5 n) ≡ nat_lt n 5
few_colons n = go (nat_le 5 n) (nat_lt n 5) refl refl
  where
    go : (a b : Bool) → nat_le 5 n ≡ a → nat_lt n 5 ≡ b → not (nat_le 5 n) ≡ nat_lt n 5
    go a b e f = grind arith

-- a text without a bad variable passes the test of the grammar
pub drafted : (version : Version) (text : List ℕ) → is_bad_variable version text ≡ false → IsTrue (is_draft_in version text)
drafted V2012 text clean = turned (is_draft text) (first_false (not (is_draft text)) (has_early_variable text) clean)
drafted V2008 text clean = refl
