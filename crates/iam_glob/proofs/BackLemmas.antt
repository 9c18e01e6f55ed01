-- The last sign of a pattern stands for the last character of the text, or the pattern does not match.
use Rattle.std.proofs.Common.{◌≡◌, ◌≢◌, ◌↔◌, ◌⊎◌, inl, inr, ℕ, List, [], ◌∷◌, ◌++◌, refl, sym, ap, ◌∙◌, subst}
use Rattle.std.proofs.Common.{append-nil, arith, get_or, length, take, ◌+◌, ◌-◌, ◌<◌, ◌≤◌}
use Rattle.std.proofs.lemmas.List.{take_more}
use Rattle.std.proofs.lemmas.Str.{encodes-append, encodes-chars, encodes_same}
use Rattle.std.specs.Prelude.{encode_utf8}
use Rattle.std.specs.Str.{chars, IsUtf8, encode_utf8_all}
use Rattle.iam_glob.specs.Code.Walk.{Covers, ComesBack, StopsBack, Later, Walks}
use Rattle.iam_glob.specs.declared.sign.Sign.{Sign}
use Rattle.iam_glob.specs.declared.sign.Sign.TheVariants.{Given, One, Any}

-- no signs stand for no text
none_longer : (f : ℕ → ℕ) (text : List ℕ) (d : ℕ) → ¬ Walks f [] (text ++ (d ∷ []))
none_longer f [] d w = w
none_longer f (e ∷ text) d w = w

-- a sign that stands for one character does not stand for the empty text
pub last_none : (f : ℕ → ℕ) (signs : List Sign) (sign : Sign) → sign ≢ Any → ¬ Walks f (signs ++ (sign ∷ [])) []
last_none f [] (Given c) one w = w
last_none f [] One one w = w
last_none f [] Any one w = one refl
last_none f (Given c ∷ signs) sign one w = w
last_none f (One ∷ signs) sign one w = w
last_none f (Any ∷ signs) sign one w = last_none f signs sign one w

-- nor for a longer one
last_longer : (f : ℕ → ℕ) (sign : Sign) (e : ℕ) (text : List ℕ) (d : ℕ) → sign ≢ Any → ¬ Walks f (sign ∷ []) (e ∷ (text ++ (d ∷ [])))
last_longer f (Given c) e text d one w = none_longer f text d w.1
last_longer f One e text d one w = none_longer f text d w
last_longer f Any e text d one w = one refl

last_covers : (f : ℕ → ℕ) (sign : Sign) (d : ℕ) → sign ≢ Any → Walks f (sign ∷ []) (d ∷ []) → Covers f sign d
last_covers f (Given c) d one w = w.0
last_covers f One d one w = tt
last_covers f Any d one w = absurd (one refl)

covers_last : (f : ℕ → ℕ) (sign : Sign) (d : ℕ) → Covers f sign d → Walks f (sign ∷ []) (d ∷ [])
covers_last f (Given c) d covers = (covers, tt)
covers_last f One d covers = tt
covers_last f Any d covers = absurd covers

-- what holds later holds later before one more character
later_longer : (P Q : List ℕ → Type 0) (d : ℕ) → ((t : List ℕ) → P t → Q (t ++ (d ∷ []))) → (text : List ℕ)
    → Later P text → Later Q (text ++ (d ∷ []))
later_longer P Q d go [] h = inl (go [] h)
later_longer P Q d go (c ∷ text) (inl h) = inl (go (c ∷ text) h)
later_longer P Q d go (c ∷ text) (inr h) = inr (later_longer P Q d go text h)

later_shorter : (P Q : List ℕ → Type 0) (C : Type 0) (d : ℕ) → ¬ P [] → ((t : List ℕ) → P (t ++ (d ∷ [])) → C × Q t) → (text : List ℕ)
    → Later P (text ++ (d ∷ [])) → C × Later Q text
later_shorter P Q C d none go [] (inl h) = go [] h
later_shorter P Q C d none go [] (inr h) = absurd (none h)
later_shorter P Q C d none go (c ∷ text) (inl h) = let both = go (c ∷ text) h in (both.0, inl both.1)
later_shorter P Q C d none go (c ∷ text) (inr h) = let both = later_shorter P Q C d none go text h in (both.0, inr both.1)

-- the last sign stands for the last character
pub walks_longer : (f : ℕ → ℕ) (signs : List Sign) (sign : Sign) (text : List ℕ) (d : ℕ) → Covers f sign d → Walks f signs text
    → Walks f (signs ++ (sign ∷ [])) (text ++ (d ∷ []))
walks_longer f [] sign [] d covers w = covers_last f sign d covers
walks_longer f [] sign (e ∷ text) d covers w = absurd w
walks_longer f (Given c ∷ signs) sign [] d covers w = absurd w
walks_longer f (Given c ∷ signs) sign (e ∷ text) d covers w = (w.0, walks_longer f signs sign text d covers w.1)
walks_longer f (One ∷ signs) sign [] d covers w = absurd w
walks_longer f (One ∷ signs) sign (e ∷ text) d covers w = walks_longer f signs sign text d covers w
walks_longer f (Any ∷ signs) sign text d covers w =
    later_longer (Walks f signs) (Walks f (signs ++ (sign ∷ []))) d (λ t h. walks_longer f signs sign t d covers h) text w

pub walks_shorter : (f : ℕ → ℕ) (signs : List Sign) (sign : Sign) (text : List ℕ) (d : ℕ) → sign ≢ Any
    → Walks f (signs ++ (sign ∷ [])) (text ++ (d ∷ [])) → Covers f sign d × Walks f signs text
walks_shorter f [] sign [] d one w = (last_covers f sign d one w, tt)
walks_shorter f [] sign (e ∷ text) d one w = absurd (last_longer f sign e text d one w)
walks_shorter f (Given c ∷ signs) sign [] d one w = absurd (last_none f signs sign one w.1)
walks_shorter f (Given c ∷ signs) sign (e ∷ text) d one w = let both = walks_shorter f signs sign text d one w.1 in (both.0, (w.0, both.1))
walks_shorter f (One ∷ signs) sign [] d one w = absurd (last_none f signs sign one w)
walks_shorter f (One ∷ signs) sign (e ∷ text) d one w = walks_shorter f signs sign text d one w
walks_shorter f (Any ∷ signs) sign text d one w =
    later_shorter (Walks f (signs ++ (sign ∷ []))) (Walks f signs) (Covers f sign d) d (last_none f signs sign one)
    (λ t h. walks_shorter f signs sign t d one h) text w

-- the signs up to a place end with the sign before it
pub take_last : (signs : List Sign) (len : ℕ) (sign d : Sign) → 0 < len → len ≤ length signs → sign ≡ get_or signs (len - 1) d
    → take len signs ≡ take (len - 1) signs ++ (sign ∷ [])
take_last signs len sign d some within is =
    let S : ℕ → Type 0 = λ n. take n signs ≡ take (len - 1) signs ++ (sign ∷ []) in
    let next : len - 1 + 1 ≡ len = omega arith in
    subst S next (rw is (take_more signs (len - 1) d (omega arith)))

-- the last sign and the last character are walked, and what is left decides
pub back_step : (f : ℕ → ℕ) (P : Type 0) (signs before : List Sign) (sign : Sign) (text rest : List ℕ) → sign ≢ Any
    → signs ≡ before ++ (sign ∷ []) → ComesBack f sign text rest → P ↔ Walks f signs text → P ↔ Walks f before rest
back_step f P signs before sign text rest one split came same =
    let S : List Sign → Type 0 = λ s. P ↔ Walks f s text in
    let T : List ℕ → Type 0 = λ t. P ↔ Walks f (before ++ (sign ∷ [])) t in
    let both = subst T came.2 (subst S split same) in
    (λ p. (walks_shorter f before sign rest came.0 one (both.0 p)).1, λ w. both.1 (walks_longer f before sign rest came.0 came.1 w))

-- a text is empty, or has a last character
pub last_or_none : (text : List ℕ) → (text ≡ []) ⊎ ((rest : List ℕ) × (d : ℕ) × (text ≡ rest ++ (d ∷ [])))
last_or_none [] = inl refl
last_or_none (c ∷ text) = more c text (last_or_none text)
  where
    more : (c : ℕ) (text : List ℕ) → (text ≡ []) ⊎ ((rest : List ℕ) × (d : ℕ) × (text ≡ rest ++ (d ∷ [])))
        → (c ∷ text ≡ []) ⊎ ((rest : List ℕ) × (d : ℕ) × (c ∷ text ≡ rest ++ (d ∷ [])))
    more c text (inl none) = inr ([], c, ap (λ t. c ∷ t) none)
    more c text (inr (rest, d, e)) = inr (c ∷ rest, d, ap (λ t. c ∷ t) e)

-- a last sign that does not stand for the last character refuses the text
pub back_stops : (f : ℕ → ℕ) (P : Type 0) (signs before : List Sign) (sign : Sign) (text : List ℕ) → sign ≢ Any
    → signs ≡ before ++ (sign ∷ []) → StopsBack f sign text → P ↔ Walks f signs text → ¬ P
back_stops f P signs before sign text one split stops same p =
    let S : List Sign → Type 0 = λ s. Walks f s text in
    ends f before sign text one stops (last_or_none text) (subst S split (same.0 p))
  where
    ends : (f : ℕ → ℕ) (before : List Sign) (sign : Sign) (text : List ℕ) → sign ≢ Any → StopsBack f sign text
        → (text ≡ []) ⊎ ((rest : List ℕ) × (d : ℕ) × (text ≡ rest ++ (d ∷ []))) → ¬ Walks f (before ++ (sign ∷ [])) text
    ends f before sign text one stops (inl none) w =
        let T : List ℕ → Type 0 = λ t. Walks f (before ++ (sign ∷ [])) t in
        last_none f before sign one (subst T none w)
    ends f before sign text one stops (inr (rest, d, e)) w =
        let T : List ℕ → Type 0 = λ t. Walks f (before ++ (sign ∷ [])) t in
        stops rest (d, (walks_shorter f before sign rest d one (subst T e w)).0, e)

-- the characters of a text whose last one is known
pub chars_before_char : (bs rest : List ℕ) (c : ℕ) → IsUtf8 bs → IsUtf8 rest → bs ≡ rest ++ encode_utf8 c → chars bs ≡ chars rest ++ (c ∷ [])
chars_before_char bs rest c utf8 before e =
    let joined : encode_utf8_all (chars rest ++ (c ∷ [])) ≡ encode_utf8_all (chars rest) ++ (encode_utf8 c ++ []) = encodes-append (chars rest) (c ∷ []) in
    let last : rest ++ encode_utf8 c ≡ encode_utf8_all (chars rest) ++ (encode_utf8 c ++ []) =
    ap (λ t. t ++ encode_utf8 c) (sym (encodes-chars rest before)) ∙ ap (λ t. encode_utf8_all (chars rest) ++ t) (sym (append-nil (encode_utf8 c))) in
    encodes_same (chars bs) (chars rest ++ (c ∷ [])) (encodes-chars bs utf8 ∙ (e ∙ (last ∙ sym joined)))

-- one last character
last_same : (xs ys : List ℕ) (a b : ℕ) → xs ++ (a ∷ []) ≡ ys ++ (b ∷ []) → a ≡ b
last_same [] [] a b e = cc
last_same [] (y ∷ []) a b e = cc
last_same [] (y ∷ z ∷ ys) a b e = cc
last_same (x ∷ []) [] a b e = cc
last_same (x ∷ z ∷ xs) [] a b e = cc
last_same (x ∷ xs) (y ∷ ys) a b e = last_same xs ys a b cc

-- the sign does not stand for the last character
pub last_wrong : (f : ℕ → ℕ) (sign : Sign) (text before : List ℕ) (last : ℕ) → text ≡ before ++ (last ∷ []) → ¬ Covers f sign last
    → StopsBack f sign text
last_wrong f sign text before last e wrong rest came =
    let C : ℕ → Type 0 = λ d. Covers f sign d in
    wrong (subst C (last_same rest before came.0 last (sym came.2 ∙ e)) came.1)

-- no character is the last of an empty text
pub no_last : (f : ℕ → ℕ) (sign : Sign) (text : List ℕ) → text ≡ [] → StopsBack f sign text
no_last f sign text none [] came = let e = came.2 in cc
no_last f sign text none (x ∷ rest) came = let e = came.2 in cc
