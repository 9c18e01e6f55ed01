-- The walk meets the definition of a match, and each turn of it keeps the answer.
use Rattle.std.proofs.Common.{◌≡◌, ◌≢◌, ◌↔◌, inl, inr, ℕ, List, [], ◌∷◌, ◌++◌, length, drop, ◌<◌, ◌≤◌, map, refl, sym, ap, ◌∙◌, subst, arith}
use Rattle.std.proofs.Common.{suc, get_or, ◌==◌, true, false, eqb-true}
use Rattle.std.proofs.Math.Seq.{drop-cons}
use Rattle.std.proofs.lemmas.List.{drop_all, nil_from_length}
use Rattle.std.proofs.lemmas.Str.{encodes-chars, chars-nil}
use Rattle.std.specs.List.{AllZip, concat}
use Rattle.std.specs.Str.{chars, IsUtf8, encode_utf8_all}
use Rattle.iam_glob.specs.Glob.{Fits, Matches, MatchesFold, folded, sign_by}
use Rattle.iam_glob.specs.Code.Walk.{Covers, Stops, Later, Walks, Reaches, Found, whole, star, off, found_in, IsFront, Settles, signs_left}
use Rattle.iam_glob.specs.declared.walk.Front.{Front}
use Rattle.iam_glob.specs.declared.walk.Front.TheVariants as front
use Rattle.iam_glob.specs.declared.sign.Sign.{Sign}
use Rattle.iam_glob.specs.declared.sign.Sign.TheVariants.{Given, One, Any}

-- what holds of the text holds later or at once
pub later_here : (P : List ℕ → Type 0) (text : List ℕ) → P text → Later P text
later_here P [] h = h
later_here P (c ∷ text) h = inl h

-- what holds later of some later text
pub later_join : (P : List ℕ → Type 0) (text : List ℕ) → Later (Later P) text → Later P text
later_join P [] h = h
later_join P (c ∷ text) (inl h) = h
later_join P (c ∷ text) (inr h) = inr (later_join P text h)

-- a fact that needs a first character holds later of what is behind the first character
pub later_behind : (P Q : List ℕ → Type 0) → (P [] → ⊥) → ((d : ℕ) (text : List ℕ) → P (d ∷ text) → Q text) → (d : ℕ) (text : List ℕ)
    → Later P (d ∷ text) → Later Q text
later_behind P Q none some d text (inl h) = later_here Q text (some d text h)
later_behind P Q none some d [] (inr h) = absurd (none h)
later_behind P Q none some d (e ∷ text) (inr h) = inr (later_behind P Q none some e text h)

-- the signs before the first `Any` fit, so the rest decides
pub reaches_walks : (f : ℕ → ℕ) (signs : List Sign) (text : List ℕ) (signs' : List Sign) (text' : List ℕ)
    → Reaches f signs text signs' text' → Later (Walks f signs') text' → Walks f signs text
reaches_walks f [] text signs' text' r w = absurd r
reaches_walks f (Given c ∷ signs) [] signs' text' r w = absurd r
reaches_walks f (Given c ∷ signs) (d ∷ text) signs' text' r w = (r.0, reaches_walks f signs text signs' text' r.1 w)
reaches_walks f (One ∷ signs) [] signs' text' r w = absurd r
reaches_walks f (One ∷ signs) (d ∷ text) signs' text' r w = reaches_walks f signs text signs' text' r w
reaches_walks f (Any ∷ signs) text signs' text' r w =
    let P : List Sign → Type 0 = λ s. Later (Walks f s) text in
    let Q : List ℕ → Type 0 = λ t. Later (Walks f signs') t in
    subst P (sym r.0) (subst Q (sym r.1) w)

-- the first place is as good as any later one: a later match leaves less text to the signs behind the `Any`
pub reaches_later : (f : ℕ → ℕ) (signs : List Sign) (text : List ℕ) (signs' : List Sign) (text' : List ℕ)
    → Reaches f signs text signs' text' → Later (Walks f signs) text → Later (Walks f signs') text'
reaches_later f [] text signs' text' r w = absurd r
reaches_later f (Given c ∷ signs) [] signs' text' r w = absurd r
reaches_later f (Given c ∷ signs) (d ∷ text) signs' text' r w =
    reaches_later f signs text signs' text' r.1
    (later_behind (Walks f (Given c ∷ signs)) (Walks f signs) (λ h. h) (λ e t h. h.1) d text w)
reaches_later f (One ∷ signs) [] signs' text' r w = absurd r
reaches_later f (One ∷ signs) (d ∷ text) signs' text' r w =
    reaches_later f signs text signs' text' r
    (later_behind (Walks f (One ∷ signs)) (Walks f signs) (λ h. h) (λ e t h. h) d text w)
reaches_later f (Any ∷ signs) text signs' text' r w =
    let P : List Sign → Type 0 = λ s. Later (Walks f s) text' in
    let Q : List ℕ → Type 0 = λ t. Later (Walks f signs) t in
    subst P r.0 (subst Q r.1 (later_join (Walks f signs) text w))

-- the signs behind the `Any` are fewer
pub reaches_fewer : (f : ℕ → ℕ) (signs : List Sign) (text : List ℕ) (signs' : List Sign) (text' : List ℕ)
    → Reaches f signs text signs' text' → length signs' < length signs
reaches_fewer f [] text signs' text' r = absurd r
reaches_fewer f (Given c ∷ signs) [] signs' text' r = absurd r
reaches_fewer f (Given c ∷ signs) (d ∷ text) signs' text' r =
    let fewer : length signs' < length signs = reaches_fewer f signs text signs' text' r.1 in omega arith
reaches_fewer f (One ∷ signs) [] signs' text' r = absurd r
reaches_fewer f (One ∷ signs) (d ∷ text) signs' text' r =
    let fewer : length signs' < length signs = reaches_fewer f signs text signs' text' r in omega arith
reaches_fewer f (Any ∷ signs) text signs' text' r =
    let same : length signs ≡ length signs' = ap length r.0 in omega arith

later_map : (P Q : List ℕ → Type 0) → ((t : List ℕ) → P t → Q t) → (text : List ℕ) → Later P text → Later Q text
later_map P Q go [] h = go [] h
later_map P Q go (c ∷ text) (inl h) = inl (go (c ∷ text) h)
later_map P Q go (c ∷ text) (inr h) = inr (later_map P Q go text h)

-- an `Any` takes the characters that a later match leaves
any_matches : (f : ℕ → ℕ) (signs : List Sign) (text : List ℕ) → Later (λ t. Matches signs (map f t)) text → Matches (Any ∷ signs) (map f text)
any_matches f signs [] m = ([] ∷ m.0, (tt, m.1), m.2)
any_matches f signs (c ∷ text) (inl m) = ([] ∷ m.0, (tt, m.1), m.2)
any_matches f signs (c ∷ text) (inr h) = one_more f signs c text (any_matches f signs text h)
  where
    one_more : (f : ℕ → ℕ) (signs : List Sign) (c : ℕ) (text : List ℕ) → Matches (Any ∷ signs) (map f text) → Matches (Any ∷ signs) (map f (c ∷ text))
    one_more f signs c text ([], z, e) = absurd z
    one_more f signs c text (part ∷ parts, z, e) = ((f c ∷ part) ∷ parts, z, ap (λ t. f c ∷ t) e)

pub walks_matches : (f : ℕ → ℕ) (signs : List Sign) (text : List ℕ) → Walks f signs text → Matches (map (sign_by f) signs) (map f text)
walks_matches f [] [] w = ([], tt, refl)
walks_matches f [] (d ∷ text) w = absurd w
walks_matches f (Given c ∷ signs) [] w = absurd w
walks_matches f (Given c ∷ signs) (d ∷ text) w =
    let m = walks_matches f signs text w.1 in
    ((f c ∷ []) ∷ m.0, (refl, m.1), (let joined : concat m.0 ≡ map f text = m.2 in let same : f c ≡ f d = w.0 in cc))
walks_matches f (One ∷ signs) [] w = absurd w
walks_matches f (One ∷ signs) (d ∷ text) w =
    let m = walks_matches f signs text w in
    ((f d ∷ []) ∷ m.0, (refl, m.1), ap (λ t. f d ∷ t) m.2)
walks_matches f (Any ∷ signs) text w =
    any_matches f (map (sign_by f) signs) text
    (later_map (Walks f signs) (λ t. Matches (map (sign_by f) signs) (map f t)) (λ t h. walks_matches f signs t h) text w)

-- the part of an `Any` is left behind, character by character
any_walks : (f : ℕ → ℕ) (P : List ℕ → Type 0) (part rest text : List ℕ) → ((t : List ℕ) → rest ≡ map f t → P t) → part ++ rest ≡ map f text → Later P text
any_walks f P [] rest text go e = later_here P text (go text e)
any_walks f P (x ∷ part) rest [] go e = let no : ⊥ = cc in absurd no
any_walks f P (x ∷ part) rest (d ∷ text) go e = inr (any_walks f P part rest text go (let same : part ++ rest ≡ map f text = cc in same))

split_walks : (f : ℕ → ℕ) (signs : List Sign) (parts : List (List ℕ)) (text : List ℕ)
    → AllZip Fits (map (sign_by f) signs) parts → concat parts ≡ map f text → Walks f signs text
split_walks f [] [] [] z e = tt
split_walks f [] [] (d ∷ text) z e = let no : ⊥ = cc in no
split_walks f [] (part ∷ parts) text z e = absurd z
split_walks f (sign ∷ signs) [] text z e = absurd z
split_walks f (Given c ∷ signs) (part ∷ parts) [] z e =
    let fits : part ≡ f c ∷ [] = z.0 in let joined : f c ∷ concat parts ≡ [] = rw fits at e in let no : ⊥ = cc in no
split_walks f (Given c ∷ signs) (part ∷ parts) (d ∷ text) z e =
    let fits : part ≡ f c ∷ [] = z.0 in
    let joined : f c ∷ concat parts ≡ f d ∷ map f text = rw fits at e in
    ((let same : f c ≡ f d = cc in same), split_walks f signs parts text z.1 (let rest : concat parts ≡ map f text = cc in rest))
split_walks f (One ∷ signs) ([] ∷ parts) text z e = absurd (omega (arith, z.0))
split_walks f (One ∷ signs) ((x ∷ y ∷ part) ∷ parts) text z e = absurd (omega (arith, z.0))
split_walks f (One ∷ signs) ((x ∷ []) ∷ parts) [] z e = let no : ⊥ = cc in no
split_walks f (One ∷ signs) ((x ∷ []) ∷ parts) (d ∷ text) z e = split_walks f signs parts text z.1 (let rest : concat parts ≡ map f text = cc in rest)
split_walks f (Any ∷ signs) (part ∷ parts) text z e =
    any_walks f (Walks f signs) part (concat parts) text (λ t h. split_walks f signs parts t z.1 h) e

pub matches_walks : (f : ℕ → ℕ) (signs : List Sign) (text : List ℕ) → Matches (map (sign_by f) signs) (map f text) → Walks f signs text
matches_walks f signs text m = split_walks f signs m.0 text m.1 m.2

-- read as they are, characters and signs stay
pub map_same : (text : List ℕ) → map (λ c. c) text ≡ text
map_same [] = refl
map_same (c ∷ text) = ap (λ t. c ∷ t) (map_same text)

pub signs_same : (signs : List Sign) → map (sign_by (λ c. c)) signs ≡ signs
signs_same [] = refl
signs_same (Given c ∷ signs) = ap (λ s. Given c ∷ s) (signs_same signs)
signs_same (One ∷ signs) = ap (λ s. One ∷ s) (signs_same signs)
signs_same (Any ∷ signs) = ap (λ s. Any ∷ s) (signs_same signs)

-- some signs and characters were walked, and what is left decides
pub record Along (f : ℕ → ℕ) (signs : List Sign) (text : List ℕ) (left : List Sign) (rest : List ℕ) : Type 0 where
  pub on : Walks f left rest → Walks f signs text
  pub back : Walks f signs text → Walks f left rest
  pub reach : (signs' : List Sign) (text' : List ℕ) → Reaches f left rest signs' text' → Reaches f signs text signs' text'

pub along_start : (f : ℕ → ℕ) (signs : List Sign) (text : List ℕ) → Along f signs text signs text
along_start f signs text = record { on = λ w. w; back = λ w. w; reach = λ s t r. r }

-- one sign stood for one character
pub along_step : (f : ℕ → ℕ) (signs : List Sign) (text : List ℕ) (sign : Sign) (d : ℕ) (left : List Sign) (rest : List ℕ)
    → Covers f sign d → Along f signs text (sign ∷ left) (d ∷ rest) → Along f signs text left rest
along_step f signs text (Given c) d left rest same a =
    record { on = λ w. a.on (same, w); back = λ w. (a.back w).1; reach = λ s t r. a.reach s t (same, r) }
along_step f signs text One d left rest same a = record { on = λ w. a.on w; back = λ w. a.back w; reach = λ s t r. a.reach s t r }
along_step f signs text Any d left rest same a = absurd same

-- a sign that does not stand for the next character ends the walk
pub along_stops : (f : ℕ → ℕ) (sign : Sign) (left : List Sign) (rest : List ℕ) → sign ≢ Any → Stops f sign rest → ¬ Walks f (sign ∷ left) rest
along_stops f (Given c) left [] not_any stops w = w
along_stops f (Given c) left (d ∷ rest) not_any stops w = stops rest (d, w.0, refl)
along_stops f One left [] not_any stops w = w
along_stops f One left (d ∷ rest) not_any stops w = stops rest (d, tt, refl)
along_stops f Any left rest not_any stops w = not_any refl

-- the sign at `i` does not stand for the next character
pub along_off : (f : ℕ → ℕ) (signs : List Sign) (text : List ℕ) (i : ℕ) (d : Sign) (rest : List ℕ) → i < length signs
    → get_or signs i d ≢ Any → Stops f (get_or signs i d) rest → Along f signs text (drop i signs) rest → ¬ Walks f signs text
along_off f signs text i d rest below not_any stops a w =
    let P : List Sign → Type 0 = λ s. Walks f s rest in
    along_stops f (get_or signs i d) (drop (suc i) signs) rest not_any stops (subst P (drop-cons signs i d below) (a.back w))

-- a text without characters is empty
pub no_chars : (text : List ℕ) → IsUtf8 text → chars text ≡ [] → text ≡ []
no_chars text utf8 none = sym (encodes-chars text utf8) ∙ ap encode_utf8_all none

-- all signs stood for a character, and no text is left
pub along_whole : (f : ℕ → ℕ) (signs : List Sign) (text : List ℕ) (i : ℕ) (rest : List ℕ) → length signs ≤ i
    → (length rest == 0) ≡ true → Along f signs text (drop i signs) (chars rest) → Walks f signs text
along_whole f signs text i rest all empty a =
    let P : List Sign → Type 0 = λ s. Walks f s (chars rest) in
    let Q : List ℕ → Type 0 = λ t. Walks f [] t in
    let none : rest ≡ [] = nil_from_length rest (eqb-true (length rest) 0 empty) in
    a.on (subst P (sym (drop_all i signs all)) (subst Q (sym (ap chars none ∙ chars-nil)) tt))

-- all signs stood for a character, and some text is left
pub along_more : (f : ℕ → ℕ) (signs : List Sign) (text : List ℕ) (i : ℕ) (rest : List ℕ) → length signs ≤ i → IsUtf8 rest
    → (length rest == 0) ≡ false → Along f signs text (drop i signs) (chars rest) → ¬ Walks f signs text
along_more f signs text i rest all utf8 some a w =
    let P : List Sign → Type 0 = λ s. Walks f s (chars rest) in
    let none : rest ≡ [] = no_chars rest utf8 (walks_none f (chars rest) (subst P (drop_all i signs all) (a.back w))) in
    let Q : List ℕ → Type 0 = λ t. (length t == 0) ≡ false in
    let wrong : true ≡ false = subst Q none some in
    cc
  where
    walks_none : (f : ℕ → ℕ) (rest : List ℕ) → Walks f [] rest → rest ≡ []
    walks_none f [] w = refl
    walks_none f (d ∷ rest) w = absurd w

-- a place found at this text settles the question of the whole text
pub settles_found : (f : ℕ → ℕ) (signs : List Sign) (text : List ℕ) (P : Type 0) (found : Found) → IsFront f signs text found
    → found ≢ off → P ↔ Later (Walks f signs) text → Settles f P found
settles_found f signs text P whole front on same = same.1 (later_here (Walks f signs) text front)
settles_found f signs text P (star signs' text') front on same = (
  λ p. reaches_later f signs text signs' text' front (same.0 p),
  λ w. same.1 (later_here (Walks f signs) text (reaches_walks f signs text signs' text' front w)),
)
settles_found f signs text P off front on same = absurd (on refl)

-- a front leaves fewer signs than it was given
pub front_fewer : (f : ℕ → ℕ) (signs : List Sign) (text : List ℕ) (found : Found) → IsFront f signs text found → signs_left found ≤ length signs
front_fewer f signs text whole front = omega arith
front_fewer f signs text (star signs' text') front =
    let fewer : length signs' < length signs = reaches_fewer f signs text signs' text' front in omega arith
front_fewer f signs text off front = omega arith

-- the signs do not match at the end of the text, so not at all
pub later_none : (f : ℕ → ℕ) (P : List ℕ → Type 0) (Q : Type 0) (text : List ℕ) → ¬ P text → Stops f One text → Q ↔ Later P text → ¬ Q
later_none f P Q [] not_here stops same q = not_here (same.0 q)
later_none f P Q (d ∷ text) not_here stops same q = stops text (d, tt, refl)

-- what a front tells of the signs and the text themselves
pub settles_front : (f : ℕ → ℕ) (signs : List Sign) (text : List ℕ) (found : Found) → IsFront f signs text found → Settles f (Walks f signs text) found
settles_front f signs text whole front = front
settles_front f signs text (star signs' text') front = (
  λ w. reaches_later f signs text signs' text' front (later_here (Walks f signs) text w),
  λ w. reaches_walks f signs text signs' text' front w,
)
settles_front f signs text off front = front

-- an equivalent question is settled by the same place
pub settles_same : (f : ℕ → ℕ) (P Q : Type 0) (found : Found) → P ↔ Q → Settles f Q found → Settles f P found
settles_same f P Q whole same s = same.1 s
settles_same f P Q (star signs text) same s = (λ p. s.0 (same.0 p), λ w. same.1 (s.1 w))
settles_same f P Q off same s = λ p. s (same.0 p)

-- no signs match the end of each text
pub later_end : (f : ℕ → ℕ) (text : List ℕ) → Later (Walks f []) text
later_end f [] = tt
later_end f (d ∷ text) = inr (later_end f text)

-- the walk is the match, with regard to case
pub kept_matches : (signs : List Sign) (text : List ℕ) → Walks (λ c. c) signs text ↔ Matches signs text
kept_matches signs text =
    let P : List Sign → Type 0 = λ s. Matches s text in
    let Q : List ℕ → Type 0 = λ t. Matches (map (sign_by (λ c. c)) signs) t in (
      λ w. subst P (signs_same signs) (subst Q (map_same text) (walks_matches (λ c. c) signs text w)),
      λ m. matches_walks (λ c. c) signs text (subst Q (sym (map_same text)) (subst P (sym (signs_same signs)) m)),
    )

-- the walk over folded characters is the match without regard to case
pub folded_matches : (signs : List Sign) (text : List ℕ) → Walks folded signs text ↔ MatchesFold signs text
folded_matches signs text = (λ w. walks_matches folded signs text w, λ m. matches_walks folded signs text m)

-- what was found is not off
pub not_off : (found : Front) → found ≢ front.Off → found_in found ≢ off
not_off front.Whole on e = cc
not_off (front.Star signs text) on e = cc
not_off front.Off on e = on refl

-- no signs are left, and they match the end of each text
pub later_all : (f : ℕ → ℕ) (signs : List Sign) (text : List ℕ) → (length signs == 0) ≡ true → Later (Walks f signs) text
later_all f [] text empty = later_end f text
later_all f (sign ∷ signs) text empty =
    let none : length (sign ∷ signs) ≡ 0 = eqb-true (length (sign ∷ signs)) 0 empty in absurd (omega arith)
