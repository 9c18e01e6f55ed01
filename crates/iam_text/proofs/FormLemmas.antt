-- What a text begins with is determined.
use Rattle.std.proofs.Common.{◌≡◌, ◌≢◌, ℕ, ◌<◌, ◌≤◌, zero, suc, List, [], ◌∷◌, ◌++◌, Bool, true, false, ◌&&◌, ◌||◌, ◌==◌, not, length, drop, replicate, Option, Some, None, refl, sym, ap, ◌∙◌, subst, arith, IsTrue, eqb-true, eq-eqb, get_or, inl, inr, ◌⊎◌, MatchOption, nat_lt, codes, take, ◌+◌, add-one, length-append}
use Rattle.std.proofs.Math.Seq.{drop-cons}
use Rattle.std.proofs.lemmas.Bool.{and_parts, cases_lt}
use Rattle.std.proofs.lemmas.List.{append-nil, append_assoc, append_cancel_left, get_or_at, length-take, take-append-drop}
use Rattle.std.proofs.lemmas.Str.{cons_from_encodes}
use Rattle.std.specs.Str.{encode_utf8_all}
use Rattle.std.specs.Char.{encode_utf8}
use Rattle.std.specs.List.{list_all}
use Rattle.iam_text.specs.declared.draft.Piece.{Piece}
use Rattle.iam_text.specs.declared.draft.Piece.TheVariants.{Plain, Escaped, Variable}
use Rattle.iam_text.specs.Draft.{is_key, is_key_character}
use Rattle.iam_text.specs.Code.Forms.{BeginsAt, HasDefault, HasForm, HasLiteral, IsClosed, IsCutKey, IsFirstForm, IsQuoted}
use Rattle.iam_text.specs.Stretches.{IsCutAtForm, NoneBegins}

-- a run of characters that pass, up to one that does not, is the only one
pub run_unique : (test : ℕ → Bool) (xs ys : List ℕ) (c d : ℕ) (us vs : List ℕ) → list_all test xs ≡ true → list_all test ys ≡ true
    → test c ≡ false → test d ≡ false → xs ++ (c ∷ us) ≡ ys ++ (d ∷ vs) → (xs ≡ ys) × (c ≡ d) × (us ≡ vs)
run_unique test [] [] c d us vs all all' off off' e = (refl, (let heads : c ≡ d = cc in heads), (let tails : us ≡ vs = cc in tails))
run_unique test [] (y ∷ ys) c d us vs all all' off off' e =
    let heads : c ≡ y = cc in
    let wrong : true ≡ false = sym (and_parts (test y) (list_all test ys) all').0 ∙ ap test (sym heads) ∙ off in
    absurd (let no : ⊥ = cc in no)
run_unique test (x ∷ xs) [] c d us vs all all' off off' e =
    let heads : x ≡ d = cc in
    let wrong : true ≡ false = sym (and_parts (test x) (list_all test xs) all).0 ∙ ap test heads ∙ off' in
    absurd (let no : ⊥ = cc in no)
run_unique test (x ∷ xs) (y ∷ ys) c d us vs all all' off off' e =
    let heads : x ≡ y = cc in
    let rest = run_unique test xs ys c d us vs (and_parts (test x) (list_all test xs) all).1 (and_parts (test y) (list_all test ys) all').1 off off'
    (let tails : xs ++ (c ∷ us) ≡ ys ++ (d ∷ vs) = cc in tails) in
    let same : xs ≡ ys = rest.0 in
    ((let whole : x ∷ xs ≡ y ∷ ys = cc in whole), rest.1, rest.2)

-- the shorter of two beginnings of one text begins the longer one
begins : (xs ys r t : List ℕ) → xs ++ r ≡ ys ++ t → length xs ≤ length ys → ys ≡ xs ++ drop (length xs) ys
begins [] ys r t e short = refl
begins (x ∷ xs) [] r t e short = absurd (omega arith)
begins (x ∷ xs) (y ∷ ys) r t e short =
    let heads : x ≡ y = cc in
    let rest : ys ≡ xs ++ drop (length xs) ys = begins xs ys r t (let tails : xs ++ r ≡ ys ++ t = cc in tails) (omega arith) in
    ap (λ z. z ∷ ys) (sym heads) ∙ ap (λ z. x ∷ z) rest

within : (c d : ℕ) (r t : List ℕ) → encode_utf8 c ++ r ≡ encode_utf8 d ++ t → length (encode_utf8 c) ≤ length (encode_utf8 d) → c ≡ d
within c d r t e short =
    let whole : encode_utf8_all (d ∷ []) ≡ encode_utf8 c ++ drop (length (encode_utf8 c)) (encode_utf8 d) =
    append-nil (encode_utf8 d) ∙ begins (encode_utf8 c) (encode_utf8 d) r t e short in
    let found = cons_from_encodes (d ∷ []) (drop (length (encode_utf8 c)) (encode_utf8 d)) c whole in
    let same : d ∷ [] ≡ c ∷ found.0 = found.1 in
    let heads : c ≡ d = cc in
    heads

-- a text begins with one character
pub one_character : (c d : ℕ) (r t : List ℕ) → encode_utf8 c ++ r ≡ encode_utf8 d ++ t → (c ≡ d) × (r ≡ t)
one_character c d r t e = go (cases_lt (length (encode_utf8 c)) (length (encode_utf8 d)))
  where
    finish : c ≡ d → (c ≡ d) × (r ≡ t)
    finish same = (same, append_cancel_left (encode_utf8 c) r t (e ∙ ap (λ x. encode_utf8 x ++ t) (sym same)))

    go : (length (encode_utf8 c) < length (encode_utf8 d)) ⊎ (length (encode_utf8 d) ≤ length (encode_utf8 c)) → (c ≡ d) × (r ≡ t)
    go (inl short) = finish (within c d r t e (omega arith))
    go (inr long) = finish (sym (within d c t r (sym e) long))

-- one more space
pub spaces_more : (n : ℕ) (rest : List ℕ) → replicate n 32 ++ (32 ∷ rest) ≡ replicate (suc n) 32 ++ rest
spaces_more zero rest = refl
spaces_more (suc n) rest = ap (λ t. 32 ∷ t) (spaces_more n rest)

-- what stands behind all spaces
pub spaces_unique : (n m : ℕ) (t u : List ℕ) → ((rest : List ℕ) → t ≢ 32 ∷ rest) → ((rest : List ℕ) → u ≢ 32 ∷ rest)
    → replicate n 32 ++ t ≡ replicate m 32 ++ u → t ≡ u
spaces_unique zero zero t u off off' e = e
spaces_unique zero (suc m) t u off off' e = absurd (off (replicate m 32 ++ u) e)
spaces_unique (suc n) zero t u off off' e = absurd (off' (replicate n 32 ++ t) (sym e))
spaces_unique (suc n) (suc m) t u off off' e =
    spaces_unique n m t u off off' (let tails : replicate n 32 ++ t ≡ replicate m 32 ++ u = cc in tails)

other : (c d : ℕ) → c ≢ d → not (c == d) ≡ true
other c d differs = go (c == d) refl
  where
    go : (b : Bool) → (c == d) ≡ b → not b ≡ true
    go false e = refl
    go true e = absurd (differs (eqb-true c d e))

differs : (c d : ℕ) → not (c == d) ≡ true → c ≢ d
differs c d test same = let wrong : true ≡ false = sym test ∙ ap not (eq-eqb c d same) in absurd (let no : ⊥ = cc in no)

-- no character of the text is `d`, by test and by index
pub absent : (d : ℕ) (text : List ℕ) → list_all (λ c. not (c == d)) text ≡ true → (i : ℕ) → i < length text → get_or text i 0 ≢ d
absent d [] all i below = absurd (omega arith)
absent d (c ∷ text) all zero below = differs c d (and_parts (not (c == d)) (list_all (λ x. not (x == d)) text) all).0
absent d (c ∷ text) all (suc i) below = absent d text (and_parts (not (c == d)) (list_all (λ x. not (x == d)) text) all).1 i (omega arith)

pub all_absent : (d : ℕ) (text : List ℕ) → ((i : ℕ) → i < length text → get_or text i 0 ≢ d) → list_all (λ c. not (c == d)) text ≡ true
all_absent d [] none = refl
all_absent d (c ∷ text) none =
    ap (λ b. b && list_all (λ x. not (x == d)) text) (other c d (none 0 (omega arith))) ∙ all_absent d text (λ i below. none (suc i) (omega arith))

-- a default in quotes, behind the spaces
pub quoted_behind : (text inside default rest : List ℕ) (n : ℕ) → text ≡ replicate n 32 ++ inside → ((more : List ℕ) → inside ≢ 32 ∷ more)
    → IsQuoted text default rest → IsTrue (list_all (λ c. not (c == 39)) default) × (inside ≡ 39 ∷ (default ++ (39 ∷ (125 ∷ rest))))
quoted_behind text inside default rest n spaces off (m, plain, joined) = (
  plain,
  spaces_unique n m inside (39 ∷ (default ++ (39 ∷ (125 ∷ rest)))) off (λ more e. let wrong : ◌≡◌ {A = ℕ} 39 32 = cc in absurd (omega arith)) (sym spaces ∙ joined),
)

-- no character of a run is one that does not pass
avoids : (test : ℕ → Bool) (d : ℕ) → test d ≡ false → (text : List ℕ) → list_all test text ≡ true → (i : ℕ) → i < length text → get_or text i 0 ≢ d
avoids test d off [] all i below = absurd (omega arith)
avoids test d off (c ∷ text) all zero below = λ same.
    let wrong : true ≡ false = sym (and_parts (test c) (list_all test text) all).0 ∙ ap test same ∙ off in
    let no : ⊥ = cc in
    no
avoids test d off (c ∷ text) all (suc i) below = avoids test d off text (and_parts (test c) (list_all test text) all).1 i (omega arith)

pub key_all : (key : List ℕ) → is_key key ≡ true → list_all is_key_character key ≡ true
key_all key is = (and_parts (nat_lt 0 (length key)) (list_all is_key_character key) is).1

pub key_avoids : (d : ℕ) → is_key_character d ≡ false → (key : List ℕ) → is_key key ≡ true → (i : ℕ) → i < length key → get_or key i 0 ≢ d
key_avoids d off key is = avoids is_key_character d off key (key_all key is)

-- `*`, `?` and `$`
abbrev is_literal : ℕ → Bool
is_literal c = c == 42 || c == 63 || c == 36

literal_cases : (c : ℕ) → is_literal c ≡ true → (c ≡ 42) ⊎ ((c ≡ 63) ⊎ (c ≡ 36))
literal_cases c is = go (c == 42) (c == 63) (c == 36) refl refl refl is
  where
    go : (x y z : Bool) → (c == 42) ≡ x → (c == 63) ≡ y → (c == 36) ≡ z → (x || y || z) ≡ true → (c ≡ 42) ⊎ ((c ≡ 63) ⊎ (c ≡ 36))
    go true y z e f g t = inl (eqb-true c 42 e)
    go false true z e f g t = inr (inl (eqb-true c 63 f))
    go false false true e f g t = inr (inr (eqb-true c 36 g))
    go false false false e f g t = absurd (let no : ⊥ = cc in no)

pub literal_no_key : (c : ℕ) → is_literal c ≡ true → is_key_character c ≡ false
literal_no_key c is = go (literal_cases c is)
  where
    go : (c ≡ 42) ⊎ ((c ≡ 63) ⊎ (c ≡ 36)) → is_key_character c ≡ false
    go (inl e) = ap is_key_character e
    go (inr (inl e)) = ap is_key_character e
    go (inr (inr e)) = ap is_key_character e

literal_open : (c : ℕ) → is_literal c ≡ true → c ≢ 125
literal_open c is same = go (literal_cases c is)
  where
    go : (c ≡ 42) ⊎ ((c ≡ 63) ⊎ (c ≡ 36)) → ⊥
    go (inl e) = omega arith
    go (inr (inl e)) = omega arith
    go (inr (inr e)) = omega arith

-- no `}` stands in what is closed by one
pub closed_avoids : (piece : Piece) (inside : List ℕ) → IsClosed piece inside → (i : ℕ) → i < length inside → get_or inside i 0 ≢ 125
closed_avoids (Plain sign) inside closed = absurd closed
closed_avoids (Escaped c) inside (literal, is) =
    let P : List ℕ → Type 0 = λ t. (i : ℕ) → i < length t → get_or t i 0 ≢ 125 in
    subst P (sym is) (absent 125 (c ∷ []) (ap (λ b. b && true) (other c 125 (literal_open c literal))))
closed_avoids (Variable key None) inside (is, same) =
    let P : List ℕ → Type 0 = λ t. (i : ℕ) → i < length t → get_or t i 0 ≢ 125 in
    subst P (sym same) (key_avoids 125 refl key is)
closed_avoids (Variable key (Some default)) inside closed = absurd closed

-- the parts of a variable with a default
pub default_cut : (piece : Piece) (text rest : List ℕ) → HasDefault piece text rest
    → (key : List ℕ) × (default : List ℕ) × (behind : List ℕ) × IsTrue (is_key key) × (text ≡ key ++ (44 ∷ behind)) × IsQuoted behind default rest
default_cut (Plain sign) text rest has = absurd has
default_cut (Escaped c) text rest has = absurd has
default_cut (Variable key None) text rest has = absurd has
default_cut (Variable key (Some default)) text rest (behind, is, joined, quoted) = (key, default, behind, is, joined, quoted)

-- a cut behind all that pass is the only one before what does not
cut_unique : (test : ℕ → Bool) (xs behind ys : List ℕ) (d : ℕ) (rest : List ℕ) → list_all test xs ≡ true
    → ((c : ℕ) (more : List ℕ) → behind ≡ c ∷ more → test c ≡ false) → list_all test ys ≡ true → test d ≡ false → xs ++ behind ≡ ys ++ (d ∷ rest)
    → (xs ≡ ys) × (behind ≡ d ∷ rest)
cut_unique test [] behind [] d rest all end all' off e = (refl, e)
cut_unique test [] behind (y ∷ ys) d rest all end all' off e =
    let wrong : true ≡ false = sym (and_parts (test y) (list_all test ys) all').0 ∙ end y (ys ++ (d ∷ rest)) e in
    absurd (let no : ⊥ = cc in no)
cut_unique test (x ∷ xs) behind [] d rest all end all' off e =
    let heads : x ≡ d = cc in
    let wrong : true ≡ false = sym (and_parts (test x) (list_all test xs) all).0 ∙ ap test heads ∙ off in
    absurd (let no : ⊥ = cc in no)
cut_unique test (x ∷ xs) behind (y ∷ ys) d rest all end all' off e =
    let heads : x ≡ y = cc in
    let more = cut_unique test xs behind ys d rest (and_parts (test x) (list_all test xs) all).1 end (and_parts (test y) (list_all test ys) all').1 off
    (let tails : xs ++ behind ≡ ys ++ (d ∷ rest) = cc in tails) in
    let same : xs ≡ ys = more.0 in
    ((let whole : x ∷ xs ≡ y ∷ ys = cc in whole), more.1)

-- a form by the key at its front
pub data FormCut (key behind rest : List ℕ) : Type 0 where
  literal : (c : ℕ) → key ≡ [] → HasLiteral c behind rest → FormCut key behind rest
  plain : IsTrue (is_key key) → behind ≡ 125 ∷ rest → FormCut key behind rest
  fallback : (default more : List ℕ) → IsTrue (is_key key) → behind ≡ 44 ∷ more → IsQuoted more default rest → FormCut key behind rest

pub form_cut : (text key behind : List ℕ) → IsCutKey text key behind → (piece : Piece) (rest : List ℕ) → HasForm piece text rest → FormCut key behind rest
form_cut text key behind cut (Plain sign) rest (inl (inside, closed, joined)) = absurd closed
form_cut text key behind cut (Plain sign) rest (inr has) = absurd has
form_cut text key behind cut (Escaped c) rest (inl (inside, (is, one), joined)) =
    let same = cut_unique is_key_character key behind [] c (125 ∷ rest) cut.all cut.end refl (literal_no_key c is)
    (sym cut.joined ∙ joined ∙ ap (λ t. t ++ (125 ∷ rest)) one) in
    literal c same.0 (is, same.1)
form_cut text key behind cut (Escaped c) rest (inr has) = absurd has
form_cut text key behind cut (Variable k None) rest (inl (inside, (is, one), joined)) =
    let same = cut_unique is_key_character key behind k 125 rest cut.all cut.end (key_all k is) refl
    (sym cut.joined ∙ joined ∙ ap (λ t. t ++ (125 ∷ rest)) one) in
    plain (ap is_key same.0 ∙ is) same.1
form_cut text key behind cut (Variable k None) rest (inr has) = absurd has
form_cut text key behind cut (Variable k (Some d)) rest (inl (inside, closed, joined)) = absurd closed
form_cut text key behind cut (Variable k (Some d)) rest (inr (more, is, joined, quoted)) =
    let same = cut_unique is_key_character key behind k 44 more cut.all cut.end (key_all k is) refl (sym cut.joined ∙ joined) in
    fallback d more (ap is_key same.0 ∙ is) same.1 quoted

-- what follows on both sides
pub match_weaker : {X : Type 0} (r : Option X) (P P' : Type 0) (Q Q' : X → Type 0) → (P → P') → ((x : X) → Q x → Q' x) → MatchOption r P Q → MatchOption r P' Q'
match_weaker None P P' Q Q' none some m = none m
match_weaker (Some x) P P' Q Q' none some m = some x m

-- a `${` that stands in a text, by its place
begins_at : (text before behind : List ℕ) → text ≡ before ++ (codes "${" ++ behind) → BeginsAt text (length before)
begins_at text before behind is =
    let i = length before in
    let long : length text ≡ i + suc (suc (length behind)) = ap length is ∙ length-append before (codes "${" ++ behind) in
    let further : text ≡ (before ++ (36 ∷ [])) ++ (123 ∷ behind) = is ∙ sym (append_assoc before (36 ∷ []) (123 ∷ behind)) in
    record {
      inside = omega (arith, long);
      dollar = ap (λ t. get_or t i 0) is ∙ get_or_at before 36 (123 ∷ behind) 0 i refl;
      brace = ap (λ t. get_or t (i + 1) 0) further ∙ get_or_at (before ++ (36 ∷ [])) 123 behind 0 (i + 1) (length-append before (36 ∷ []));
    }

-- none stands at any place
pub none_at : (text : List ℕ) → ((k : ℕ) → ¬ BeginsAt text k) → NoneBegins text []
none_at text none before behind e = absurd (none (length before) (begins_at text before behind (sym (append-nil text) ∙ e)))

-- the text is cut at the place of the first one
pub cut_at : (text : List ℕ) (i : ℕ) → IsFirstForm text i → IsCutAtForm text (take i text) (drop (i + 2) text)
cut_at text i found = (joined, λ before behind e. go before behind (joined ∙ e) (cases_lt (length before) i))
  where
    joined : text ≡ take i text ++ (36 ∷ (123 ∷ drop (i + 2) text))
    joined =
        let one : drop i text ≡ get_or text i 0 ∷ drop (i + 1) text = rw add-one (drop-cons text i 0 (omega (arith, found.here.inside))) in
        let two : drop (i + 1) text ≡ get_or text (i + 1) 0 ∷ drop (suc (i + 1)) text = drop-cons text (i + 1) 0 found.here.inside in
        let n : suc (i + 1) ≡ i + 2 = omega arith in
        sym (take-append-drop i text) ∙ ap (λ t. take i text ++ t)
        (one ∙ ap (λ c. c ∷ drop (i + 1) text) found.here.dollar
        ∙ ap (λ t. 36 ∷ t) (two ∙ ap (λ c. c ∷ drop (suc (i + 1)) text) found.here.brace ∙ ap (λ m. 123 ∷ drop m text) n))

    go : (before behind : List ℕ) → text ≡ before ++ (codes "${" ++ behind) → (length before < i) ⊎ (i ≤ length before) → length (take i text) ≤ length before
    go before behind is (inl earlier) = absurd (found.first (length before) earlier (begins_at text before behind is))
    go before behind is (inr later) = omega (arith, later, length-take i text)
