-- The test of the grammar of variables tells whether a text has a draft.
use Rattle.std.proofs.Common.{◌≡◌, ◌≢◌, ℕ, ◌<◌, ◌≤◌, zero, suc, List, [], ◌∷◌, ◌++◌, Bool, true, false, ◌&&◌, ◌||◌, ◌==◌, not, length, replicate, Some, None, refl, sym, ap, ◌∙◌, subst, arith, codes, IsTrue, inl, inr, ◌⊎◌, eqb-true, cond, get_or, drop, take, ◌+◌, length-append, nat_lt, ◌↔◌, Option, MatchOption}
use Rattle.std.proofs.lemmas.Bool.{and_parts, lt-ltb}
use Rattle.std.proofs.lemmas.List.{append-nil, append_assoc, drop_at, get_or_at, take_at}
use Rattle.std.proofs.lemmas.List.Folds.{list_any-append}
use Rattle.std.proofs.lemmas.Str.{inside_one, IsUtf8-drop, IsUtf8-past_char, IsUtf8-take, IsCharBoundary-after_ascii, IsCharBoundary-before_ascii}
use Rattle.std.specs.Char.{encode_utf8}
use Rattle.std.specs.List.{list_all, list_any}
use Rattle.std.specs.Option.{option_map_or}
use Rattle.std.specs.Str.{IsUtf8, encode_utf8_all}
use Rattle.iam_text.specs.declared.draft.Piece.{Piece}
use Rattle.iam_text.specs.declared.draft.Piece.TheVariants.{Plain, Escaped, Variable}
use Rattle.iam_glob.specs.Glob.{sign_of}
use Rattle.iam_text.specs.Draft.{BeginsWith, IsDraft, is_key, is_key_character}
use Rattle.iam_glob.specs.declared.sign.Sign.{Sign}
use Rattle.iam_text.specs.Code.Forms.{HasForm, IsQuoted}
use Rattle.iam_text.specs.Stretches.{IsCutAtForm, NoneBegins}
use Rattle.iam_text.specs.Variables.{State, outside, dollar, opened, escaped, key, spaces, default, closing, is_draft, is_draft_from, is_end, step}
use Rattle.iam_text.proofs.DraftLemmas.{begins_from_form, begins_shorter, form_from_begins, none_behind, none_here, piece_cases}
use Rattle.iam_text.proofs.FormLemmas.{all_absent, default_cut, key_all, literal_no_key, match_weaker}
use denote.Ref.{Bor}

-- one character on
next : (s t : State) (c : ℕ) (text : List ℕ) → step s c ≡ Some t → is_draft_from s (c ∷ text) ≡ is_draft_from t text
next s t c text e = ap (λ o. option_map_or (λ n. is_draft_from n text) o false) e

-- a run of characters that stay in a state
run : (s : State) (test : ℕ → Bool) → ((c : ℕ) → test c ≡ true → step s c ≡ Some s) → (xs rest : List ℕ) → list_all test xs ≡ true
    → is_draft_from s (xs ++ rest) ≡ is_draft_from s rest
run s test stays [] rest all = refl
run s test stays (c ∷ xs) rest all =
    let both = and_parts (test c) (list_all test xs) all in
    next s s c (xs ++ rest) (stays c both.0) ∙ run s test stays xs rest both.1

stays_key : (c : ℕ) → is_key_character c ≡ true → step key c ≡ Some key
stays_key c e = ap (λ b. cond b (Some key) (cond (c == 125) (Some outside) (cond (c == 44) (Some spaces) None))) e

not_false : (b : Bool) → not b ≡ true → b ≡ false
not_false true e = cc
not_false false e = refl

stays_default : (c : ℕ) → not (c == 39) ≡ true → step default c ≡ Some default
stays_default c e = ap (λ b. cond b (Some closing) (Some default)) (not_false (c == 39) e)

stays_outside : (c : ℕ) → not (c == 36) ≡ true → step outside c ≡ Some outside
stays_outside c e = ap (λ b. cond b (Some dollar) (Some outside)) (not_false (c == 36) e)

run_spaces : (n : ℕ) (rest : List ℕ) → is_draft_from spaces (replicate n 32 ++ rest) ≡ is_draft_from spaces rest
run_spaces zero rest = refl
run_spaces (suc n) rest = run_spaces n rest

-- over a key that stands behind `${`
run_key : (k rest : List ℕ) → is_key k ≡ true → is_draft_from opened (k ++ rest) ≡ is_draft_from key rest
run_key [] rest is = cc
run_key (c ∷ k) rest is =
    let both = and_parts (is_key_character c) (list_all is_key_character k) (key_all (c ∷ k) is) in
    next opened key c (k ++ rest) (ap (λ b. cond b (Some key) (cond (c == 42 || c == 63 || c == 36) (Some escaped) None)) both.0)
    ∙ run key is_key_character stays_key k rest both.1

run_quoted : (text d rest : List ℕ) → IsQuoted text d rest → is_draft_from spaces text ≡ is_draft_from outside rest
run_quoted text d rest (n, plain, is) =
    ap (is_draft_from spaces) is ∙ run_spaces n (39 ∷ (d ++ (39 ∷ (125 ∷ rest))))
    ∙ run default (λ c. not (c == 39)) stays_default d (39 ∷ (125 ∷ rest)) plain

run_literal : (c : ℕ) (rest : List ℕ) → IsTrue (c == 42 || c == 63 || c == 36) → is_draft_from opened (c ∷ (125 ∷ rest)) ≡ is_draft_from outside rest
run_literal c rest literal =
    next opened escaped c (125 ∷ rest)
    (ap (λ b. cond b (Some key) (cond (c == 42 || c == 63 || c == 36) (Some escaped) None)) (literal_no_key c literal) ∙ ap (λ b. cond b (Some escaped) None) literal)

-- over a form that stands behind `${`
pub run_form : (piece : Piece) (inside rest : List ℕ) → HasForm piece inside rest → is_draft_from opened inside ≡ is_draft_from outside rest
run_form (Plain sign) inside rest (inl (between, closed, joined)) = absurd closed
run_form (Plain sign) inside rest (inr has) = absurd has
run_form (Escaped c) inside rest (inl (between, (literal, is), joined)) =
    ap (is_draft_from opened) (joined ∙ ap (λ t. t ++ (125 ∷ rest)) is) ∙ run_literal c rest literal
run_form (Escaped c) inside rest (inr has) = absurd has
run_form (Variable k None) inside rest (inl (between, (fits, is), joined)) =
    ap (is_draft_from opened) (joined ∙ ap (λ t. t ++ (125 ∷ rest)) is) ∙ run_key k (125 ∷ rest) fits
run_form (Variable k None) inside rest (inr has) = absurd has
run_form (Variable k (Some d)) inside rest (inl (between, closed, joined)) = absurd closed
run_form (Variable k (Some d)) inside rest (inr (behind, fits, joined, quoted)) =
    ap (is_draft_from opened) joined ∙ run_key k (44 ∷ behind) fits ∙ run_quoted behind d rest quoted

-- over a character by itself
run_dollar : (rest : List ℕ) → ((more : List ℕ) → rest ≢ 123 ∷ more) → is_draft_from dollar rest ≡ is_draft_from outside rest
run_dollar [] apart = refl
run_dollar (c ∷ rest) apart = go (c == 123) refl
  where
    go : (b : Bool) → (c == 123) ≡ b → is_draft_from dollar (c ∷ rest) ≡ is_draft_from outside (c ∷ rest)
    go false e = ap (λ b. option_map_or (λ n. is_draft_from n rest) (cond b (Some opened) (cond (c == 36) (Some dollar) (Some outside))) false) e
    go true e = absurd (apart rest (ap (λ d. d ∷ rest) (eqb-true c 123 e)))

run_character : (c : ℕ) (rest : List ℕ) → (encode_utf8 c ≡ codes "$" → (more : List ℕ) → rest ≢ 123 ∷ more)
    → is_draft_from outside (encode_utf8 c ++ rest) ≡ is_draft_from outside rest
unfolding encode_utf8
run_character c rest apart = go (c == 36) refl
  where
    inner : (c == 36) ≡ false → (i : ℕ) → i < length (encode_utf8 c) → get_or (encode_utf8 c) i 0 ≢ 36
    inner e i below same =
        let is : c ≡ 36 = inside_one c [] (encode_utf8 c) i (sym (append-nil (encode_utf8 c))) below (omega (arith, same)) ∙ same in
        let wrong : true ≡ false = sym (ap (λ d. d == 36) is) ∙ e in
        let no : ⊥ = cc in
        no

    go : (b : Bool) → (c == 36) ≡ b → is_draft_from outside (encode_utf8 c ++ rest) ≡ is_draft_from outside rest
    go false e = run outside (λ d. not (d == 36)) stays_outside (encode_utf8 c) rest (all_absent 36 (encode_utf8 c) (inner e))
    go true e =
        let one : encode_utf8 c ≡ codes "$" = ap encode_utf8 (eqb-true c 36 e) in
        ap (λ xs. is_draft_from outside (xs ++ rest)) one ∙ run_dollar rest (apart one)

-- over a piece
pub run_piece : (wild : Bool) (text : List ℕ) (piece : Piece) (rest : List ℕ) → BeginsWith wild text piece rest → is_draft text ≡ is_draft rest
run_piece wild text piece rest b = go (piece_cases wild piece b.part b.written)
  where
    go : ((sign : Sign) × (c : ℕ) × (piece ≡ Plain sign) × (sign ≡ sign_of wild c) × (b.part ≡ encode_utf8 c)) ⊎ ((inside : List ℕ) × (b.part ≡ codes "${" ++ inside))
        → is_draft text ≡ is_draft rest
    go (inl (sign, c, plain, read, is)) = ap is_draft (b.joined ∙ ap (λ x. x ++ rest) is) ∙ run_character c rest (λ one. b.apart (is ∙ one))
    go (inr (inside, is)) =
        let starts : text ≡ codes "${" ++ (inside ++ rest) = b.joined ∙ ap (λ x. x ++ rest) is in
        ap is_draft starts ∙ run_form piece (inside ++ rest) rest (form_from_begins wild piece text (inside ++ rest) rest starts b)

-- a text that has a draft passes the test
pub drafted : (wild : Bool) (text : List ℕ) (pieces : List Piece) → IsDraft wild text pieces → is_draft text ≡ true
drafted wild text [] none = ap is_draft none
drafted wild text (piece ∷ pieces) (rest, begins, more) = run_piece wild text piece rest begins ∙ drafted wild rest pieces more

-- where a `}` alone goes on
brace_ends : (s : State) → is_end s ≡ false → ((c : ℕ) → step s c ≡ cond (c == 125) (Some outside) None) → (text : List ℕ) → is_draft_from s text ≡ true
    → (rest : List ℕ) × (text ≡ 125 ∷ rest)
brace_ends s off steps [] holds = let no : ⊥ = cc in absurd no
brace_ends s off steps (c ∷ text) holds = go (c == 125) refl (sym (ap (λ o. option_map_or (λ n. is_draft_from n text) o false) (steps c)) ∙ holds)
  where
    go : (b : Bool) → (c == 125) ≡ b → option_map_or (λ n. is_draft_from n text) (cond b (Some outside) None) false ≡ true → (rest : List ℕ) × (c ∷ text ≡ 125 ∷ rest)
    go true e h = (text, ap (λ d. d ∷ text) (eqb-true c 125 e))
    go false e h = cc

-- the default and the `'}` behind it
default_ends : (text : List ℕ) → is_draft_from default text ≡ true
    → (d : List ℕ) × (rest : List ℕ) × IsTrue (list_all (λ c. not (c == 39)) d) × (text ≡ d ++ (39 ∷ (125 ∷ rest)))
default_ends [] holds = cc
default_ends (c ∷ text) holds = go (default_ends text) (c == 39) refl holds
  where
    go : (is_draft_from default text ≡ true → (d : List ℕ) × (rest : List ℕ) × IsTrue (list_all (λ x. not (x == 39)) d) × (text ≡ d ++ (39 ∷ (125 ∷ rest))))
        → (b : Bool) → (c == 39) ≡ b → option_map_or (λ n. is_draft_from n text) (cond b (Some closing) (Some default)) false ≡ true
        → (d : List ℕ) × (rest : List ℕ) × IsTrue (list_all (λ x. not (x == 39)) d) × (c ∷ text ≡ d ++ (39 ∷ (125 ∷ rest)))
    go again true e h =
        let end = brace_ends closing refl (λ d. refl) text h in
        ([], end.0, refl, ap (λ d. d ∷ text) (eqb-true c 39 e) ∙ ap (λ t. 39 ∷ t) end.1)
    go again false e h =
        let more = again h in
        (c ∷ more.0, more.1, ap (λ b. not b && list_all (λ x. not (x == 39)) more.0) e ∙ more.2, ap (λ t. c ∷ t) more.3)

-- spaces, the default in quotes, and a `}`
spaces_ends : (text : List ℕ) → is_draft_from spaces text ≡ true → (d : List ℕ) × (rest : List ℕ) × IsQuoted text d rest
spaces_ends [] holds = cc
spaces_ends (c ∷ text) holds = go (spaces_ends text) (c == 32) (c == 39) refl refl holds
  where
    go : (is_draft_from spaces text ≡ true → (d : List ℕ) × (rest : List ℕ) × IsQuoted text d rest) → (x y : Bool) → (c == 32) ≡ x → (c == 39) ≡ y
        → option_map_or (λ n. is_draft_from n text) (cond x (Some spaces) (cond y (Some default) None)) false ≡ true
        → (d : List ℕ) × (rest : List ℕ) × IsQuoted (c ∷ text) d rest
    go again true y e f h =
        let more = again h in
        let quoted = more.2 in
        (more.0, more.1, (suc quoted.0, quoted.1, ap (λ d. d ∷ text) (eqb-true c 32 e) ∙ ap (λ t. 32 ∷ t) quoted.2))
    go again false true e f h =
        let inner = default_ends text h in
        (inner.0, inner.1, (0, inner.2, ap (λ d. d ∷ text) (eqb-true c 39 f) ∙ ap (λ t. 39 ∷ t) inner.3))
    go again false false e f h = cc

-- what ends a key: a `}`, or a comma and a default
abbrev KeyEnds : List ℕ → List ℕ → List ℕ → Type 0
KeyEnds text k rest = IsTrue (list_all is_key_character k) × ((text ≡ k ++ (125 ∷ rest)) ⊎ ((text ≡ k ++ (44 ∷ rest)) × (is_draft_from spaces rest ≡ true)))

key_ends : (text : List ℕ) → is_draft_from key text ≡ true → (k : List ℕ) × (rest : List ℕ) × KeyEnds text k rest
key_ends [] holds = cc
key_ends (c ∷ text) holds = go (key_ends text) (is_key_character c) (c == 125) (c == 44) refl refl refl holds
  where
    go : (is_draft_from key text ≡ true → (k : List ℕ) × (rest : List ℕ) × KeyEnds text k rest) → (x y z : Bool) → is_key_character c ≡ x → (c == 125) ≡ y → (c == 44) ≡ z
        → option_map_or (λ n. is_draft_from n text) (cond x (Some key) (cond y (Some outside) (cond z (Some spaces) None))) false ≡ true
        → (k : List ℕ) × (rest : List ℕ) × KeyEnds (c ∷ text) k rest
    go again true y z e f g h =
        let more = again h in
        let all : IsTrue (list_all is_key_character (c ∷ more.0)) = ap (λ b. b && list_all is_key_character more.0) e ∙ more.2.0 in
        elim more.2.1 [
          | inl closed ↦ (c ∷ more.0, more.1, (all, inl (ap (λ t. c ∷ t) closed)))
          | inr comma ↦ (c ∷ more.0, more.1, (all, inr (ap (λ t. c ∷ t) comma.0, comma.1)))
        ]
    go again false true z e f g h = ([], text, (refl, inl (ap (λ d. d ∷ text) (eqb-true c 125 f))))
    go again false false true e f g h = ([], text, (refl, inr (ap (λ d. d ∷ text) (eqb-true c 44 g), h)))
    go again false false false e f g h = cc

-- what stands behind `${` is a form
form_ends : (inside : List ℕ) → is_draft_from opened inside ≡ true → (piece : Piece) × (rest : List ℕ) × HasForm piece inside rest
form_ends [] holds = cc
form_ends (c ∷ text) holds = go (is_key_character c) (c == 42 || c == 63 || c == 36) refl refl holds
  where
    fits : is_key_character c ≡ true → (k : List ℕ) → list_all is_key_character k ≡ true → is_key (c ∷ k) ≡ true
    fits e k all =
        let some : nat_lt 0 (length (c ∷ k)) ≡ true = lt-ltb 0 (length (c ∷ k)) (omega arith) in
        ap (λ b. b && (is_key_character c && list_all is_key_character k)) some ∙ ap (λ b. b && list_all is_key_character k) e ∙ all

    named : is_key_character c ≡ true → (k rest : List ℕ) → KeyEnds text k rest → (piece : Piece) × (left : List ℕ) × HasForm piece (c ∷ text) left
    named e k rest (all, inl closed) =
        (Variable (c ∷ k) None, rest, inl (c ∷ k, (fits e k all, refl), ap (λ t. c ∷ t) closed))
    named e k rest (all, inr (comma, h)) =
        let quoted = spaces_ends rest h in
        (Variable (c ∷ k) (Some quoted.0), quoted.1, inr (rest, fits e k all, ap (λ t. c ∷ t) comma, quoted.2))

    go : (x y : Bool) → is_key_character c ≡ x → (c == 42 || c == 63 || c == 36) ≡ y
        → option_map_or (λ n. is_draft_from n text) (cond x (Some key) (cond y (Some escaped) None)) false ≡ true
        → (piece : Piece) × (rest : List ℕ) × HasForm piece (c ∷ text) rest
    go true y e f h = let ends = key_ends text h in named e ends.0 ends.1 ends.2
    go false true e f h =
        let end = brace_ends escaped refl (λ d. refl) text h in
        (Escaped c, end.0, inl (c ∷ [], (f, refl), ap (λ t. c ∷ t) end.1))
    go false false e f h = cc

-- what stands behind an ASCII character of a text is one
utf8_behind : (bs front rest : List ℕ) (c : ℕ) → c < 128 → bs ≡ front ++ (c ∷ rest) → IsUtf8 bs → IsUtf8 rest
utf8_behind bs front rest c small is utf8 =
    let i = length front in
    let at : get_or bs i 0 ≡ c = ap (λ xs. get_or xs i 0) is ∙ get_or_at front c rest 0 i refl in
    let long : length bs ≡ i + suc (length rest) = ap length is ∙ length-append front (c ∷ rest) in
    let cut : IsUtf8 (drop (i + 1) bs) = IsUtf8-drop bs (i + 1) utf8 (IsCharBoundary-after_ascii bs i utf8 (omega arith) (omega (arith, at))) in
    let left : drop (i + 1) bs ≡ rest =
    ap (drop (i + 1)) (is ∙ sym (append_assoc front (c ∷ []) rest)) ∙ drop_at (front ++ (c ∷ [])) rest (i + 1) (length-append front (c ∷ [])) in
    let P : List ℕ → Type 0 = λ t. IsUtf8 t in
    subst P left cut

form_utf8 : (piece : Piece) (inside rest : List ℕ) → HasForm piece inside rest → IsUtf8 inside → IsUtf8 rest
form_utf8 piece inside rest (inl (between, closed, joined)) utf8 = utf8_behind inside between rest 125 (omega arith) joined utf8
form_utf8 piece inside rest (inr has) utf8 =
    let d = default_cut piece inside rest has in
    let quoted = d.5 in
    let behind : IsUtf8 d.2 = utf8_behind inside d.0 d.2 44 (omega arith) d.4 utf8 in
    let inner : IsUtf8 (d.1 ++ (39 ∷ (125 ∷ rest))) = utf8_behind d.2 (replicate quoted.0 32) (d.1 ++ (39 ∷ (125 ∷ rest))) 39 (omega arith) quoted.2 behind in
    utf8_behind (125 ∷ rest) [] rest 125 (omega arith) refl (utf8_behind (d.1 ++ (39 ∷ (125 ∷ rest))) d.1 (125 ∷ rest) 39 (omega arith) refl inner)

-- whether a `${` stands at the front
front_cases : (text : List ℕ) → ((inside : List ℕ) × (text ≡ codes "${" ++ inside)) ⊎ ((inside : List ℕ) → text ≢ codes "${" ++ inside)
front_cases [] = inr (λ inside e. let no : ⊥ = cc in no)
front_cases (c ∷ []) = inr (λ inside e. let no : ⊥ = cc in no)
front_cases (c ∷ d ∷ text) = go (c == 36) (d == 123) refl refl
  where
    off : (c ≢ 36) ⊎ (d ≢ 123) → (inside : List ℕ) → c ∷ (d ∷ text) ≢ codes "${" ++ inside
    off (inl other) inside e = other (let heads : c ≡ 36 = cc in heads)
    off (inr other) inside e = other (let seconds : d ≡ 123 = cc in seconds)

    go : (x y : Bool) → (c == 36) ≡ x → (d == 123) ≡ y
        → ((inside : List ℕ) × (c ∷ (d ∷ text) ≡ codes "${" ++ inside)) ⊎ ((inside : List ℕ) → c ∷ (d ∷ text) ≢ codes "${" ++ inside)
    go true true e f = inl (text, ap (λ x. x ∷ (d ∷ text)) (eqb-true c 36 e) ∙ ap (λ x. 36 ∷ (x ∷ text)) (eqb-true d 123 f))
    go false y e f = inr (off (inl (λ same. let wrong : true ≡ false = sym (ap (λ x. x == 36) same) ∙ e in let no : ⊥ = cc in no)))
    go true false e f = inr (off (inr (λ same. let wrong : true ≡ false = sym (ap (λ x. x == 123) same) ∙ f in let no : ⊥ = cc in no)))

-- a text that passes the test begins with a piece
pub first_piece : (wild : Bool) (text : List ℕ) → text ≢ [] → IsUtf8 text → is_draft text ≡ true
    → (piece : Piece) × (rest : List ℕ) × BeginsWith wild text piece rest × IsUtf8 rest
first_piece wild text some utf8 holds = go (front_cases text)
  where
    character : (cs : List ℕ) → encode_utf8_all cs ≡ text → ((inside : List ℕ) → text ≢ codes "${" ++ inside)
        → (piece : Piece) × (rest : List ℕ) × BeginsWith wild text piece rest × IsUtf8 rest
    character [] is off = absurd (some (sym is))
    character (c ∷ cs) is off = (
      Plain (sign_of wild c),
      encode_utf8_all cs,
      record {
        part = encode_utf8 c;
        written = (c, refl, refl);
        joined = sym is;
        apart = λ same more e. off more (sym is ∙ ap (λ x. x ++ encode_utf8_all cs) same ∙ ap (λ x. 36 ∷ x) e);
      },
      IsUtf8-past_char text (encode_utf8_all cs) c utf8 (sym is),
    )

    go : ((inside : List ℕ) × (text ≡ codes "${" ++ inside)) ⊎ ((inside : List ℕ) → text ≢ codes "${" ++ inside)
        → (piece : Piece) × (rest : List ℕ) × BeginsWith wild text piece rest × IsUtf8 rest
    go (inl (inside, starts)) =
        let form = form_ends inside (sym (ap is_draft starts) ∙ holds) in
        let within : IsUtf8 inside = utf8_behind text (36 ∷ []) inside 123 (omega arith) starts utf8 in
        (form.0, form.1, begins_from_form wild form.0 text inside form.1 starts form.2, form_utf8 form.0 inside form.1 form.2 within)
    go (inr off) = character utf8.0 utf8.1.1 off

pieces_of : (n : ℕ) (wild : Bool) (text : List ℕ) → length text ≤ n → IsUtf8 text → is_draft text ≡ true → (pieces : List Piece) × IsDraft wild text pieces
pieces_of n wild [] short utf8 holds = ([], refl)
pieces_of zero wild (c ∷ text) short utf8 holds = absurd (omega arith)
pieces_of (suc n) wild (c ∷ text) short utf8 holds =
    let first = first_piece wild (c ∷ text) (λ e. let no : ⊥ = cc in no) utf8 holds in
    let fewer : length first.1 ≤ n = omega (arith, begins_shorter wild (c ∷ text) first.0 first.1 first.2) in
    let more = pieces_of n wild first.1 fewer first.3 (sym (run_piece wild (c ∷ text) first.0 first.1 first.2) ∙ holds) in
    (first.0 ∷ more.0, (first.1, first.2, more.1))

-- the test tells whether there is a draft
pub draft_tested : (wild : Bool) (text : List ℕ) → IsUtf8 text → IsTrue (is_draft text) ↔ ((pieces : List Piece) × IsDraft wild text pieces)
draft_tested wild text utf8 = (λ holds. pieces_of (length text) wild text (omega arith) utf8 holds, λ d. drafted wild text d.0 d.1)

-- where no form stands behind a `${`, the text does not pass
pub no_form : (inside : List ℕ) → ((piece : Piece) (rest : List ℕ) → ¬ HasForm piece inside rest) → is_draft_from opened inside ≡ false
no_form inside off = go (is_draft_from opened inside) refl
  where
    go : (b : Bool) → is_draft_from opened inside ≡ b → is_draft_from opened inside ≡ false
    go true e = let form = form_ends inside e in absurd (off form.0 form.1 form.2)
    go false e = e

-- over the characters before a `${`, or before the end
run_characters : (cs rest : List ℕ) → NoneBegins (encode_utf8_all cs) rest → is_draft (encode_utf8_all cs ++ rest) ≡ is_draft rest
run_characters [] rest none = refl
run_characters (c ∷ cs) rest none =
    ap is_draft (append_assoc (encode_utf8 c) (encode_utf8_all cs) rest) ∙ run_character c (encode_utf8_all cs ++ rest) (none_here c cs rest none)
    ∙ run_characters cs rest (none_behind c cs rest none)

run_front : (front rest : List ℕ) → IsUtf8 front → NoneBegins front rest → is_draft (front ++ rest) ≡ is_draft rest
run_front front rest (cs, (scalars, is)) =
    let P : List ℕ → Type 0 = λ t. NoneBegins t rest → is_draft (t ++ rest) ≡ is_draft rest in
    subst P is (run_characters cs rest)

-- a text without `${` passes
pub run_all : (text : List ℕ) → IsUtf8 text → NoneBegins text [] → is_draft text ≡ true
run_all text utf8 none = ap is_draft (sym (append-nil text)) ∙ run_front text [] utf8 none

-- what stands before an ASCII character of a text is one
utf8_before : (bs front rest : List ℕ) (c : ℕ) → c < 128 → bs ≡ front ++ (c ∷ rest) → IsUtf8 bs → IsUtf8 front
utf8_before bs front rest c small is utf8 =
    let i = length front in
    let at : get_or bs i 0 ≡ c = ap (λ xs. get_or xs i 0) is ∙ get_or_at front c rest 0 i refl in
    let long : length bs ≡ i + suc (length rest) = ap length is ∙ length-append front (c ∷ rest) in
    let cut : IsUtf8 (take i bs) = IsUtf8-take bs i utf8 (IsCharBoundary-before_ascii bs i (omega arith) (omega (arith, at))) in
    let P : List ℕ → Type 0 = λ t. IsUtf8 t in
    subst P (ap (take i) is ∙ take_at front (c ∷ rest) i refl) cut

-- up to the first `${`
run_cut : (text front inside : List ℕ) → IsUtf8 text → IsCutAtForm text front inside → is_draft text ≡ is_draft_from opened inside
run_cut text front inside utf8 (joined, none) =
    ap is_draft joined ∙ run_front front (codes "${" ++ inside) (utf8_before text front (123 ∷ inside) 36 (omega arith) joined utf8) none

-- what a cut at the first `${` tells of the grammar
pub cut_told : (text : List ℕ) (r : Option (Bor (List ℕ) × Bor (List ℕ))) → IsUtf8 text
    → MatchOption r (NoneBegins text []) (λ x. IsCutAtForm text x.0.now x.1.now)
    → MatchOption r (is_draft text ≡ true) (λ x. is_draft text ≡ is_draft_from opened x.1.now)
cut_told text r utf8 cut = match_weaker r _ _ _ _ (run_all text utf8) (λ x at. run_cut text x.0.now x.1.now utf8 at) cut

-- a text without `$` has no `${`
pub no_dollar : (text : List ℕ) → list_any (λ c. c == 36) text ≡ false → NoneBegins text []
no_dollar text none before behind is =
    absurd (some (list_any (λ c. c == 36) before)
    (sym (ap (list_any (λ c. c == 36)) (sym (append-nil text) ∙ is) ∙ list_any-append (λ c. c == 36) before (codes "${" ++ behind)) ∙ none))
  where
    some : (b : Bool) → (b || true) ≡ false → ⊥
    some true e = let no : ⊥ = cc in no
    some false e = let no : ⊥ = cc in no
