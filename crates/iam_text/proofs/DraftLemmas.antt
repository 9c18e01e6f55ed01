-- What a text begins with, and that its draft is the only one.
use Rattle.std.proofs.Common.{◌≡◌, ◌≢◌, ℕ, ◌<◌, List, [], ◌∷◌, ◌++◌, Bool, true, false, ◌==◌, not, length, replicate, Some, None, refl, sym, ap, ◌∙◌, subst, arith, codes, inl, inr, ◌⊎◌, length-append, IsTrue, ◌||◌, map}
use Rattle.std.proofs.lemmas.Bool.{and_parts}
use Rattle.std.proofs.lemmas.List.{append-nil, append_assoc}
use Rattle.std.proofs.lemmas.Str.{chars_from_encodes, length-encode, len_utf8_bounds}
use Rattle.std.specs.Char.{encode_utf8}
use Rattle.std.specs.List.{list_all}
use Rattle.std.specs.Str.{IsUtf8, chars, encode_utf8_all}
use Rattle.iam_text.specs.declared.draft.Piece.{Piece}
use Rattle.iam_text.specs.declared.draft.Piece.TheVariants.{Plain, Escaped, Variable}
use Rattle.iam_glob.specs.declared.sign.Sign.{Sign}
use Rattle.iam_glob.specs.Glob.{sign_of}
use Rattle.iam_text.specs.Draft.{BeginsWith, IsApart, IsDraft, IsWritten, is_key, is_key_character, plain_draft}
use Rattle.iam_text.specs.Code.Forms.{HasClosed, HasDefault, HasForm, IsClosed, IsQuoted}
use Rattle.iam_text.specs.Stretches.{IsCutAtForm, NoneBegins}
use Rattle.iam_text.proofs.FormLemmas.{all_absent, closed_avoids, default_cut, key_all, literal_no_key, one_character, run_unique, spaces_unique}

-- each piece is written with one character at least
part_some : (wild : Bool) (piece : Piece) (part : List ℕ) → IsWritten wild piece part → 0 < length part
part_some wild (Plain sign) part (c, read, is) = omega (arith, ap length is, length-encode c, (len_utf8_bounds c).0)
part_some wild (Escaped c) part (literal, is) = omega (arith, ap length is)
part_some wild (Variable key None) part (fits, is) = omega (arith, ap length is)
part_some wild (Variable key (Some default)) part (n, fits, plain, is) = omega (arith, ap length is)

pub begins_shorter : (wild : Bool) (text : List ℕ) (piece : Piece) (rest : List ℕ) → BeginsWith wild text piece rest → length rest < length text
begins_shorter wild text piece rest b = omega (arith, ap length b.joined, length-append b.part rest, part_some wild piece b.part b.written)

pub begins_some : (wild : Bool) (text : List ℕ) (piece : Piece) (rest : List ℕ) → BeginsWith wild text piece rest → text ≢ []
begins_some wild text piece rest b none = omega (arith, begins_shorter wild text piece rest b, ap length none)

-- how a variable with a default is written, and what stands behind it
whole : (key default rest : List ℕ) (n : ℕ)
    → (key ++ (codes "," ++ (replicate n 32 ++ (codes "'" ++ (default ++ codes "'}"))))) ++ rest
    ≡ key ++ (44 ∷ (replicate n 32 ++ (39 ∷ (default ++ (39 ∷ (125 ∷ rest))))))
whole key default rest n =
    append_assoc key (codes "," ++ (replicate n 32 ++ (codes "'" ++ (default ++ codes "'}")))) rest
    ∙ ap (λ t. key ++ (44 ∷ t)) (
    append_assoc (replicate n 32) (codes "'" ++ (default ++ codes "'}")) rest
    ∙ ap (λ t. replicate n 32 ++ (39 ∷ t)) (append_assoc default (codes "'}") rest)
    )

-- a text that begins with a form
pub begins_from_form : (wild : Bool) (piece : Piece) (text inside rest : List ℕ) → text ≡ codes "${" ++ inside → HasForm piece inside rest
    → BeginsWith wild text piece rest
begins_from_form wild (Plain sign) text inside rest starts (inl (between, closed, joined)) = absurd closed
begins_from_form wild (Plain sign) text inside rest starts (inr default) = absurd default
begins_from_form wild (Escaped c) text inside rest starts (inl (between, (literal, is), joined)) = record {
  part = codes "${" ++ (c ∷ codes "}");
  written = (literal, refl);
  joined = starts ∙ ap (λ t. codes "${" ++ t) (joined ∙ ap (λ t. t ++ (125 ∷ rest)) is);
  apart = λ same more e. let no : ⊥ = cc in no;
}
begins_from_form wild (Escaped c) text inside rest starts (inr default) = absurd default
begins_from_form wild (Variable key None) text inside rest starts (inl (between, (fits, is), joined)) = record {
  part = codes "${" ++ (key ++ codes "}");
  written = (fits, refl);
  joined = starts ∙ ap (λ t. codes "${" ++ t) (joined ∙ ap (λ t. t ++ (125 ∷ rest)) is ∙ sym (append_assoc key (codes "}") rest));
  apart = λ same more e. let no : ⊥ = cc in no;
}
begins_from_form wild (Variable key None) text inside rest starts (inr default) = absurd default
begins_from_form wild (Variable key (Some default)) text inside rest starts (inl (between, closed, joined)) = absurd closed
begins_from_form wild (Variable key (Some default)) text inside rest starts (inr (behind, fits, joined, (n, plain, quoted))) = record {
  part = codes "${" ++ (key ++ (codes "," ++ (replicate n 32 ++ (codes "'" ++ (default ++ codes "'}")))));
  written = (n, fits, plain, refl);
  joined = starts ∙ ap (λ t. codes "${" ++ t) (joined ∙ ap (λ t. key ++ (44 ∷ t)) quoted ∙ sym (whole key default rest n));
  apart = λ same more e. let no : ⊥ = cc in no;
}

-- a character by itself does not begin a form
no_character : (wild : Bool) (sign : Sign) (text inside rest : List ℕ) → text ≡ codes "${" ++ inside → BeginsWith wild text (Plain sign) rest → ⊥
unfolding encode_utf8
no_character wild sign text inside rest starts b = go b.written
  where
    go : (c : ℕ) × (sign ≡ sign_of wild c) × (b.part ≡ encode_utf8 c) → ⊥
    go (c, read, is) =
        let split = one_character c 36 rest (123 ∷ inside) (ap (λ t. t ++ rest) (sym is) ∙ sym b.joined ∙ starts) in
        b.apart (is ∙ ap encode_utf8 split.0) inside split.1

pub form_from_begins : (wild : Bool) (piece : Piece) (text inside rest : List ℕ) → text ≡ codes "${" ++ inside → BeginsWith wild text piece rest
    → HasForm piece inside rest
form_from_begins wild (Plain sign) text inside rest starts b = absurd (no_character wild sign text inside rest starts b)
form_from_begins wild (Escaped c) text inside rest starts b =
    let same : codes "${" ++ inside ≡ codes "${" ++ (c ∷ (125 ∷ rest)) = sym starts ∙ b.joined ∙ ap (λ t. t ++ rest) b.written.1 in
    inl (c ∷ [], (b.written.0, refl), (let behind : inside ≡ c ∷ (125 ∷ rest) = cc in behind))
form_from_begins wild (Variable key None) text inside rest starts b =
    let same : codes "${" ++ inside ≡ codes "${" ++ ((key ++ codes "}") ++ rest) = sym starts ∙ b.joined ∙ ap (λ t. t ++ rest) b.written.1 in
    let behind : inside ≡ (key ++ codes "}") ++ rest = cc in
    inl (key, (b.written.0, refl), behind ∙ append_assoc key (codes "}") rest)
form_from_begins wild (Variable key (Some default)) text inside rest starts b =
    let n = b.written.0 in
    let same : codes "${" ++ inside ≡ codes "${" ++ ((key ++ (codes "," ++ (replicate n 32 ++ (codes "'" ++ (default ++ codes "'}"))))) ++ rest) =
    sym starts ∙ b.joined ∙ ap (λ t. t ++ rest) b.written.3 in
    let behind : inside ≡ (key ++ (codes "," ++ (replicate n 32 ++ (codes "'" ++ (default ++ codes "'}"))))) ++ rest = cc in
    inr (
      replicate n 32 ++ (39 ∷ (default ++ (39 ∷ (125 ∷ rest)))),
      b.written.1,
      behind ∙ whole key default rest n,
      (n, b.written.2, refl),
    )

-- a key does not begin with `*`, `?` or `$`
literal_before : (c : ℕ) (key more rest : List ℕ) → IsTrue (c == 42 || c == 63 || c == 36) → IsTrue (is_key key) → c ∷ more ≡ key ++ rest → ⊥
literal_before c [] more rest literal fits e = let no : ⊥ = cc in no
literal_before c (k ∷ key) more rest literal fits e =
    let heads : c ≡ k = cc in
    let wrong : true ≡ false = sym (and_parts (is_key_character k) (list_all is_key_character key) (key_all (k ∷ key) fits)).0 ∙ ap is_key_character (sym heads) ∙ literal_no_key c literal in
    let no : ⊥ = cc in
    no

literal_key : (c : ℕ) (key : List ℕ) → IsTrue (c == 42 || c == 63 || c == 36) → IsTrue (is_key key) → key ≡ c ∷ [] → ⊥
literal_key c key literal fits same = literal_before c key [] [] literal fits (sym same ∙ sym (append-nil key))

-- what stands between `${` and `}` is one piece
closed_unique : (p q : Piece) (inside : List ℕ) → IsClosed p inside → IsClosed q inside → p ≡ q
closed_unique (Plain s) q inside a b = absurd a
closed_unique (Variable key (Some default)) q inside a b = absurd a
closed_unique (Escaped c) (Plain s) inside a b = absurd b
closed_unique (Escaped c) (Variable key (Some default)) inside a b = absurd b
closed_unique (Variable key None) (Plain s) inside a b = absurd b
closed_unique (Variable key None) (Variable key' (Some default)) inside a b = absurd b
closed_unique (Escaped c) (Escaped d) inside a b =
    let same : c ∷ [] ≡ d ∷ [] = sym a.1 ∙ b.1 in
    let one : c ≡ d = cc in
    ap Escaped one
closed_unique (Escaped c) (Variable key None) inside a b = absurd (literal_key c key a.0 b.0 (sym b.1 ∙ a.1))
closed_unique (Variable key None) (Escaped c) inside a b = absurd (literal_key c key b.0 a.0 (sym a.1 ∙ b.1))
closed_unique (Variable key None) (Variable key' None) inside a b = ap (λ k. Variable k None) (sym a.1 ∙ b.1)

-- a form with a default is none without one
closed_default : (p q : Piece) (text r t : List ℕ) → HasClosed p text r → HasDefault q text t → ⊥
closed_default (Plain s) q text r t (inside, closed, joined) has = closed
closed_default (Variable key (Some default)) q text r t (inside, closed, joined) has = closed
closed_default (Escaped c) q text r t (inside, (literal, is), joined) has =
    let d = default_cut q text t has in
    literal_before c d.0 (125 ∷ r) (44 ∷ d.2) literal d.3 (ap (λ i. i ++ (125 ∷ r)) (sym is) ∙ sym joined ∙ d.4)
closed_default (Variable key None) q text r t (inside, (fits, is), joined) has =
    let d = default_cut q text t has in
    let cut =
    run_unique is_key_character key d.0 125 44 r d.2 (key_all key fits) (key_all d.0 d.3) refl refl
    (ap (λ i. i ++ (125 ∷ r)) (sym is) ∙ sym joined ∙ d.4) in
    let wrong : ◌≡◌ {A = ℕ} 125 44 = cut.1 in
    omega arith

quote_first : (inside more : List ℕ) → 39 ∷ inside ≢ 32 ∷ more
quote_first inside more e =
    let heads : ◌≡◌ {A = ℕ} 39 32 = cc in
    omega arith

quoted_unique : (text d e r t : List ℕ) → IsQuoted text d r → IsQuoted text e t → (d ≡ e) × (r ≡ t)
quoted_unique text d e r t (n, plain, is) (m, plain', is') =
    let inner : 39 ∷ (d ++ (39 ∷ (125 ∷ r))) ≡ 39 ∷ (e ++ (39 ∷ (125 ∷ t))) =
    spaces_unique n m (39 ∷ (d ++ (39 ∷ (125 ∷ r)))) (39 ∷ (e ++ (39 ∷ (125 ∷ t)))) (quote_first (d ++ (39 ∷ (125 ∷ r)))) (quote_first (e ++ (39 ∷ (125 ∷ t)))) (sym is ∙ is') in
    let cut =
    run_unique (λ c. not (c == 39)) d e 39 39 (125 ∷ r) (125 ∷ t) plain plain' refl refl
    (let tails : d ++ (39 ∷ (125 ∷ r)) ≡ e ++ (39 ∷ (125 ∷ t)) = cc in tails) in
    let ends : 125 ∷ r ≡ 125 ∷ t = cut.2 in
    (cut.0, (let rests : r ≡ t = cc in rests))

default_unique : (p q : Piece) (text r t : List ℕ) → HasDefault p text r → HasDefault q text t → (p ≡ q) × (r ≡ t)
default_unique (Plain s) q text r t a b = absurd a
default_unique (Escaped c) q text r t a b = absurd a
default_unique (Variable key None) q text r t a b = absurd a
default_unique (Variable key (Some default)) (Plain s) text r t a b = absurd b
default_unique (Variable key (Some default)) (Escaped c) text r t a b = absurd b
default_unique (Variable key (Some default)) (Variable key' None) text r t a b = absurd b
default_unique (Variable key (Some default)) (Variable key' (Some default')) text r t (behind, fits, joined, quoted) (behind', fits', joined', quoted') =
    let cut = run_unique is_key_character key key' 44 44 behind behind' (key_all key fits) (key_all key' fits') refl refl (sym joined ∙ joined') in
    let P : List ℕ → Type 0 = λ b. IsQuoted b default r in
    let inner = quoted_unique behind' default default' r t (subst P cut.2 quoted) quoted' in
    (ap (λ k. Variable k (Some default)) cut.0 ∙ ap (λ d. Variable key' (Some d)) inner.0, inner.1)

form_unique : (p q : Piece) (text r t : List ℕ) → HasForm p text r → HasForm q text t → (p ≡ q) × (r ≡ t)
form_unique p q text r t (inl a) (inr b) = absurd (closed_default p q text r t a b)
form_unique p q text r t (inr a) (inl b) = absurd (closed_default q p text t r b a)
form_unique p q text r t (inr a) (inr b) = default_unique p q text r t a b
form_unique p q text r t (inl (inside, closed, joined)) (inl (inside', closed', joined')) =
    let cut =
    run_unique (λ c. not (c == 125)) inside inside' 125 125 r t (all_absent 125 inside (closed_avoids p inside closed))
    (all_absent 125 inside' (closed_avoids q inside' closed')) refl refl (sym joined ∙ joined') in
    let P : List ℕ → Type 0 = λ i. IsClosed p i in
    (closed_unique p q inside' (subst P cut.0 closed) closed', cut.2)

-- a piece is a character by itself, or begins with `${`
pub piece_cases : (wild : Bool) (piece : Piece) (part : List ℕ) → IsWritten wild piece part
    → ((sign : Sign) × (c : ℕ) × (piece ≡ Plain sign) × (sign ≡ sign_of wild c) × (part ≡ encode_utf8 c)) ⊎ ((inside : List ℕ) × (part ≡ codes "${" ++ inside))
piece_cases wild (Plain sign) part (c, read, is) = inl (sign, c, refl, read, is)
piece_cases wild (Escaped c) part (literal, is) = inr (c ∷ codes "}", is)
piece_cases wild (Variable key None) part (fits, is) = inr (key ++ codes "}", is)
piece_cases wild (Variable key (Some default)) part (n, fits, plain, is) =
    inr (key ++ (codes "," ++ (replicate n 32 ++ (codes "'" ++ (default ++ codes "'}")))), is)

-- a text begins with one piece
begins_unique : (wild : Bool) (text : List ℕ) (p q : Piece) (r t : List ℕ) → BeginsWith wild text p r → BeginsWith wild text q t → (p ≡ q) × (r ≡ t)
begins_unique wild text p q r t a b = go (piece_cases wild p a.part a.written) (piece_cases wild q b.part b.written)
  where
    from_form : (inside : List ℕ) → text ≡ codes "${" ++ inside → (p ≡ q) × (r ≡ t)
    from_form inside starts = form_unique p q inside r t (form_from_begins wild p text inside r starts a) (form_from_begins wild q text inside t starts b)

    go : ((sign : Sign) × (c : ℕ) × (p ≡ Plain sign) × (sign ≡ sign_of wild c) × (a.part ≡ encode_utf8 c)) ⊎ ((inside : List ℕ) × (a.part ≡ codes "${" ++ inside))
        → ((sign : Sign) × (c : ℕ) × (q ≡ Plain sign) × (sign ≡ sign_of wild c) × (b.part ≡ encode_utf8 c)) ⊎ ((inside : List ℕ) × (b.part ≡ codes "${" ++ inside))
        → (p ≡ q) × (r ≡ t)
    go (inr (inside, is)) second = from_form (inside ++ r) (a.joined ∙ ap (λ x. x ++ r) is)
    go (inl first) (inr (inside, is)) = from_form (inside ++ t) (b.joined ∙ ap (λ x. x ++ t) is)
    go (inl (sign, c, plain, read, is)) (inl (sign', d, plain', read', is')) =
        let split = one_character c d r t (ap (λ x. x ++ r) (sym is) ∙ sym a.joined ∙ b.joined ∙ ap (λ x. x ++ t) is') in
        (plain ∙ ap Plain (read ∙ ap (sign_of wild) split.0 ∙ sym read') ∙ sym plain', split.1)

-- a text has one draft
pub draft_unique : (wild : Bool) (text : List ℕ) (ps qs : List Piece) → IsDraft wild text ps → IsDraft wild text qs → ps ≡ qs
draft_unique wild text [] [] a b = refl
draft_unique wild text [] (q ∷ qs) a (t, first, more) = absurd (begins_some wild text q t first a)
draft_unique wild text (p ∷ ps) [] (r, first, more) b = absurd (begins_some wild text p r first b)
draft_unique wild text (p ∷ ps) (q ∷ qs) (r, first, more) (t, first', more') =
    let one = begins_unique wild text p q r t first first' in
    let P : List ℕ → Type 0 = λ x. IsDraft wild x ps in
    let rest = draft_unique wild t ps qs (subst P one.1 more) more' in
    ap (λ x. x ∷ ps) one.0 ∙ ap (λ xs. q ∷ xs) rest

-- how far a text was read: what is left makes the draft whole, and a draft of the text leaves one of what is left
pub record Along (wild : Bool) (text : List ℕ) (pieces : List Piece) (rest : List ℕ) : Type 0 where
  pub on : (tail : List Piece) → IsDraft wild rest tail → IsDraft wild text (pieces ++ tail)
  pub back : (all : List Piece) → IsDraft wild text all → (tail : List Piece) × IsDraft wild rest tail

-- where nothing was read yet
pub none_read : (wild : Bool) (text : List ℕ) → Along wild text [] text
none_read wild text = record { on = λ tail draft. draft; back = λ all draft. (all, draft) }

draft_along_more : (wild : Bool) (text : List ℕ) (pieces : List Piece) (rest behind : List ℕ) (piece : Piece) → Along wild text pieces rest
    → BeginsWith wild rest piece behind → Along wild text (pieces ++ piece ∷ []) behind
draft_along_more wild text pieces rest behind piece a begins = record {
  on = λ tail draft.
      let P : List Piece → Type 0 = λ all. IsDraft wild text all in
      subst P (sym (append_assoc pieces (piece ∷ []) tail)) (a.on (piece ∷ tail) (behind, begins, draft));
  back = λ all draft. let left = a.back all draft in after left.0 left.1;
}
  where
    after : (tail : List Piece) → IsDraft wild rest tail → (more : List Piece) × IsDraft wild behind more
    after [] none = absurd (begins_some wild rest piece behind begins none)
    after (p ∷ tail) (behind', begins', draft) =
        let one = begins_unique wild rest piece p behind behind' begins begins' in
        let P : List ℕ → Type 0 = λ b. IsDraft wild b tail in
        (tail, subst P (sym one.1) draft)

-- what stands before a `${`, or before the end, is characters, of which none begins it
pub none_here : (c : ℕ) (cs rest : List ℕ) → NoneBegins (encode_utf8_all (c ∷ cs)) rest → IsApart (encode_utf8 c) (encode_utf8_all cs ++ rest)
none_here c cs rest none one more e =
    let found : (encode_utf8 c ++ encode_utf8_all cs) ++ rest ≡ [] ++ (codes "${" ++ more) =
    append_assoc (encode_utf8 c) (encode_utf8_all cs) rest ∙ ap (λ x. x ++ (encode_utf8_all cs ++ rest)) one ∙ ap (λ t. 36 ∷ t) e in
    omega (arith, none [] more found, length-append (encode_utf8 c) (encode_utf8_all cs), ap length one)

pub none_behind : (c : ℕ) (cs rest : List ℕ) → NoneBegins (encode_utf8_all (c ∷ cs)) rest → NoneBegins (encode_utf8_all cs) rest
none_behind c cs rest none before behind e =
    let later =
    none (encode_utf8 c ++ before) behind
    (append_assoc (encode_utf8 c) (encode_utf8_all cs) rest ∙ ap (λ t. encode_utf8 c ++ t) e ∙ sym (append_assoc (encode_utf8 c) before (codes "${" ++ behind))) in
    omega (arith, later, length-append (encode_utf8 c) (encode_utf8_all cs), length-append (encode_utf8 c) before)

along_characters : (wild : Bool) (text : List ℕ) (pieces : List Piece) (cs rest : List ℕ) → NoneBegins (encode_utf8_all cs) rest
    → Along wild text pieces (encode_utf8_all cs ++ rest) → Along wild text (pieces ++ plain_draft (map (sign_of wild) cs)) rest
along_characters wild text pieces [] rest none a =
    let P : List Piece → Type 0 = λ done. Along wild text done rest in
    subst P (sym (append-nil pieces)) a
along_characters wild text pieces (c ∷ cs) rest none a =
    let P : List Piece → Type 0 = λ done. Along wild text done rest in
    let Q : List ℕ → Type 0 = λ t. Along wild text pieces t in
    let left = encode_utf8_all cs ++ rest in
    let begins : BeginsWith wild (encode_utf8 c ++ left) (Plain (sign_of wild c)) left =
    record { part = encode_utf8 c; written = (c, refl, refl); joined = refl; apart = none_here c cs rest none } in
    let more =
    draft_along_more wild text pieces (encode_utf8 c ++ left) left (Plain (sign_of wild c)) (subst Q (append_assoc (encode_utf8 c) (encode_utf8_all cs) rest) a) begins in
    subst P (append_assoc pieces (Plain (sign_of wild c) ∷ []) (plain_draft (map (sign_of wild) cs)))
    (along_characters wild text (pieces ++ Plain (sign_of wild c) ∷ []) cs rest (none_behind c cs rest none) more)

-- the characters before a `${`, or before the end, are pieces
along_front : (wild : Bool) (text : List ℕ) (pieces : List Piece) (front rest : List ℕ) → IsUtf8 front → NoneBegins front rest
    → Along wild text pieces (front ++ rest) → Along wild text (pieces ++ plain_draft (map (sign_of wild) (chars front))) rest
along_front wild text pieces front rest (cs, (scalars, is)) none a =
    let P : List ℕ → Type 0 = λ t. NoneBegins t rest → Along wild text pieces (t ++ rest) → Along wild text (pieces ++ plain_draft (map (sign_of wild) cs)) rest in
    let Q : List ℕ → Type 0 = λ ds. Along wild text (pieces ++ plain_draft (map (sign_of wild) ds)) rest in
    subst Q (chars_from_encodes cs front (cs, (scalars, is)) is) (subst P is (along_characters wild text pieces cs rest) none a)

-- up to the first `${`
pub along_cut : (wild : Bool) (text : List ℕ) (pieces grown : List Piece) (rest front inside : List ℕ) → Along wild text pieces rest → IsUtf8 front
    → IsCutAtForm rest front inside → grown ≡ pieces ++ plain_draft (map (sign_of wild) (chars front)) → Along wild text grown (codes "${" ++ inside)
along_cut wild text pieces grown rest front inside a utf8 (joined, none) is =
    let P : List ℕ → Type 0 = λ t. Along wild text pieces t in
    let Q : List Piece → Type 0 = λ done. Along wild text done (codes "${" ++ inside) in
    subst Q (sym is) (along_front wild text pieces front (codes "${" ++ inside) utf8 none (subst P joined a))

-- over a form that stands behind a `${`
pub along_form : (wild : Bool) (text : List ℕ) (pieces grown : List Piece) (inside behind : List ℕ) (piece : Piece)
    → Along wild text pieces (codes "${" ++ inside) → HasForm piece inside behind → grown ≡ pieces ++ piece ∷ [] → Along wild text grown behind
along_form wild text pieces grown inside behind piece a has is =
    let Q : List Piece → Type 0 = λ done. Along wild text done behind in
    subst Q (sym is) (draft_along_more wild text pieces (codes "${" ++ inside) behind piece a (begins_from_form wild piece (codes "${" ++ inside) inside behind refl has))

-- to the end of the text, where no further `${` stands
pub along_end : (wild : Bool) (text : List ℕ) (pieces grown : List Piece) (rest : List ℕ) → Along wild text pieces rest → IsUtf8 rest
    → NoneBegins rest [] → grown ≡ pieces ++ plain_draft (map (sign_of wild) (chars rest)) → IsDraft wild text grown
along_end wild text pieces grown rest a utf8 none is =
    let P : List ℕ → Type 0 = λ t. Along wild text pieces t in
    let Q : List Piece → Type 0 = λ all. IsDraft wild text all in
    let whole = along_front wild text pieces rest [] utf8 none (subst P (sym (append-nil rest)) a) in
    subst Q (append-nil _ ∙ sym is) (whole.on [] refl)

-- where no `${` stands, each character of the text is a piece
pub plain_drafted : (wild : Bool) (text : List ℕ) → IsUtf8 text → NoneBegins text [] → IsDraft wild text (plain_draft (map (sign_of wild) (chars text)))
plain_drafted wild text utf8 none =
    along_end wild text [] (plain_draft (map (sign_of wild) (chars text))) text (none_read wild text) utf8 none refl

-- where no form stands behind a `${`
pub draft_along_off : (wild : Bool) (text : List ℕ) (pieces : List Piece) (inside : List ℕ) → Along wild text pieces (codes "${" ++ inside)
    → ((piece : Piece) (behind : List ℕ) → ¬ HasForm piece inside behind) → (all : List Piece) → ¬ IsDraft wild text all
draft_along_off wild text pieces inside a off all draft = let left = a.back all draft in go left.0 left.1
  where
    go : (tail : List Piece) → IsDraft wild (codes "${" ++ inside) tail → ⊥
    go [] none = let no : ⊥ = cc in no
    go (p ∷ tail) (behind, begins, more) = off p behind (form_from_begins wild p (codes "${" ++ inside) inside behind refl begins)
