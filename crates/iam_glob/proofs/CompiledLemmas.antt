-- Given characters at the front and at the end of a pattern, and pieces between.
use Rattle.std.proofs.Common.{◌≡◌, ◌≢◌, ◌↔◌, ◌⊎◌, inl, inr, ℕ, zero, suc, arith, ◌+◌, ◌-◌, ◌==◌, Bool, true, false, add-one, ◌<◌, get_or, drop-cons, List, [], ◌∷◌, ◌++◌, length, take, drop, append_assoc, append-nil, map, refl, sym, ap, ◌∙◌, subst, Option, Some, None, is_some, IsTrue}
use Rattle.std.proofs.Math.Seq.{take-append_seam}
use Rattle.std.proofs.lemmas.List.{take-append-drop}
use Rattle.std.proofs.lemmas.List.Prefix.{end_rest}
use Rattle.std.specs.Cmp.Lexicographic.{pointwise, bytes_decides}
use Rattle.std.specs.Option.{MatchOption}
use Rattle.std.proofs.lemmas.List.{map-append}
use Rattle.std.proofs.lemmas.Str.{chars-append, chars-IsAscii, encodes-append, encodes-chars, encodes-IsAscii, encode_ascii, IsUtf8-from_ascii, IsUtf8-past_char}
use Rattle.std.proofs.lemmas.Slice.Eq.{starts_is}
use Rattle.std.specs.Cmp.{unsigned_Decides}
use Rattle.std.specs.Borrow.{Bor}
use Rattle.std.specs.Str.{chars, IsAscii, IsUtf8, encode_utf8_all}
use Rattle.iam_glob.specs.Glob.{Matches, plain_sign, wild_sign}
use Rattle.iam_glob.specs.Code.Compiled.{before_any}
use Rattle.iam_glob.specs.Code.Walk.{Later, Walks, Reaches, star}
use Rattle.iam_glob.specs.declared.sign.Sign.{Sign}
use Rattle.iam_glob.specs.declared.sign.Sign.TheVariants.{Given, Any}
use Rattle.iam_glob.proofs.BackLemmas.{last_or_none, last_none, walks_longer, walks_shorter}
use Rattle.iam_glob.proofs.WalkLemmas.{kept_matches, later_end, settles_found}

-- the same character
abbrev same : ℕ → ℕ
same c = c

-- given characters stand for themselves, and what is left decides
pub given_on : (front : List ℕ) (signs : List Sign) (text : List ℕ)
    → Walks same (map plain_sign front ++ signs) (front ++ text) ↔ Walks same signs text
given_on [] signs text = (λ w. w, λ w. w)
given_on (c ∷ front) signs text = let rest = given_on front signs text in (λ w. rest.0 w.1, λ w. (refl, rest.1 w))

-- a text that matches begins with the given characters
pub given_begins : (front : List ℕ) (signs : List Sign) (text : List ℕ) → Walks same (map plain_sign front ++ signs) text
    → (rest : List ℕ) × (text ≡ front ++ rest)
given_begins [] signs text w = (text, refl)
given_begins (c ∷ front) signs [] w = absurd w
given_begins (c ∷ front) signs (d ∷ text) w =
    let found = given_begins front signs text w.1 in
    let here : c ≡ d = w.0 in
    let more : text ≡ front ++ found.0 = found.1 in
    (found.0, (let joined : d ∷ text ≡ c ∷ (front ++ found.0) = cc in joined))

-- given characters before an `Any`
pub given_reaches : (piece : List ℕ) (signs : List Sign) (text : List ℕ)
    → Reaches same (map plain_sign piece ++ (Any ∷ signs)) (piece ++ text) signs text
given_reaches [] signs text = (refl, refl)
given_reaches (c ∷ piece) signs text = (refl, given_reaches piece signs text)

-- given characters at the end stand for themselves
pub back_on : (back : List ℕ) (signs : List Sign) (text : List ℕ)
    → Walks same (signs ++ map plain_sign back) (text ++ back) ↔ Walks same signs text
back_on [] signs text =
    let S : List Sign → Type 0 = λ s. Walks same s (text ++ []) in
    let T : List ℕ → Type 0 = λ t. Walks same signs t in
    (λ w. subst T (append-nil text) (subst S (append-nil signs) w), λ w. subst S (sym (append-nil signs)) (subst T (sym (append-nil text)) w))
back_on (c ∷ back) signs text =
    let rest = back_on back (signs ++ (Given c ∷ [])) (text ++ (c ∷ [])) in
    let S : List Sign → Type 0 = λ s. Walks same s (text ++ (c ∷ back)) in
    let T : List ℕ → Type 0 = λ t. Walks same ((signs ++ (Given c ∷ [])) ++ map plain_sign back) t in
    let split = append_assoc signs (Given c ∷ []) (map plain_sign back) in
    let cut = append_assoc text (c ∷ []) back in (
      λ w. (walks_shorter same signs (Given c) text c given (rest.0 (subst T (sym cut) (subst S (sym split) w)))).1,
      λ w. subst S split (subst T cut (rest.1 (walks_longer same signs (Given c) text c refl w))),
    )
  where
    given : Given c ≡ Any → ⊥
    given e = cc

-- a text that matches ends with the given characters
pub back_ends : (back : List ℕ) (signs : List Sign) (text : List ℕ) → Walks same (signs ++ map plain_sign back) text
    → (before : List ℕ) × (text ≡ before ++ back)
back_ends [] signs text w = (text, sym (append-nil text))
back_ends (c ∷ back) signs text w =
    let S : List Sign → Type 0 = λ s. Walks same s text in
    let split = append_assoc signs (Given c ∷ []) (map plain_sign back) in
    let found = back_ends back (signs ++ (Given c ∷ [])) text (subst S (sym split) w) in
    let T : List ℕ → Type 0 = λ t. Walks same ((signs ++ (Given c ∷ [])) ++ map plain_sign back) t in
    let front = (back_on back (signs ++ (Given c ∷ [])) found.0).0 (subst T found.1 (subst S (sym split) w)) in
    ends c back signs text found.0 found.1 (last_or_none found.0) front
  where
    given : (c : ℕ) → Given c ≡ Any → ⊥
    given c e = cc

    ends : (c : ℕ) (back : List ℕ) (signs : List Sign) (text front : List ℕ) → text ≡ front ++ back
        → (front ≡ []) ⊎ ((rest : List ℕ) × (d : ℕ) × (front ≡ rest ++ (d ∷ []))) → Walks same (signs ++ (Given c ∷ [])) front
        → (before : List ℕ) × (text ≡ before ++ (c ∷ back))
    ends c back signs text front is (inl none) w =
        let T : List ℕ → Type 0 = λ t. Walks same (signs ++ (Given c ∷ [])) t in
        absurd (last_none same signs (Given c) (given c) (subst T none w))
    ends c back signs text front is (inr (rest, d, e)) w =
        let T : List ℕ → Type 0 = λ t. Walks same (signs ++ (Given c ∷ [])) t in
        let last : c ≡ d = (walks_shorter same signs (Given c) rest d (given c) (subst T e w)).0 in
        (rest, is ∙ ap (λ t. t ++ back) e ∙ append_assoc rest (d ∷ []) back ∙ ap (λ x. rest ++ (x ∷ back)) (sym last))

-- the characters of a text behind an ASCII front
pub front_chars : (front rest : List ℕ) → IsAscii front → chars (front ++ rest) ≡ front ++ chars rest
front_chars front rest ascii =
    chars-append front rest (IsUtf8-from_ascii front ascii) ∙ ap (λ t. t ++ chars rest) (chars-IsAscii front ascii)

-- a text whose characters begin with an ASCII front begins with it
pub chars_front : (front text rest : List ℕ) → IsAscii front → IsUtf8 text → chars text ≡ front ++ rest → text ≡ front ++ encode_utf8_all rest
chars_front front text rest ascii utf8 e =
    sym (encodes-chars text utf8) ∙ ap encode_utf8_all e ∙ encodes-append front rest ∙ ap (λ t. t ++ encode_utf8_all rest) (encodes-IsAscii front ascii)

-- more pieces
pub more_pieces : (pieces more : List (Bor (List ℕ))) → before_any (pieces ++ more) ≡ before_any pieces ++ before_any more
more_pieces [] more = refl
more_pieces (piece ∷ pieces) more =
    ap (λ s. map plain_sign piece.now ++ (Any ∷ s)) (more_pieces pieces more)
    ∙ sym (append_assoc (map plain_sign piece.now) (Any ∷ before_any pieces) (before_any more))

-- what is left behind a beginning
pub stripped : (piece text : List ℕ) (found : Option (Bor (List ℕ)))
    → MatchOption found (pointwise ◌==◌ (take (length piece) text) piece ≡ false)
    (λ x. (pointwise ◌==◌ (take (length piece) text) piece ≡ true) × (x.now ≡ drop (length piece) text) × (length x.now + length piece ≡ length text))
    → MatchOption found ((rest : List ℕ) → text ≢ piece ++ rest) (λ rest. text ≡ piece ++ rest.now)
stripped piece text None unlike = λ rest e.
    let alike = (bytes_decides (take (length piece) text) piece).1 (ap (take (length piece)) e ∙ take-append_seam piece rest) in cc
stripped piece text (Some rest) found =
    let front : take (length piece) text ≡ piece = (bytes_decides (take (length piece) text) piece).0 found.0 in
    sym (take-append-drop (length piece) text) ∙ ap (λ t. t ++ drop (length piece) text) front ∙ ap (λ t. piece ++ t) (sym found.1)

-- what stands before an end
pub stripped_back : (back text : List ℕ) (found : Option (Bor (List ℕ)))
    → MatchOption found (pointwise ◌==◌ (drop (length text - length back) text) back ≡ false)
    (λ x. (pointwise ◌==◌ (drop (length text - length back) text) back ≡ true) × (x.now ≡ take (length text - length back) text)
    × (length x.now + length back ≡ length text))
    → MatchOption found ((before : List ℕ) → text ≢ before ++ back) (λ before. text ≡ before.now ++ back)
stripped_back back text None unlike = λ before e.
    let alike = (bytes_decides (drop (length text - length back) text) back).1 (end_rest text back before e) in cc
stripped_back back text (Some before) found =
    let end : drop (length text - length back) text ≡ back = (bytes_decides (drop (length text - length back) text) back).0 found.0 in
    sym (take-append-drop (length text - length back) text) ∙ ap (λ t. take (length text - length back) text ++ t) end
    ∙ ap (λ t. t ++ back) (sym found.1)

-- pieces of which the first has its first place
pub first_piece : (piece : List ℕ) (signs : List Sign) (rest left : List ℕ) (P : Type 0) → left ≡ piece ++ rest
    → P ↔ Later (Walks same (map plain_sign piece ++ (Any ∷ signs))) left → P ↔ Later (Walks same signs) rest
first_piece piece signs rest left P is on =
    let R : List ℕ → Type 0 = λ t. Reaches same (map plain_sign piece ++ (Any ∷ signs)) t signs rest in
    settles_found same (map plain_sign piece ++ (Any ∷ signs)) left P (star signs rest) (subst R (sym is) (given_reaches piece signs rest))
    (λ e. cc) on

-- a text that does not begin with the piece: its first character goes
pub later_piece : (piece : List ℕ) (signs : List Sign) (left rest : List ℕ) (d : ℕ) (P : Type 0) → ((rest : List ℕ) → left ≢ piece ++ rest) → left ≡ d ∷ rest
    → P ↔ Later (Walks same (map plain_sign piece ++ (Any ∷ signs))) left → P ↔ Later (Walks same (map plain_sign piece ++ (Any ∷ signs))) rest
later_piece piece signs left rest d P unlike is on =
    let W : List ℕ → Type 0 = λ t. P ↔ Later (Walks same (map plain_sign piece ++ (Any ∷ signs))) t in
    let both = subst W is on in
    (λ p. behind (both.0 p), λ l. both.1 (inr l))
  where
    behind : Later (Walks same (map plain_sign piece ++ (Any ∷ signs))) (d ∷ rest) → Later (Walks same (map plain_sign piece ++ (Any ∷ signs))) rest
    behind (inl w) = let begun = given_begins piece (Any ∷ signs) (d ∷ rest) w in absurd (unlike begun.0 (is ∙ begun.1))
    behind (inr l) = l

-- a text without characters that does not begin with the piece
pub no_piece : (piece : List ℕ) (signs : List Sign) (left : List ℕ) (P : Type 0) → ((rest : List ℕ) → left ≢ piece ++ rest) → left ≡ []
    → P ↔ Later (Walks same (map plain_sign piece ++ (Any ∷ signs))) left → ¬ P
no_piece piece signs left P unlike is on p =
    let W : List ℕ → Type 0 = λ t. Later (Walks same (map plain_sign piece ++ (Any ∷ signs))) t in
    let begun = given_begins piece (Any ∷ signs) [] (subst W is (on.0 p)) in
    unlike begun.0 (is ∙ begun.1)

-- a text begins with a front, or does not
pub begun : (front text : List ℕ) (told : Bool) → told ≡ pointwise ◌==◌ front (take (length front) text) → told ≡ true → text ≡ front ++ drop (length front) text
begun front text told is so = (starts_is unsigned_Decides text front told is).0 so

pub not_begun : (front text rest : List ℕ) (told : Bool) → told ≡ pointwise ◌==◌ front (take (length front) text) → told ≡ false → text ≢ front ++ rest
not_begun front text rest told is unlike e = let alike = (starts_is unsigned_Decides text front told is).1 rest e in cc

-- what is left of a text behind an ASCII front is a text
pub behind_front : (front rest text : List ℕ) → IsAscii front → text ≡ front ++ rest → IsUtf8 text → IsUtf8 rest
behind_front [] rest text ascii is utf8 = subst IsUtf8 is utf8
behind_front (c ∷ front) rest text ascii is utf8 =
    behind_front front rest (front ++ rest) (λ i. ascii (suc i)) refl
    (IsUtf8-past_char text (front ++ rest) c utf8 (is ∙ ap (λ t. t ++ (front ++ rest)) (sym (encode_ascii c (ascii 0)))))

-- the pieces from one of them on
pub pieces_at : (pieces : List (Bor (List ℕ))) (i : ℕ) (d : Bor (List ℕ)) → i < length pieces
    → before_any (drop i pieces) ≡ map plain_sign (get_or pieces i d).now ++ (Any ∷ before_any (drop (i + 1) pieces))
pieces_at pieces i d below = ap before_any (drop-cons pieces i d below) ∙ ap (λ n. before_any (get_or pieces i d ∷ drop n pieces)) (sym (add-one i))

-- a piece was cut off, with the `*` behind it
pub cut_piece : (pieces : List (Bor (List ℕ))) (piece : Bor (List ℕ)) (all left rest next : List ℕ) (c : ℕ)
    → map wild_sign all ≡ before_any pieces ++ map wild_sign left → left ≡ piece.now ++ rest → rest ≡ c ∷ next → c ≡ 42
    → map wild_sign piece.now ≡ map plain_sign piece.now → map wild_sign all ≡ before_any (pieces ++ (piece ∷ [])) ++ map wild_sign next
cut_piece pieces piece all left rest next c is cut begins starred given =
    let behind : rest ≡ 42 ∷ next = cc in
    let signs : map wild_sign left ≡ map plain_sign piece.now ++ (Any ∷ map wild_sign next) =
    ap (map wild_sign) cut ∙ map-append wild_sign piece.now rest ∙ ap (λ s. s ++ map wild_sign rest) given
    ∙ ap (λ t. map plain_sign piece.now ++ map wild_sign t) behind in
    is ∙ ap (λ s. before_any pieces ++ s) signs
    ∙ ap (λ s. before_any pieces ++ s) (sym (append_assoc (map plain_sign piece.now) (Any ∷ []) (map wild_sign next)))
    ∙ sym (append_assoc (before_any pieces) (map plain_sign piece.now ++ (Any ∷ [])) (map wild_sign next))
    ∙ ap (λ s. s ++ map wild_sign next) (sym (more_pieces pieces (piece ∷ [])))

-- the front of an ASCII text
pub ascii_front : (front rest text : List ℕ) → text ≡ front ++ rest → IsAscii text → IsAscii front
ascii_front front rest text is ascii = go front (subst IsAscii is ascii)
  where
    go : (front : List ℕ) → IsAscii (front ++ rest) → IsAscii front
    go [] ascii i = omega arith
    go (c ∷ front) ascii zero = ascii 0
    go (c ∷ front) ascii (suc i) = go front (λ j. ascii (suc j)) i

-- signs behind given characters
pub cut_signs : (text front rest : List ℕ) (signs : List Sign) → text ≡ front ++ rest → map wild_sign front ≡ map plain_sign front
    → signs ≡ map wild_sign rest → map wild_sign text ≡ map plain_sign front ++ signs
cut_signs text front rest signs is given behind =
    ap (map wild_sign) is ∙ map-append wild_sign front rest ∙ ap (λ s. s ++ map wild_sign rest) given ∙ ap (λ s. map plain_sign front ++ s) (sym behind)

-- a text that begins with the given characters matches where the signs behind them match what is left
pub front_walks : (front : List ℕ) (signs : List Sign) (text rest : List ℕ) → text ≡ front ++ rest
    → Walks same signs rest ↔ Matches (map plain_sign front ++ signs) text
front_walks front signs text rest is =
    let M : List ℕ → Type 0 = λ t. Matches (map plain_sign front ++ signs) t in
    let both = given_on front signs rest in
    let match = kept_matches (map plain_sign front ++ signs) (front ++ rest) in
    (λ w. subst M (sym is) (match.0 (both.1 w)), λ m. both.0 (match.1 (subst M is m)))

pub front_matches : (front : List ℕ) (signs : List Sign) (text rest : List ℕ) → text ≡ front ++ rest
    → Matches signs rest ↔ Matches (map plain_sign front ++ signs) text
front_matches front signs text rest is =
    let both = front_walks front signs text rest is in
    let match = kept_matches signs rest in
    (λ m. both.0 (match.1 m), λ m. match.0 (both.1 m))

-- one that does not begin with them does not match
pub front_unlike : (front : List ℕ) (signs : List Sign) (text : List ℕ) → ((rest : List ℕ) → text ≢ front ++ rest)
    → ¬ Matches (map plain_sign front ++ signs) text
front_unlike front signs text unlike m =
    let found = given_begins front signs text ((kept_matches (map plain_sign front ++ signs) text).1 m) in unlike found.0 found.1

-- a text of given characters alone
literal_walks : (literal : List ℕ) → Walks same (map plain_sign literal) literal
literal_walks [] = tt
literal_walks (c ∷ literal) = (refl, literal_walks literal)

walks_literal : (literal text : List ℕ) → Walks same (map plain_sign literal) text → text ≡ literal
walks_literal [] [] w = refl
walks_literal [] (d ∷ text) w = absurd w
walks_literal (c ∷ literal) [] w = absurd w
walks_literal (c ∷ literal) (d ∷ text) w = let rest = walks_literal literal text w.1 in let here : c ≡ d = w.0 in cc

pub literal_matches : (literal text : List ℕ) (told : Bool) → IsAscii literal → IsUtf8 text → told ≡ pointwise ◌==◌ text literal
    → IsTrue told ↔ Matches (map plain_sign literal) (chars text)
literal_matches literal text told ascii utf8 is =
    let match = kept_matches (map plain_sign literal) (chars text) in
    let W : List ℕ → Type 0 = λ t. Walks same (map plain_sign literal) t in (
      λ t.
          let same_text : text ≡ literal = (bytes_decides text literal).0 (sym is ∙ t) in
          match.0 (subst W (sym (ap chars same_text ∙ chars-IsAscii literal ascii)) (literal_walks literal)),
      λ m.
          let same_chars : chars text ≡ literal = walks_literal literal (chars text) (match.1 m) in
          is ∙ (bytes_decides text literal).1 (sym (encodes-chars text utf8) ∙ ap encode_utf8_all same_chars ∙ encodes-IsAscii literal ascii),
    )

-- a front with any text behind it
pub front_any : (front text : List ℕ) (found : Option (Bor (List ℕ)))
    → MatchOption found ((rest : List ℕ) → text ≢ front ++ rest) (λ rest. text ≡ front ++ chars rest.now)
    → IsTrue (is_some found) ↔ Matches (map plain_sign front ++ (Any ∷ [])) text
front_any front text None unlike = (λ t. absurd (let wrong : ⊥ = cc in wrong), λ m. absurd (front_unlike front (Any ∷ []) text unlike m))
front_any front text (Some rest) is =
    (λ t. (front_walks front (Any ∷ []) text (chars rest.now) is).0 (later_end same (chars rest.now)), λ m. refl)
