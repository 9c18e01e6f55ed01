-- The walk by index along a text of ASCII characters.
use Rattle.std.proofs.Common.{◌≡◌, ◌≢◌, ◌+◌, ℕ, zero, suc, List, [], ◌∷◌, length, drop, get_or, ◌<◌, ◌≤◌, refl, sym, subst, arith, add-one}
use Rattle.std.proofs.Common.{◌++◌}
use Rattle.std.specs.Prelude.{encode_utf8}
use Rattle.std.specs.Str.{chars, IsUtf8}
use Rattle.std.proofs.lemmas.Str.{encode_ascii, chars_past_char, IsUtf8-past_char}
use Rattle.std.proofs.Math.Seq.{drop-cons}
use Rattle.std.proofs.lemmas.List.{drop_all}
use Rattle.iam_glob.specs.Code.Walk.{Begins, Covers, Walks, off, found_at}
use Rattle.iam_glob.specs.declared.ascii.Place.{Place}
use Rattle.iam_glob.specs.declared.ascii.Place.TheVariants as place
use Rattle.iam_glob.proofs.WalkLemmas.{Along, along_step, along_stops}
use Rattle.iam_glob.specs.declared.sign.Sign.{Sign}
use Rattle.iam_glob.specs.declared.sign.Sign.TheVariants.{Given, One, Any}

-- the sign at `i` stands for the character at `i`
pub along_next : (f : ℕ → ℕ) (signs : List Sign) (text : List ℕ) (i : ℕ) (d : Sign) → i < length signs → i < length text
    → Covers f (get_or signs i d) (get_or text i 0) → Along f signs text (drop i signs) (drop i text)
    → Along f signs text (drop (i + 1) signs) (drop (i + 1) text)
along_next f signs text i d in_signs in_text covers a =
    let S : List Sign → Type 0 = λ s. Along f signs text s (drop i text) in
    let T : List ℕ → Type 0 = λ t. Along f signs text (get_or signs i d ∷ drop (suc i) signs) t in
    let here = subst T (drop-cons text i 0 in_text) (subst S (drop-cons signs i d in_signs) a) in
    rw add-one (along_step f signs text (get_or signs i d) (get_or text i 0) (drop (suc i) signs) (drop (suc i) text) covers here)

-- what is left of a text begins with the character at the place
head_at : (text : List ℕ) (i : ℕ) (d : ℕ) (rest : List ℕ) → drop i text ≡ d ∷ rest → (i < length text) × (get_or text i 0 ≡ d)
head_at [] zero d rest e = cc
head_at [] (suc i) d rest e = cc
head_at (c ∷ text) zero d rest e = (omega arith, cc)
head_at (c ∷ text) (suc i) d rest e = let found = head_at text i d rest e in (omega arith, found.1)

-- the sign at `i` does not stand for a character at `i`
pub along_wrong : (f : ℕ → ℕ) (signs : List Sign) (text : List ℕ) (i : ℕ) (d : Sign) → i < length signs → get_or signs i d ≢ Any
    → ¬ ((i < length text) × Covers f (get_or signs i d) (get_or text i 0)) → Along f signs text (drop i signs) (drop i text) → ¬ Walks f signs text
along_wrong f signs text i d in_signs not_any wrong a w =
    let S : List Sign → Type 0 = λ s. Walks f s (drop i text) in
    let C : ℕ → Type 0 = λ c. Covers f (get_or signs i d) c in
    along_stops f (get_or signs i d) (drop (suc i) signs) (drop i text) not_any
    (λ rest on. let at = head_at text i on.0 rest on.2 in wrong (at.0, subst C (sym at.1) on.1))
    (subst S (drop-cons signs i d in_signs) (a.back w))

-- signs and text end together
pub along_both : (f : ℕ → ℕ) (signs : List Sign) (text : List ℕ) (i : ℕ) → length signs ≤ i → length text ≤ i
    → Along f signs text (drop i signs) (drop i text) → Walks f signs text
along_both f signs text i all whole a =
    let S : List Sign → Type 0 = λ s. Walks f s (drop i text) in
    let T : List ℕ → Type 0 = λ t. Walks f [] t in
    a.on (subst S (sym (drop_all i signs all)) (subst T (sym (drop_all i text whole)) tt))

-- the signs end before the text
pub along_rest : (f : ℕ → ℕ) (signs : List Sign) (text : List ℕ) (i : ℕ) → length signs ≤ i → i < length text
    → Along f signs text (drop i signs) (drop i text) → ¬ Walks f signs text
along_rest f signs text i all some a w =
    let S : List Sign → Type 0 = λ s. Walks f s (drop i text) in
    let T : List ℕ → Type 0 = λ t. Walks f [] t in
    subst T (drop-cons text i 0 some) (subst S (drop_all i signs all) (a.back w))

-- one more sign that is not `Any` stands before the first
pub begins_more : (signs : List Sign) (i : ℕ) (d : Sign) → i < length signs → get_or signs i d ≢ Any → Begins signs i → Begins signs (suc i)
begins_more [] i d in_signs not_any b = absurd (omega arith)
begins_more (Given c ∷ signs) zero d in_signs not_any b = tt
begins_more (One ∷ signs) zero d in_signs not_any b = tt
begins_more (Any ∷ signs) zero d in_signs not_any b = not_any refl
begins_more (Given c ∷ signs) (suc i) d in_signs not_any b = begins_more signs i d (omega arith) not_any b
begins_more (One ∷ signs) (suc i) d in_signs not_any b = begins_more signs i d (omega arith) not_any b
begins_more (Any ∷ signs) (suc i) d in_signs not_any b = b

-- each sign before the first `Any` stands for the character at its place
pub begins_covers : (f : ℕ → ℕ) (signs : List Sign) (text : List ℕ) (i : ℕ) (d : Sign) → Begins signs (suc i) → Walks f signs text
    → (i < length text) × Covers f (get_or signs i d) (get_or text i 0)
begins_covers f [] text i d b w = absurd b
begins_covers f (Given c ∷ signs) [] i d b w = absurd w
begins_covers f (Given c ∷ signs) (e ∷ text) zero d b w = (omega arith, w.0)
begins_covers f (Given c ∷ signs) (e ∷ text) (suc i) d b w = let at = begins_covers f signs text i d b w.1 in (omega arith, at.1)
begins_covers f (One ∷ signs) [] i d b w = absurd w
begins_covers f (One ∷ signs) (e ∷ text) zero d b w = (omega arith, tt)
begins_covers f (One ∷ signs) (e ∷ text) (suc i) d b w = let at = begins_covers f signs text i d b w in (omega arith, at.1)
begins_covers f (Any ∷ signs) text i d b w = absurd b

-- what was found is not off
pub not_off_at : (found : Place) → found ≢ place.Off → found_at found ≢ off
not_off_at place.Whole on e = cc
not_off_at (place.Star signs text) on e = cc
not_off_at place.Off on e = on refl

-- what is left of a text that has an ASCII character at the place
pub ascii_head : (text : List ℕ) (i : ℕ) → IsUtf8 (drop i text) → i < length text → get_or text i 0 < 128
    → IsUtf8 (drop (i + 1) text) × (chars (drop i text) ≡ get_or text i 0 ∷ chars (drop (i + 1) text))
ascii_head text i utf8 below ascii =
    let c = get_or text i 0 in
    let joined : drop i text ≡ encode_utf8 c ++ drop (i + 1) text =
    rw (encode_ascii c ascii, add-one) (drop-cons text i 0 below) in
    (IsUtf8-past_char (drop i text) (drop (i + 1) text) c utf8 joined, chars_past_char (drop i text) (drop (i + 1) text) c utf8 joined)

-- the sign at `i` stands for an ASCII character at `i`
pub along_ascii : (f : ℕ → ℕ) (signs : List Sign) (text : List ℕ) (i : ℕ) (d : Sign) → i < length signs → i < length text
    → IsUtf8 (drop i text) → get_or text i 0 < 128 → Covers f (get_or signs i d) (get_or text i 0)
    → Along f signs (chars text) (drop i signs) (chars (drop i text))
    → Along f signs (chars text) (drop (i + 1) signs) (chars (drop (i + 1) text))
along_ascii f signs text i d in_signs in_text utf8 ascii covers a =
    let S : List Sign → Type 0 = λ s. Along f signs (chars text) s (chars (drop i text)) in
    let T : List ℕ → Type 0 = λ t. Along f signs (chars text) (get_or signs i d ∷ drop (suc i) signs) t in
    let rest = chars (drop (i + 1) text) in
    let here = subst T (ascii_head text i utf8 in_text ascii).1 (subst S (drop-cons signs i d in_signs) a) in
    let L : ℕ → Type 0 = λ n. Along f signs (chars text) (drop n signs) rest in
    subst L (sym (add-one i)) (along_step f signs (chars text) (get_or signs i d) (get_or text i 0) (drop (suc i) signs) rest covers here)

-- the sign at `i` does not stand for the ASCII character at `i`
pub ascii_wrong : (f : ℕ → ℕ) (signs : List Sign) (text : List ℕ) (i : ℕ) (d : Sign) → i < length signs → i < length text
    → IsUtf8 (drop i text) → get_or text i 0 < 128 → get_or signs i d ≢ Any → ¬ Covers f (get_or signs i d) (get_or text i 0)
    → Along f signs (chars text) (drop i signs) (chars (drop i text)) → ¬ Walks f signs (chars text)
ascii_wrong f signs text i d in_signs in_text utf8 ascii not_any wrong a w =
    let S : List Sign → Type 0 = λ s. Walks f s (chars (drop i text)) in
    let C : ℕ → Type 0 = λ c. Covers f (get_or signs i d) c in
    let head = (ascii_head text i utf8 in_text ascii).1 in
    along_stops f (get_or signs i d) (drop (suc i) signs) (chars (drop i text)) not_any
    (λ rest on. let same : on.0 ≡ get_or text i 0 = let e = on.2 in cc in wrong (subst C same on.1))
    (subst S (drop-cons signs i d in_signs) (a.back w))
