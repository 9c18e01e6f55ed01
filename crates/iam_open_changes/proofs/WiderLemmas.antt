-- Patterns that match whatever others match.
use Rattle.std.proofs.Common.{◌≡◌, ◌∙◌, ◌+◌, ◌<◌, ℕ, suc, List, [], ◌∷◌, ◌++◌, All, ap, append_assoc, arith, get_or, length, map, refl, subst, sym, take}
use Rattle.std.proofs.Math.Utf8.{encode}
use Rattle.std.proofs.lemmas.List.{append-nil, map-append, take_more}
use Rattle.std.proofs.lemmas.Str.{IsUtf8-encode, chars-append, chars-nil, chars_past_char}
use Rattle.std.specs.Char.{IsScalar}
use Rattle.std.specs.List.{concat}
use Rattle.std.specs.Str.{IsUtf8, chars}
use Rattle.iam_glob.specs.Glob.{Fits, Matches, wild_sign}
use Rattle.iam_glob.specs.declared.sign.Sign.{Sign}
use Rattle.iam_glob.specs.declared.sign.Sign.TheVariants.{Given, One, Any}
use Rattle.iam_open.proofs.ListLemmas.{push_all}
use Rattle.iam_open_changes.specs.Code.Implied.{IsRun}

-- signs in a row match a text that is cut so that each of them match their part
cut : (ones others : List Sign) (text : List ℕ) → Matches (ones ++ others) text
    → (front : List ℕ) × (back : List ℕ) × (text ≡ front ++ back) × Matches ones front × Matches others back
cut [] others text matches = ([], text, refl, ([], tt, refl), matches)
cut (one ∷ ones) others text ([], fit, is) = absurd fit
cut (one ∷ ones) others text (part ∷ parts, (fits, rest), is) =
    let (front, back, split, (fronts, are_fronts, joined), last) = cut ones others (concat parts) (parts, rest, refl) in (
      part ++ front,
      back,
      sym is ∙ ap (λ t. part ++ t) split ∙ sym (append_assoc part front back),
      (part ∷ fronts, (fits, are_fronts), ap (λ t. part ++ t) joined),
      last,
    )

nothing : (text : List ℕ) → Matches [] text → [] ≡ text
nothing text ([], fit, is) = is
nothing text (part ∷ parts, fit, is) = absurd fit

single : (c : ℕ) (text : List ℕ) → Matches (Given c ∷ []) text → text ≡ c ∷ []
single c text ([], fit, is) = absurd fit
single c text (part ∷ [], (fit, end), is) = sym is ∙ ap (λ (p : List ℕ). p ++ []) fit
single c text (part ∷ (other ∷ parts), (fit, end), is) = absurd end

-- a sign that fits a run of what is written fits each text that this run matches
fits_on : (sign : Sign) (run text : List ℕ) → IsRun sign → Fits sign run → Matches (map wild_sign run) text → Fits sign text
fits_on (Given c) run text plain is matches =
    single c text (subst (λ (ss : List Sign). Matches ss text) (ap (map wild_sign) is ∙ ap (λ (s : Sign). s ∷ []) plain) matches)
fits_on One run text plain is matches = absurd plain
fits_on Any run text plain is matches = tt

-- signs of runs that match a pattern as it is written match each text that this pattern matches
pub runs_match : (wide : List Sign) (written text : List ℕ) → All IsRun wide → Matches wide written → Matches (map wild_sign written) text → Matches wide text
runs_match [] written text runs ([], fit, is) matches =
    ([], tt, nothing text (subst (λ (w : List ℕ). Matches (map wild_sign w) text) (sym is) matches))
runs_match [] written text runs (part ∷ parts, fit, is) matches = absurd fit
runs_match (sign ∷ wide) written text runs ([], fit, is) matches = absurd fit
runs_match (sign ∷ wide) written text runs (part ∷ parts, (fit, rest), is) matches =
    let whole : Matches (map wild_sign (part ++ concat parts)) text = subst (λ (w : List ℕ). Matches (map wild_sign w) text) (sym is) matches in
    let apart : Matches (map wild_sign part ++ map wild_sign (concat parts)) text =
    subst (λ (ss : List Sign). Matches ss text) (map-append wild_sign part (concat parts)) whole in
    let (front, back, split, first, last) = cut (map wild_sign part) (map wild_sign (concat parts)) text apart in
    let (more, are_more, joined) =
    runs_match wide (concat parts) back (λ k d below. runs (suc k) d (omega (arith, below))) (parts, rest, refl) last in
    (front ∷ more, (fits_on sign part front (runs 0 sign (omega arith)) fit first, are_more), ap (λ t. front ++ t) joined ∙ sym split)

-- a text with one more character
pub one_more : (bytes : List ℕ) (c : ℕ) → IsUtf8 bytes → IsScalar c → chars (bytes ++ encode c) ≡ chars bytes ++ (c ∷ [])
one_more bytes c utf8 scalar =
    chars-append bytes (encode c) utf8
    ∙ ap (λ t. chars bytes ++ t) (chars_past_char (encode c) [] c (IsUtf8-encode c scalar) (sym (append-nil (encode c))) ∙ ap (λ t. c ∷ t) chars-nil)

-- the text that is written for one more sign
pub writes_on : (signs : List Sign) (i : ℕ) (d : Sign) (c : ℕ) (bytes after : List ℕ) → i < length signs → IsUtf8 bytes → IsScalar c
    → after ≡ bytes ++ encode c → wild_sign c ≡ get_or signs i d → map wild_sign (chars bytes) ≡ take i signs
    → map wild_sign (chars after) ≡ take (i + 1) signs
writes_on signs i d c bytes after below utf8 scalar is sign so_far =
    ap (λ (t : List ℕ). map wild_sign (chars t)) is ∙ ap (map wild_sign) (one_more bytes c utf8 scalar)
    ∙ map-append wild_sign (chars bytes) (c ∷ []) ∙ ap (λ (ss : List Sign). ss ++ (wild_sign c ∷ [])) so_far
    ∙ ap (λ (s : Sign). take i signs ++ (s ∷ [])) sign ∙ sym (take_more signs i d below)

-- and all signs so far are runs
pub runs_on : (signs : List Sign) (i : ℕ) (d sign : Sign) → i < length signs → sign ≡ get_or signs i d → IsRun sign → All IsRun (take i signs)
    → All IsRun (take (i + 1) signs)
runs_on signs i d sign below is run so_far =
    subst (λ (ss : List Sign). All IsRun ss) (ap (λ (s : Sign). take i signs ++ (s ∷ [])) is ∙ sym (take_more signs i d below))
    (push_all IsRun (take i signs) sign so_far run)
