-- The test of a path meets the definition.
use Rattle.std.proofs.Common.{◌≡◌, ◌↔◌, ℕ, ◌<◌, List, [], ◌∷◌, ◌++◌, Bool, true, false, ◌&&◌, ◌==◌, cond, length, refl, sym, ap, ◌∙◌, subst, arith, IsTrue, nat_lt, eqb-true}
use Rattle.std.proofs.lemmas.Bool.{and_parts, lt-ltb, ltb-true}
use Rattle.std.proofs.lemmas.List.{append-nil}
use Rattle.std.specs.List.{AllByRecursion, list_all, join_with_byte}
use Rattle.iam_context.specs.Code.ArnParts.{path_from}
use Rattle.iam_context.specs.Requester.{IsPath, is_segment, is_segment_character, last_segment}
use Rattle.std.proofs.Common.{Some, drop, get_or, length-drop, not, ◌≢◌, ◌≤◌, ◌+◌, ◌-◌}
use Rattle.std.proofs.lemmas.List.{get_or-drop}
use Rattle.std.proofs.lemmas.List.Sums.{suffix_len_is}
use Rattle.std.specs.List.{suffix_len}
use Rattle.std.specs.Str.{NoCharPasses}
use Rattle.std.specs.Str.Pattern.{RFindsChar}
use Rattle.std.proofs.lemmas.Str.Pattern.{NoCharPasses-char}

-- the characters of a segment, maybe none
abbrev are_characters : List ℕ → Bool
are_characters text = list_all is_segment_character text

abbrev IsSegment : List ℕ → Type 0
IsSegment text = IsTrue (is_segment text)

-- the rest of a path: the end of its first segment, and the segments behind it
abbrev IsRest : Bool → List ℕ → Type 0
IsRest begun text =
    (first : List ℕ) × (rest : List (List ℕ)) × (are_characters first ≡ true) × (begun ≡ false → 0 < length first) × AllByRecursion IsSegment rest
    × (join_with_byte 47 (first ∷ rest) ≡ text)

run_of : (text : List ℕ) → 0 < length text → are_characters text ≡ true → IsSegment text
run_of text some all = go (nat_lt 0 (length text)) (lt-ltb 0 (length text) some)
  where
    go : (b : Bool) → b ≡ true → (b && are_characters text) ≡ true
    go true e = all
    go false e = cc

join_cons : (c : ℕ) (first : List ℕ) (rest : List (List ℕ)) → join_with_byte 47 ((c ∷ first) ∷ rest) ≡ c ∷ join_with_byte 47 (first ∷ rest)
join_cons c first [] = refl
join_cons c first (s ∷ rest) = refl

-- a text that passes the test is the rest of a path
rest_from_test : (text : List ℕ) (begun : Bool) → path_from begun text ≡ true → IsRest begun text
rest_from_test [] begun e = ([], [], refl, (λ fresh. let wrong : ⊥ = cc in absurd wrong), tt, refl)
rest_from_test (c ∷ text) begun e = go (c == 47) refl (rest_from_test text false) (rest_from_test text true) e
  where
    at_slash : c ≡ 47 → begun ≡ true → IsRest false text → IsRest begun (c ∷ text)
    at_slash slash been (first, rest, all, some, segments, joined) = (
      [],
      first ∷ rest,
      refl,
      (λ fresh. let wrong : ⊥ = cc in absurd wrong),
      (run_of first (some refl) all, segments),
      (let whole : 47 ∷ join_with_byte 47 (first ∷ rest) ≡ c ∷ text = cc in whole),
    )

    at_character : is_segment_character c ≡ true → IsRest true text → IsRest begun (c ∷ text)
    at_character is (first, rest, all, some, segments, joined) = (
      c ∷ first,
      rest,
      ap (λ b. b && are_characters first) is ∙ all,
      (λ fresh. omega arith),
      segments,
      join_cons c first rest ∙ ap (λ t. c ∷ t) joined,
    )

    go : (b : Bool) → (c == 47) ≡ b → (path_from false text ≡ true → IsRest false text) → (path_from true text ≡ true → IsRest true text)
        → cond b (begun && path_from false text) (is_segment_character c && path_from true text) ≡ true → IsRest begun (c ∷ text)
    go true slash fresh later e =
        let both = and_parts begun (path_from false text) e in at_slash (eqb-true c 47 slash) both.0 (fresh both.1)
    go false slash fresh later e =
        let both = and_parts (is_segment_character c) (path_from true text) e in at_character both.0 (later both.1)

no_slash : (c : ℕ) → is_segment_character c ≡ true → (c == 47) ≡ false
no_slash c is = go (c == 47) refl
  where
    go : (b : Bool) → (c == 47) ≡ b → b ≡ false
    go false e = refl
    go true e =
        let slash : c ≡ 47 = eqb-true c 47 e in
        let wrong : is_segment_character 47 ≡ true = ap is_segment_character (sym slash) ∙ is in
        cc

-- the characters of a segment are walked
walk_first : (first tail : List ℕ) (begun : Bool) → are_characters first ≡ true → (begun ≡ false → 0 < length first) → path_from true tail ≡ true
    → path_from begun (first ++ tail) ≡ true
walk_first [] tail true all some ends = ends
walk_first [] tail false all some ends = absurd (omega (arith, some refl))
walk_first (c ∷ first) tail begun all some ends =
    let both = and_parts (is_segment_character c) (are_characters first) all in
    go (c == 47) (is_segment_character c) (no_slash c both.0) both.0 (walk_first first tail true both.1 (λ fresh. let wrong : ⊥ = cc in absurd wrong) ends)
  where
    go : (b is : Bool) → b ≡ false → is ≡ true → path_from true (first ++ tail) ≡ true
        → cond b (begun && path_from false (first ++ tail)) (is && path_from true (first ++ tail)) ≡ true
    go true is other seg e = cc
    go false true other seg e = e
    go false false other seg e = cc

run_parts : (text : List ℕ) → IsSegment text → (0 < length text) × (are_characters text ≡ true)
run_parts text run =
    let both = and_parts (nat_lt 0 (length text)) (are_characters text) run in
    (ltb-true 0 (length text) both.0, both.1)

test_from_rest : (rest : List (List ℕ)) (first : List ℕ) (begun : Bool) → are_characters first ≡ true → (begun ≡ false → 0 < length first)
    → AllByRecursion IsSegment rest → path_from begun (join_with_byte 47 (first ∷ rest)) ≡ true
test_from_rest [] first begun all some segments =
    let P : List ℕ → Type 0 = λ t. path_from begun t ≡ true in
    subst P (append-nil first) (walk_first first [] begun all some refl)
test_from_rest (s ∷ rest) first begun all some segments =
    let run = run_parts s segments.0 in
    walk_first first (47 ∷ join_with_byte 47 (s ∷ rest)) begun all some (test_from_rest rest s false run.1 (λ fresh. run.0) segments.1)

-- the test is true exactly of paths
pub path_test : (text : List ℕ) → (path_from false text ≡ true) ↔ IsPath text
path_test text = (λ e. path-of (rest_from_test text false e), test-of)
  where
    path-of : IsRest false text → IsPath text
    path-of (first, rest, all, some, segments, joined) = (first ∷ rest, omega arith, (run_of first (some refl) all, segments), joined)

    test-of : IsPath text → path_from false text ≡ true
    test-of ([], some, segments, joined) = absurd (omega arith)
    test-of (s ∷ rest, some, segments, joined) =
        let run = run_parts s segments.0 in
        ap (path_from false) (sym joined) ∙ test_from_rest rest s false run.1 (λ fresh. run.0) segments.1

-- what stands behind the last `/`
pub last_found : (path name : List ℕ) (i j : ℕ) → RFindsChar 47 path (Some (i, j)) → name ≡ drop j path → j ≤ length path → name ≡ last_segment path
last_found path name i j found is within =
    let ends : j ≡ i + 1 = found.1.ends in
    let slash : get_or path i 0 ≡ 47 = found.1.byte (omega arith) in
    let behind : suffix_len (λ c. not (c == 47)) path ≡ length path - j =
    suffix_len_is (λ c. not (c == 47)) path j 0 within
    (λ k above below. no_slash_at k (NoCharPasses-char 47 (drop j path) (k - j) found.0 (omega arith) (omega (arith, length-drop j path))) above)
    (λ some. ap (λ c. not (c == 47)) (ap (λ k. get_or path k 0) (let before : j - 1 ≡ i = omega arith in before) ∙ slash)) in
    let place : length path - suffix_len (λ c. not (c == 47)) path ≡ j = omega arith in
    is ∙ sym (ap (λ k. drop k path) place)
  where
    other : (c : ℕ) → c ≢ 47 → not (c == 47) ≡ true
    other c differs = go (c == 47) refl
      where
        go : (b : Bool) → (c == 47) ≡ b → not b ≡ true
        go false e = refl
        go true e = absurd (differs (eqb-true c 47 e))

    no_slash_at : (k : ℕ) → get_or (drop j path) (k - j) 0 ≢ 47 → j ≤ k → not (get_or path k 0 == 47) ≡ true
    no_slash_at k differs above =
        let same : get_or (drop j path) (k - j) 0 ≡ get_or path k 0 = get_or-drop j path (k - j) 0 ∙ ap (λ n. get_or path n 0) (let n : j + (k - j) ≡ k = omega arith in n) in
        other (get_or path k 0) (λ e. differs (same ∙ e))

pub last_whole : (path : List ℕ) → NoCharPasses (λ d. d == 47) path → path ≡ last_segment path
last_whole path plain =
    let all : suffix_len (λ c. not (c == 47)) path ≡ length path - 0 =
    suffix_len_is (λ c. not (c == 47)) path 0 0 (omega arith) (λ k above below. other k below) (λ some. absurd (omega arith)) in
    let place : length path - suffix_len (λ c. not (c == 47)) path ≡ 0 = omega arith in
    sym (ap (λ k. drop k path) place)
  where
    other : (k : ℕ) → k < length path → not (get_or path k 0 == 47) ≡ true
    other k below = go (get_or path k 0 == 47) refl
      where
        go : (b : Bool) → (get_or path k 0 == 47) ≡ b → not b ≡ true
        go false e = refl
        go true e = absurd (NoCharPasses-char 47 path k plain (omega arith) below (eqb-true (get_or path k 0) 47 e))
