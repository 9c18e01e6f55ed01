-- Texts of a line's pattern on which the groups agree that tell such texts apart agree on all.
use Rattle.std.proofs.Common.{◌≡◌, inl, inr, ◌↔◌, ℕ, Bool, true, false, ◌==◌, ◌&&◌, ◌||◌, not, List, [], ◌∷◌, ◌++◌, Contains, filter, map, refl, sym, ap, ◌∙◌, subst}
use Rattle.std.proofs.lemmas.Bool.{eq-eqb, eqb-true}
use Rattle.std.proofs.lemmas.List.{map-append}
use Rattle.std.proofs.lemmas.List.Elements.{filter-append}
use Rattle.std.specs.List.{list_any}
use Rattle.iam_glob.specs.Glob.{Matches}
use Rattle.iam_glob.specs.declared.sign.Sign.{Sign}
use Rattle.iam_glob.specs.declared.sign.Sign.TheVariants.{Any, Given, One}
use Rattle.iam_kinds.specs.Kinds.{GroupMatches}
use Rattle.iam_every.specs.Groups.{AgreeOn}
use Rattle.iam_every.specs.Telling.{are_apart, covers, near, telling, tells}
use Rattle.iam_every.proofs.ListLemmas.{behind, first_or, here, mapped, none}
use Rattle.iam_every.proofs.MatchLemmas.{any_on, any_skip, given_none, given_off, given_on, one_none, one_off, one_on}

-- ---- two patterns
all_match : (text : List ℕ) → Matches (Any ∷ []) text
all_match [] = any_skip [] [] ([], tt, refl)
all_match (c ∷ text) = any_on [] c text (all_match text)

-- of two patterns that are apart none matches what the other matches
never_both : (one other : List Sign) (text : List ℕ) → are_apart one other ≡ true → Matches one text → ¬ Matches other text
never_both [] other text apart matches too = let wrong : ⊥ = cc in wrong
never_both (x ∷ one) [] text apart matches too = let wrong : ⊥ = cc in wrong
never_both (Any ∷ one) (y ∷ other) text apart matches too = let wrong : ⊥ = cc in wrong
never_both (Given c ∷ one) (Any ∷ other) text apart matches too = let wrong : ⊥ = cc in wrong
never_both (One ∷ one) (Any ∷ other) text apart matches too = let wrong : ⊥ = cc in wrong
never_both (Given c ∷ one) (y ∷ other) [] apart matches too = given_none c one matches
never_both (One ∷ one) (y ∷ other) [] apart matches too = one_none one matches
never_both (Given c ∷ one) (Given d ∷ other) (t ∷ text) apart matches too =
    let (own, rest) = given_off c one t text matches in
    let (its, more) = given_off d other t text too in
    let same : (c == d) ≡ true = eq-eqb c d (own ∙ sym its) in
    never_both one other text (subst (λ (b : Bool). (not b || (true && are_apart one other)) ≡ true) same apart) rest more
never_both (Given c ∷ one) (One ∷ other) (t ∷ text) apart matches too =
    never_both one other text apart (given_off c one t text matches).1 (one_off other t text too)
never_both (One ∷ one) (Given d ∷ other) (t ∷ text) apart matches too =
    never_both one other text apart (one_off one t text matches) (given_off d other t text too).1
never_both (One ∷ one) (One ∷ other) (t ∷ text) apart matches too =
    never_both one other text apart (one_off one t text matches) (one_off other t text too)

first_true : (one other : Bool) → (one && other) ≡ true → one ≡ true
first_true true other both = refl
first_true false other both = both

second_true : (one other : Bool) → (one && other) ≡ true → other ≡ true
second_true true other both = both
second_true false other both = absurd (let wrong : ⊥ = cc in wrong)

-- a pattern that covers another matches what that matches
also_matches : (one other : List Sign) (text : List ℕ) → covers one other ≡ true → Matches other text → Matches one text
also_matches [] other text covered matches = absurd (let wrong : ⊥ = cc in wrong)
also_matches (Given c ∷ one) [] text covered matches = absurd (let wrong : ⊥ = cc in wrong)
also_matches (One ∷ one) [] text covered matches = absurd (let wrong : ⊥ = cc in wrong)
also_matches (Any ∷ []) [] text covered matches = all_match text
also_matches (Any ∷ z ∷ one) [] text covered matches = absurd (let wrong : ⊥ = cc in wrong)
also_matches (Any ∷ []) (y ∷ other) text covered matches = all_match text
also_matches (Any ∷ z ∷ one) (y ∷ other) text covered matches = absurd (let wrong : ⊥ = cc in wrong)
also_matches (Given c ∷ one) (Any ∷ other) text covered matches = absurd (let wrong : ⊥ = cc in wrong)
also_matches (Given c ∷ one) (One ∷ other) text covered matches = absurd (let wrong : ⊥ = cc in wrong)
also_matches (One ∷ one) (Any ∷ other) text covered matches = absurd (let wrong : ⊥ = cc in wrong)
also_matches (Given c ∷ one) (Given d ∷ other) [] covered matches = absurd (given_none d other matches)
also_matches (One ∷ one) (Given d ∷ other) [] covered matches = absurd (given_none d other matches)
also_matches (One ∷ one) (One ∷ other) [] covered matches = absurd (one_none other matches)
also_matches (Given c ∷ one) (Given d ∷ other) (t ∷ text) covered matches =
    let (its, rest) = given_off d other t text matches in
    let same : c ≡ d = eqb-true c d (first_true (c == d) (covers one other) covered) in
    subst (λ (n : ℕ). Matches (Given c ∷ one) (n ∷ text)) (same ∙ its)
    (given_on c one text (also_matches one other text (second_true (c == d) (covers one other) covered) rest))
also_matches (One ∷ one) (Given d ∷ other) (t ∷ text) covered matches =
    one_on one t text (also_matches one other text covered (given_off d other t text matches).1)
also_matches (One ∷ one) (One ∷ other) (t ∷ text) covered matches =
    one_on one t text (also_matches one other text covered (one_off other t text matches))

-- of two tests, one of which is false, the other is true
other_true : (one other : Bool) → one ≡ false → (one || other) ≡ true → other ≡ true
other_true true other is some = absurd (let wrong : ⊥ = cc in wrong)
other_true false other is some = some

-- ---- lists and tests
pub in_filter : {X : Type 0} (p : X → Bool) (xs : List X) (x : X) → Contains xs x → p x ≡ true → Contains (filter p xs) x
in_filter p [] x in' is = absurd (none x in')
in_filter {X} p (y ∷ xs) x in' is = elim (first_or y x xs in') [
  | inl same ↦ let passes : p y ≡ true = ap p same ∙ is in rw passes (subst (Contains (y ∷ filter p xs)) same (here y (filter p xs)))
  | inr later ↦ by_test (p y) refl (in_filter p xs x later is)
]
  where
    by_test : (b : Bool) → p y ≡ b → Contains (filter p xs) x → Contains (filter p (y ∷ xs)) x
    by_test true is there = rw is (behind y x (filter p xs) there)
    by_test false is there = rw is there

pub of_filter : {X : Type 0} (p : X → Bool) (xs : List X) (x : X) → Contains (filter p xs) x → Contains xs x
of_filter p [] x in' = absurd (none x in')
of_filter {X} p (y ∷ xs) x in' = by_test (of_filter p xs x) (p y) refl in'
  where
    by_test : (Contains (filter p xs) x → Contains xs x) → (b : Bool) → p y ≡ b → Contains (filter p (y ∷ xs)) x → Contains (y ∷ xs) x
    by_test later true is there = elim (first_or y x (filter p xs) (rw is at there)) [
      | inl same ↦ subst (Contains (y ∷ xs)) same (here y xs)
      | inr more ↦ behind y x xs (later more)
    ]
    by_test later false is there = behind y x xs (later (rw is at there))

some_passes : {X : Type 0} (p : X → Bool) (xs : List X) → list_any p xs ≡ true → (x : X) × Contains xs x × (p x ≡ true)
some_passes p [] is = absurd (let wrong : ⊥ = cc in wrong)
some_passes {X} p (y ∷ xs) is = by_test (some_passes p xs) (p y) refl is
  where
    by_test : (list_any p xs ≡ true → (x : X) × Contains xs x × (p x ≡ true)) → (b : Bool) → p y ≡ b → (p y || list_any p xs) ≡ true
        → (x : X) × Contains (y ∷ xs) x × (p x ≡ true)
    by_test later true passes some = (y, here y xs, passes)
    by_test later false passes some =
        let (x, there, too) = later (other_true (p y) (list_any p xs) passes some) in
        (x, behind y x xs there, too)

-- ---- groups
-- of a text of the line's pattern the patterns that may match it say as much as all
near_matches : (line : List Sign) (group : List (List Sign)) (text : List ℕ) → Matches line text
    → GroupMatches group text ↔ GroupMatches (near line group) text
near_matches line group text matches =
    let may : List Sign → Bool = λ pattern. not (are_apart pattern line) in
    let by_test : (pattern : List Sign) → Contains group pattern → Matches pattern text → (b : Bool) → are_apart pattern line ≡ b
    → GroupMatches (near line group) text = λ pattern in' its b is.
    (elim b as (λ b. are_apart pattern line ≡ b → GroupMatches (near line group) text) [
      | true ↦ λ apart. absurd (never_both pattern line text apart its matches)
      | false ↦ λ apart. (pattern, in_filter may group pattern in' (ap not apart), its)
    ]) is in (
      λ (pattern, in', its). by_test pattern in' its (are_apart pattern line) refl,
      λ (pattern, in', its). (pattern, of_filter may group pattern in', its),
    )

-- a group that does not tell texts of the line's pattern apart matches all of them or none
same_for_all : (line : List Sign) (group : List (List Sign)) (one other : List ℕ) → tells line group ≡ false → Matches line one → Matches line other
    → GroupMatches group one → GroupMatches group other
same_for_all line [] one other is of_one of_other (pattern, in', its) = absurd (none pattern in')
same_for_all line (first ∷ group) one other is of_one of_other matches =
    let (own, there, covered) = some_passes (λ own. covers own line) (first ∷ group) (turned (list_any (λ own. covers own line) (first ∷ group)) is) in
    (own, there, also_matches own line other covered of_other)
  where
    turned : (b : Bool) → not b ≡ false → b ≡ true
    turned true is = refl
    turned false is = absurd (let wrong : ⊥ = cc in wrong)

pub tells_enough : (line : List Sign) (groups : List (List (List Sign))) (one other : List ℕ) → Matches line one → Matches line other
    → AgreeOn (telling line groups) one other → AgreeOn groups one other
tells_enough line groups one other of_one of_other agree group in' =
    let near_one = near_matches line group one of_one in
    let near_other = near_matches line group other of_other in
    let own = near line group in
    let both : GroupMatches own one ↔ GroupMatches own other = by_test own (mapped (near line) group groups in') (tells line own) refl in
    (λ m. near_other.1 (both.0 (near_one.0 m)), λ m. near_one.1 (both.1 (near_other.0 m)))
  where
    by_test : (own : List (List Sign)) → Contains (map (near line) groups) own → (b : Bool) → tells line own ≡ b
        → GroupMatches own one ↔ GroupMatches own other
    by_test own among true is = agree own (in_filter (tells line) (map (near line) groups) own among is)
    by_test own among false is = (same_for_all line own one other is of_one of_other, same_for_all line own other one is of_other of_one)

-- the groups of two lists
pub telling_both : (line : List Sign) (ones others : List (List (List Sign))) → telling line (ones ++ others) ≡ telling line ones ++ telling line others
telling_both line ones others =
    ap (filter (tells line)) (map-append (near line) ones others) ∙ filter-append (tells line) (map (near line) ones) (map (near line) others)

pub apart_end : (one : List Sign) → are_apart one [] ≡ false
apart_end [] = refl
apart_end (x ∷ one) = refl
