-- In which case characters are shown.
use Rattle.std.proofs.Common.{◌≡◌, ◌≢◌, ◌↔◌, ◌⊎◌, inl, inr, ℕ, zero, suc, ◌<◌, ◌+◌, Bool, true, false, List, [], ◌∷◌, ◌++◌, length, map, drop, take, get_or, refl, sym, ap, ◌∙◌, subst, arith, append_assoc, Some, None}
use Rattle.std.specs.declared.cmp.Ordering.TheVariants.{Less}
use Rattle.std.specs.List.{Contains, range_with_len, slice_get}
use Rattle.std.specs.Option.{option_map, option_map_or}
use Rattle.std.proofs.lemmas.List.{drop-map, length-map, map-append}
use Rattle.std.proofs.lemmas.Map.Keys.{sorted_tail}
use Rattle.iam_glob.specs.Glob.{folded, sign_by}
use Rattle.iam_glob.specs.declared.sign.Sign.{Sign}
use Rattle.iam_glob.specs.declared.sign.Sign.TheVariants.{Given, One, Any}
use Rattle.iam_kinds.specs.Code.{first_stage, folded_pattern, rest_at, waits_for}
use Rattle.iam_kinds.specs.Kinds.{Question, folded_question}
use Rattle.iam_kinds.specs.Places.{IsRising, place_cmp}
use Rattle.iam_kinds.specs.Spelled.{IsCased, IsCasedAt, IsCasedBehind, IsFirstPlace}
use Rattle.iam_kinds.specs.States.{goal_of, group_count, machine_of, numbered_groups, numbered_within, pattern_of, with_number}
use Rattle.iam_kinds.specs.declared.table.Pattern.{Pattern}
use Rattle.iam_kinds.specs.declared.table.Place.{Place}
use Rattle.iam_kinds.proofs.Members.{in_of, of_in}
use Rattle.iam_kinds.proofs.PlaceLemmas.{get_or_any, place_total}
use Rattle.iam_kinds.proofs.SetLemmas.{before_all, not_both}

-- ---- the first place
pub first_rising : (P : Place → Type 0) (places : List Place) (i : ℕ) (k d : Place) → IsRising places → i < length places
    → get_or places i d ≡ k
    → ((j : Place) → Contains (take i places) j → ¬ P j) → (j : Place) → Contains places j → P j → (k ≡ j) ⊎ (place_cmp k j ≡ Less)
first_rising P [] i k d rising below here none j h p = absurd (omega (arith, below))
first_rising P (x ∷ places) zero k d rising below here none j h p = elim (in_of (x ∷ places) j h) [
  | inl e ↦ inl (sym here ∙ e)
  | inr l ↦ inr (ap (λ y. place_cmp y j) (sym here) ∙ before_all place_cmp x places rising j l)
]
first_rising P (x ∷ places) (suc i) k d rising below here none j h p = elim (in_of (x ∷ places) j h) [
  | inl e ↦ absurd (none j (of_in (x ∷ take i places) j (inl e)) p)
  | inr l ↦
      first_rising P places i k d (sorted_tail place_cmp x places rising) (omega (arith, below)) here
      (λ y m. none y (of_in (x ∷ take i places) y (inr (in_of (take i places) y m)))) j (of_in places j l) p
]

pub first_place : (patterns : List Pattern) (places : List Place) (i letter : ℕ) (d : Place) → IsRising places → i < length places
    → waits_for (rest_at patterns (get_or places i d)) ≡ Some letter
    → ((j : Place) → Contains (take i places) j → waits_for (rest_at patterns j) ≢ Some letter)
    → IsFirstPlace (Contains places) patterns letter (get_or places i d)
first_place patterns places i letter d rising below waits none = (
  (i, below, get_or_any places i (get_or places i d) d below),
  waits,
  first_rising (λ j. waits_for (rest_at patterns j) ≡ Some letter) places i (get_or places i d) d rising below refl none,
)

-- ---- what is waited for, folded
pub signs_folded : (signs : List Sign) → waits_for (map (sign_by folded) signs) ≡ option_map folded (waits_for signs)
signs_folded [] = refl
signs_folded (Given c ∷ signs) = refl
signs_folded (One ∷ signs) = refl
signs_folded (Any ∷ signs) = signs_folded signs

pub rest_folded : (own : List Pattern) (k : Place) → rest_at (map folded_pattern own) k ≡ map (sign_by folded) (rest_at own k)
rest_folded own k = by_number own k.pattern k.at
  where
    by_number : (own : List Pattern) (p at : ℕ)
        → option_map_or (λ (q : Pattern). drop at q.signs) (slice_get (map folded_pattern own) p) []
        ≡ map (sign_by folded) (option_map_or (λ (q : Pattern). drop at q.signs) (slice_get own p) [])
    by_number [] p at = refl
    by_number (q ∷ own) zero at = drop-map (sign_by folded) at q.signs
    by_number (q ∷ own) (suc p) at = by_number own p at

pub waits_folded : (own : List Pattern) (k : Place)
    → waits_for (rest_at (map folded_pattern own) k) ≡ option_map folded (waits_for (rest_at own k))
waits_folded own k = ap waits_for (rest_folded own k) ∙ signs_folded (rest_at own k)

-- ---- a letter in its case
pub case_own : (table own : List Pattern) (is_place : Place → Type 0) (k : Place) (letter c : ℕ) → table ≡ map folded_pattern own
    → IsFirstPlace is_place table letter k → waits_for (rest_at own k) ≡ Some c → (folded c ≡ letter) × IsCasedAt is_place table own c
case_own table own is_place k letter c same first waits =
    let there : waits_for (rest_at table k) ≡ Some (folded c) =
    ap (λ t. waits_for (rest_at t k)) same ∙ waits_folded own k ∙ ap (option_map folded) waits in
    let both : Some (folded c) ≡ Some letter = sym there ∙ first.1 in
    let e : folded c ≡ letter = cc in
    (e, inl (k, subst (λ d. IsFirstPlace is_place table d k) (sym e) first, waits))

pub case_never : (table own : List Pattern) (is_place : Place → Type 0) (k : Place) (letter : ℕ) → table ≡ map folded_pattern own
    → IsFirstPlace is_place table letter k → waits_for (rest_at own k) ≡ None → ⊥
case_never table own is_place k letter same first none =
    let there : waits_for (rest_at table k) ≡ None = ap (λ t. waits_for (rest_at t k)) same ∙ waits_folded own k
    ∙ ap (option_map folded) none in
    let wrong : None ≡ Some letter = sym there ∙ first.1 in cc

pub case_none : (table own : List Pattern) (is_place : Place → Type 0) (letter : ℕ) → folded letter ≡ letter
    → ((k : Place) → is_place k → waits_for (rest_at table k) ≢ Some letter) → IsCasedAt is_place table own letter
case_none table own is_place letter folds none = inr (λ k h e. none k h (e ∙ ap Some folds), folds)

pub case_same : (one other : Place → Type 0) (table own : List Pattern) (c : ℕ) → ((k : Place) → one k ↔ other k)
    → IsCasedAt one table own c → IsCasedAt other table own c
case_same one other table own c same (inl (k, (h, waits, first), is)) =
    inl (k, ((same k).0 h, waits, λ j o w. first j ((same j).1 o) w), is)
case_same one other table own c same (inr (none, folds)) = inr (λ k o. none k ((same k).1 o), folds)

pub one_case : (is_place : Place → Type 0) (table own : List Pattern) (c d : ℕ) → folded c ≡ folded d → IsCasedAt is_place table own c
    → IsCasedAt is_place table own d → c ≡ d
one_case is_place table own c d same (inl (k, (h, waits, first), is)) (inl (j, (h', waits', first'), is')) =
    let there : waits_for (rest_at table j) ≡ Some (folded c) = waits' ∙ ap Some (sym same) in
    let here : waits_for (rest_at table k) ≡ Some (folded d) = waits ∙ ap Some same in
    let e : k ≡ j = elim (first j h' there) [
      | inl e ↦ e
      | inr less ↦ elim (first' k h here) [
        | inl e ↦ sym e
        | inr more ↦ absurd (not_both place_total k j less more)
      ]
    ] in
    let both : Some c ≡ Some d = sym is ∙ ap (λ (x : Place). waits_for (rest_at own x)) e ∙ is' in cc
one_case is_place table own c d same (inl (k, (h, waits, first), is)) (inr (none, folds)) = absurd (none k h (waits ∙ ap Some same))
one_case is_place table own c d same (inr (none, folds)) (inl (k, (h, waits, first), is)) = absurd (none k h (waits ∙ ap Some (sym same)))
one_case is_place table own c d same (inr (none, folds)) (inr (none', folds')) = sym folds ∙ same ∙ folds'

-- ---- texts
pub case_behind : (fold : Bool) (question : Question) (before : List ℕ) (c d : ℕ) → folded c ≡ folded d
    → IsCasedBehind fold question before c
    → IsCasedBehind fold question before d → c ≡ d
case_behind true question before c d same one other = sym one ∙ same ∙ other
case_behind false question before c d same one other =
    one_case _ (machine_of (folded_question question)).patterns (machine_of question).patterns c d same one other

pub one_cased : (question : Question) (front a b : List ℕ) → IsCased question (front ++ a) → IsCased question (front ++ b)
    → map folded a ≡ map folded b → a ≡ b
one_cased question front [] [] one other same = refl
one_cased question front [] (d ∷ b) one other same = absurd (let wrong : ⊥ = cc in wrong)
one_cased question front (c ∷ a) [] one other same = absurd (let wrong : ⊥ = cc in wrong)
one_cased question front (c ∷ a) (d ∷ b) one other same =
    let first : folded c ≡ folded d = cc in
    let rest : map folded a ≡ map folded b = cc in
    let e : c ≡ d =
    case_behind (first_stage question.grammar).fold question (map folded front) c d first (one front a c refl) (other front b d refl) in
    let on : IsCased question ((front ++ (c ∷ [])) ++ a) = subst (IsCased question) (sym (append_assoc front (c ∷ []) a)) one in
    let over : IsCased question ((front ++ (c ∷ [])) ++ b) =
    subst (IsCased question) (sym (append_assoc front (c ∷ []) b)) (subst (λ x. IsCased question (front ++ (x ∷ b))) (sym e) other) in
    ap (λ x. x ∷ a) e ∙ ap (λ l. d ∷ l) (one_cased question (front ++ (c ∷ [])) a b on over rest)

-- ---- the patterns of a folded question
pub within_folded : (g : ℕ) (within : List (List Sign))
    → map folded_pattern (map pattern_of (numbered_within g within)) ≡ map pattern_of (numbered_within g (map (map (sign_by folded)) within))
within_folded g [] = refl
within_folded g (p ∷ within) = ap (λ l. pattern_of (g, map (sign_by folded) p) ∷ l) (within_folded (g + 1) within)

pub group_folded : (g : ℕ) (group : List (List Sign))
    → map folded_pattern (map pattern_of (with_number g group)) ≡ map pattern_of (with_number g (map (map (sign_by folded)) group))
group_folded g [] = refl
group_folded g (p ∷ group) = ap (λ l. pattern_of (g, map (sign_by folded) p) ∷ l) (group_folded g group)

pub groups_folded : (g : ℕ) (groups : List (List (List Sign)))
    → map folded_pattern (map pattern_of (numbered_groups g groups)) ≡ map pattern_of (numbered_groups g (map (map (map (sign_by folded))) groups))
groups_folded g [] = refl
groups_folded g (group ∷ groups) =
    ap (map folded_pattern) (map-append pattern_of (with_number g group) (numbered_groups (g + 1) groups))
    ∙ map-append folded_pattern (map pattern_of (with_number g group)) (map pattern_of (numbered_groups (g + 1) groups))
    ∙ ap (λ l. l ++ map folded_pattern (map pattern_of (numbered_groups (g + 1) groups))) (group_folded g group)
    ∙ ap (λ l. map pattern_of (with_number g (map (map (sign_by folded)) group)) ++ l) (groups_folded (g + 1) groups)
    ∙ sym (map-append pattern_of (with_number g (map (map (sign_by folded)) group))
    (numbered_groups (g + 1) (map (map (map (sign_by folded))) groups)))

pub goals_folded : (first n : ℕ) → map folded_pattern (map goal_of (range_with_len first n)) ≡ map goal_of (range_with_len first n)
goals_folded first zero = refl
goals_folded first (suc n) = ap (λ l. goal_of first ∷ l) (goals_folded (first + 1) n)

pub patterns_folded : (question : Question)
    → (machine_of (folded_question question)).patterns ≡ map folded_pattern (machine_of question).patterns
patterns_folded question =
    let w = length question.within in
    let fw = map (map (sign_by folded)) question.within in
    let fg = map (map (map (sign_by folded))) question.groups in
    let same_w : length fw ≡ w = length-map question.within (map (sign_by folded)) in
    let same_g : length fg ≡ length question.groups = length-map question.groups (map (map (sign_by folded))) in
    let count : group_count (folded_question question) ≡ group_count question =
    ap (λ n. n + length fg) same_w ∙ ap (λ n. w + n) same_g in
    let goals = map goal_of (range_with_len 0 (group_count question)) in
    let first = numbered_within 0 question.within in
    let second = numbered_groups w question.groups in
    let listed : map folded_pattern (map pattern_of (first ++ second)) ≡ map pattern_of (numbered_within 0 fw ++ numbered_groups w fg) =
    ap (map folded_pattern) (map-append pattern_of first second)
    ∙ map-append folded_pattern (map pattern_of first) (map pattern_of second)
    ∙ ap (λ l. l ++ map folded_pattern (map pattern_of second)) (within_folded 0 question.within)
    ∙ ap (λ l. map pattern_of (numbered_within 0 fw) ++ l) (groups_folded w question.groups)
    ∙ sym (map-append pattern_of (numbered_within 0 fw) (numbered_groups w fg)) in
    ap (λ n. map goal_of (range_with_len 0 n) ++ map pattern_of (numbered_within 0 fw ++ numbered_groups (length fw) fg)) count
    ∙ ap (λ n. goals ++ map pattern_of (numbered_within 0 fw ++ numbered_groups n fg)) same_w
    ∙ ap (λ l. goals ++ l) (sym listed)
    ∙ ap (λ l. l ++ map folded_pattern (map pattern_of (first ++ second))) (sym (goals_folded 0 (group_count question)))
    ∙ sym (map-append folded_pattern goals (map pattern_of (first ++ second)))
