-- From patterns with the numbers of their groups to the groups themselves.
use Rattle.std.proofs.Common.{◌≡◌, ◌↔◌, ◌⊎◌, inl, inr, ℕ, zero, suc, ◌<◌, ◌+◌, List, [], ◌∷◌, ◌++◌, length, drop, get_or, map, refl, sym, ap, ◌∙◌, subst, arith, Some, length-append}
use Rattle.std.specs.List.{Contains, range_with_len, slice_get}
use Rattle.std.specs.Option.{option_map_or}
use Rattle.std.proofs.lemmas.List.Elements.{Contains-get_or}
use Rattle.iam_glob.specs.Glob.{Matches}
use Rattle.iam_glob.specs.declared.sign.Sign.{Sign}
use Rattle.iam_glob.specs.declared.sign.Sign.TheVariants.{Any}
use Rattle.iam_kinds.specs.Answers.{pairs_of}
use Rattle.iam_kinds.specs.States.{GoesOn, HasManyKinds, HasManyStates, Machine, PassesLimit, goal_of, group_count, machine_of, numbered_groups, numbered_within, pattern_of, with_number}
use Rattle.iam_kinds.specs.Code.{AreGoals, HasGoal, IsTable, group_at}
use Rattle.iam_kinds.specs.Kinds.{Agree, GroupMatches, IsIn, IsMeant, Question}
use Rattle.iam_kinds.specs.Shown.{AreKinds}
use Rattle.iam_kinds.specs.Spelled.{IsSpelledBy}
use Rattle.iam_kinds.specs.Walk.{Alike, AreLeast, AreTexts, Has, HasManyTexts, IsCounted, IsNotAfter, IsReady, IsSought, Query}
use Rattle.iam_kinds.specs.declared.asked.Asked.{Asked}
use Rattle.iam_kinds.specs.declared.grammar.Grammar.{Grammar}
use Rattle.iam_kinds.specs.declared.table.Pattern.{Pattern}
use Rattle.iam_kinds.proofs.FewerLemmas.{apart_by, only_one, pairs_weaker}
use Rattle.iam_kinds.proofs.GoLemmas.{slice_at, slice_below, slice_in, slice_more}
use Rattle.iam_kinds.proofs.Members.{In, from_map, in_append, in_left, in_map, in_of, in_right, of_in}
use Rattle.iam_kinds.proofs.NodeLemmas.{element}
use Rattle.iam_kinds.proofs.OrderLemmas.{not_before}

-- ---- the table
abbrev pub AreBelow : ℕ → List Pattern → Type 0
AreBelow count patterns = (p : Pattern) → In p patterns → p.group < count

pub is_table : (count : ℕ) (goals patterns : List Pattern) → AreGoals count goals → AreBelow count patterns → IsTable (goals ++ patterns)
is_table count goals patterns are below = λ k within.
    let p = element (goals ++ patterns) k.pattern within in
    let own : group_at (goals ++ patterns) k ≡ p.0.group = ap (λ o. option_map_or (λ (q : Pattern). q.group) o 0) p.1 in
    let small : p.0.group < count = elim (in_append goals patterns p.0 (in_of _ p.0 (slice_in (goals ++ patterns) k.pattern p.0 p.1))) [
      | inl h ↦
          let c = of_in goals p.0 h in
          let g : p.0.group ≡ c.0 = ap (λ (q : Pattern). q.group) (sym c.2) ∙ (are.goal c.0 p.0 c.1).0 in
          let b : c.0 < length goals = c.1 in omega (arith, are.many)
      | inr h ↦ below p.0 h
    ] in
    subst (HasGoal (goals ++ patterns)) (sym own) (goal_of count goals patterns are p.0.group small)
  where
    goal_of : (count : ℕ) (goals patterns : List Pattern) → AreGoals count goals → (g : ℕ) → g < count → HasGoal (goals ++ patterns) g
    goal_of count goals patterns are g small =
        let within : g < length goals = omega (arith, are.many) in
        let p = element goals g within in
        let at : slice_get (goals ++ patterns) g ≡ Some p.0 = slice_more goals patterns g within ∙ p.1 in
        let here : get_or goals g p.0 ≡ p.0 = slice_at goals g p.0 p.0 p.1 in
        let facts = are.goal g p.0 within in record {
          within = omega (arith, length-append goals patterns);
          own = ap (λ o. option_map_or (λ (q : Pattern). q.group) o 0) at ∙ ap (λ (q : Pattern). q.group) (sym here) ∙ facts.0;
          good = ap (λ o. option_map_or (λ (q : Pattern). q.signs) o []) at ∙ ap (λ (q : Pattern). q.signs) (sym here) ∙ facts.1;
        }

pub behind_goals : (goals patterns : List Pattern) → drop (length goals) (goals ++ patterns) ≡ patterns
behind_goals [] patterns = refl
behind_goals (g ∷ goals) patterns = behind_goals goals patterns

-- ---- numbers
pub from_within : (first : ℕ) (within : List (List Sign)) (g : ℕ) (p : List Sign) → In (g, p) (numbered_within first within)
    → (i : ℕ) × (g ≡ first + i) × (slice_get within i ≡ Some p)
from_within first [] g p h = absurd h
from_within first (q ∷ within) g p (inl e) = (0, (let s : first ≡ g = ap (λ (x : ℕ × List Sign). x.0) e in omega arith), ap (λ (x : ℕ × List Sign). Some x.1) e)
from_within first (q ∷ within) g p (inr h) =
    let r = from_within (first + 1) within g p h in (suc r.0, (let s : g ≡ first + 1 + r.0 = r.1 in omega arith), r.2)

pub in_within : (first : ℕ) (within : List (List Sign)) (i : ℕ) (p : List Sign) → slice_get within i ≡ Some p
    → In (first + i, p) (numbered_within first within)
in_within first [] i p e = absurd (let wrong : ⊥ = cc in wrong)
in_within first (q ∷ within) zero p e =
    let n : first ≡ first + 0 = omega arith in let s : q ≡ p = cc in inl (ap (λ k. (k, q)) n ∙ ap (λ r. (first + 0, r)) s)
in_within first (q ∷ within) (suc i) p e =
    let n : first + 1 + i ≡ first + suc i = omega arith in
    inr (subst (λ k. In (k, p) (numbered_within (first + 1) within)) n (in_within (first + 1) within i p e))

pub from_groups : (first : ℕ) (groups : List (List (List Sign))) (g : ℕ) (p : List Sign) → In (g, p) (numbered_groups first groups)
    → (i : ℕ) × (group : List (List Sign)) × (g ≡ first + i) × (slice_get groups i ≡ Some group) × In p group
from_groups first [] g p h = absurd h
from_groups first (group ∷ groups) g p h = elim (in_append (with_number first group) (numbered_groups (first + 1) groups) (g, p) h) [
  | inl here ↦
      let r = from_map (λ q. (first, q)) group (g, p) here in
      let s : first ≡ g = ap (λ (x : ℕ × List Sign). x.0) r.2 in
      (0, group, omega arith, refl, subst (λ q. In q group) (ap (λ (x : ℕ × List Sign). x.1) r.2) r.1)
  | inr later ↦
      let r = from_groups (first + 1) groups g p later in (suc r.0, r.1, (let s : g ≡ first + 1 + r.0 = r.2 in omega arith), r.3, r.4)
]

pub in_groups : (first : ℕ) (groups : List (List (List Sign))) (i : ℕ) (group : List (List Sign)) (p : List Sign)
    → slice_get groups i ≡ Some group → In p group
    → In (first + i, p) (numbered_groups first groups)
in_groups first [] i group p e h = absurd (let wrong : ⊥ = cc in wrong)
in_groups first (q ∷ groups) zero group p e h =
    let n : first ≡ first + 0 = omega arith in
    let s : group ≡ q = cc in
    in_left (with_number first q) (numbered_groups (first + 1) groups) (first + 0, p)
    (subst (λ k. In (k, p) (with_number first q)) n (in_map (λ r. (first, r)) q p (subst (λ l. In p l) s h)))
in_groups first (q ∷ groups) (suc i) group p e h =
    let n : first + 1 + i ≡ first + suc i = omega arith in
    in_right (with_number first q) (numbered_groups (first + 1) groups) (first + suc i, p)
    (subst (λ k. In (k, p) (numbered_groups (first + 1) groups)) n (in_groups (first + 1) groups i group p e h))

-- the patterns of a query are those of a question
pub record IsQuestion (question : Question) (query : Query) : Type 0 where
  pub grammar : query.grammar ≡ question.grammar
  pub named : query.named ≡ question.named
  pub within : query.within ≡ length question.within
  pub patterns : pairs_of query.patterns ≡ numbered_within 0 question.within ++ numbered_groups (length question.within) question.groups

pub has_pair : (query : Query) (g : ℕ) (text : List ℕ)
    → Has query g text ↔ ((p : List Sign) × In (g, p) (pairs_of query.patterns) × Matches p text)
has_pair query g text = (
  λ (p, h, own, m).
      (p.signs, subst (λ n. In (n, p.signs) (pairs_of query.patterns)) own (in_map (λ (q : Pattern). (q.group, q.signs)) query.patterns p (in_of _ p h)), m),
  λ (p, h, m).
      let r = from_map (λ (q : Pattern). (q.group, q.signs)) query.patterns (g, p) h in
      (r.0, of_in _ r.0 r.1, ap (λ (x : ℕ × List Sign). x.0) r.2, subst (λ (s : List Sign). Matches s text) (sym (ap (λ (x : ℕ × List Sign). x.1) r.2)) m),
)

-- a number is that of a pattern that has to match, or of a group
pub has_cases : (question : Question) (query : Query) → IsQuestion question query → (g : ℕ) (text : List ℕ) → Has query g text
    → ((p : List Sign) × (slice_get question.within g ≡ Some p) × Matches p text)
    ⊎ ((i : ℕ) × (group : List (List Sign)) × (g ≡ length question.within + i) × (slice_get question.groups i ≡ Some group) × GroupMatches group text)
has_cases question query is g text h =
    let r = (has_pair query g text).0 h in
    let listed = subst (In (g, r.0)) is.patterns r.1 in
    elim (in_append (numbered_within 0 question.within) (numbered_groups (length question.within) question.groups) (g, r.0) listed) [
      | inl w ↦
          let s = from_within 0 question.within g r.0 w in
          let e : s.0 ≡ g = (let n : g ≡ 0 + s.0 = s.1 in omega arith) in
          inl (r.0, subst (λ i. slice_get question.within i ≡ Some r.0) e s.2, r.2)
      | inr l ↦
          let s = from_groups (length question.within) question.groups g r.0 l in
          inr (s.0, s.1, s.2, s.3, (r.0, of_in s.1 r.0 s.4, r.2))
    ]

pub within_has : (question : Question) (query : Query) → IsQuestion question query → (g : ℕ) (p : List Sign) (text : List ℕ)
    → slice_get question.within g ≡ Some p → Matches p text → Has query g text
within_has question query is g p text e m =
    let n : 0 + g ≡ g = omega arith in
    let here = subst (λ k. In (k, p) (numbered_within 0 question.within)) n (in_within 0 question.within g p e) in
    (has_pair query g text).1 (p, subst (In (g, p)) (sym is.patterns) (in_left (numbered_within 0 question.within) _ (g, p) here), m)

pub group_has : (question : Question) (query : Query) → IsQuestion question query → (i : ℕ) (group : List (List Sign)) (text : List ℕ)
    → slice_get question.groups i ≡ Some group → GroupMatches group text → Has query (length question.within + i) text
group_has question query is i group text e (p, h, m) =
    let here = in_groups (length question.within) question.groups i group p e (in_of group p h) in
    (has_pair query (length question.within + i) text).1
    (p, subst (In (length question.within + i, p)) (sym is.patterns) (in_right (numbered_within 0 question.within) _ (length question.within + i, p) here), m)

pub at_slice : {A : Type 0} (xs : List A) (x : A) → Contains xs x → (i : ℕ) × (slice_get xs i ≡ Some x)
at_slice xs x (k, below, e) =
    let r = element xs k below in (k, r.1 ∙ ap Some (sym (slice_at xs k r.0 x r.1) ∙ e))

pub meant : (question : Question) (query : Query) → IsQuestion question query → (text : List ℕ) → IsSought query text
    → IsMeant question text
meant question query is text s = record {
  grammar = subst (λ g. IsIn g text) is.grammar s.fits.grammar;
  within = λ p h.
      let i = at_slice question.within p h in
      let below : i.0 < query.within = (let b = slice_below question.within i.0 p i.1 in omega (arith, b, is.within)) in
      elim (has_cases question query is i.0 text (s.fits.within i.0 below)) [
        | inl r ↦ subst (λ (q : List Sign). Matches q text) (let both : Some r.0 ≡ Some p = sym r.1 ∙ i.1 in let same : r.0 ≡ p = cc in same) r.2
        | inr r ↦ absurd (let n : i.0 ≡ length question.within + r.0 = r.2 in let b = slice_below question.within i.0 p i.1 in omega (arith, b))
      ];
  unnamed = λ h. s.unnamed (subst (λ (l : List (List ℕ)). Contains l text) (sym is.named) h);
}

pub sought : (question : Question) (query : Query) → IsQuestion question query → (text : List ℕ) → IsMeant question text
    → IsSought query text
sought question query is text m = record {
  fits = record {
    grammar = subst (λ g. IsIn g text) (sym is.grammar) m.grammar;
    within = λ g below.
        let p = element question.within g (omega (arith, is.within)) in
        within_has question query is g p.0 text p.1 (m.within p.0 (slice_in question.within g p.0 p.1));
  };
  unnamed = λ h. m.unnamed (subst (λ (l : List (List ℕ)). Contains l text) is.named h);
}

pub agree : (question : Question) (query : Query) → IsQuestion question query → (one other : List ℕ) → Alike query one other
    → Agree question one other
agree question query is one other alike = λ group h.
    let i = at_slice question.groups group h in (
      λ m. matched question query is i.0 group other i.1 ((alike (length question.within + i.0)).0 (group_has question query is i.0 group one i.1 m)),
      λ m. matched question query is i.0 group one i.1 ((alike (length question.within + i.0)).1 (group_has question query is i.0 group other i.1 m)),
    )
  where
    matched : (question : Question) (query : Query) → IsQuestion question query → (i : ℕ) (group : List (List Sign)) (text : List ℕ)
        → slice_get question.groups i ≡ Some group → Has query (length question.within + i) text → GroupMatches group text
    matched question query is i group text e h = elim (has_cases question query is (length question.within + i) text h) [
      | inl r ↦ absurd (let b = slice_below question.within (length question.within + i) r.0 r.1 in omega (arith, b))
      | inr r ↦
          let n : i ≡ r.0 = (let s : length question.within + i ≡ length question.within + r.0 = r.2 in omega arith) in
          let both : Some r.1 ≡ Some group = sym r.3 ∙ ap (slice_get question.groups) (sym n) ∙ e in
          subst (λ (l : List (List Sign)). GroupMatches l text) (let same : r.1 ≡ group = cc in same) r.4
    ]

pub alike : (question : Question) (query : Query) → IsQuestion question query → (one other : List ℕ) → IsMeant question one
    → IsMeant question other
    → Agree question one other → Alike query one other
alike question query is one other m n agrees = λ g. (
  λ h. over question query is one other n agrees g h,
  λ h. over question query is other one m (λ group k. ((agrees group k).1, (agrees group k).0)) g h,
)
  where
    over : (question : Question) (query : Query) → IsQuestion question query → (one other : List ℕ) → IsMeant question other
        → Agree question one other
        → (g : ℕ) → Has query g one → Has query g other
    over question query is one other n agrees g h = elim (has_cases question query is g one h) [
      | inl r ↦ within_has question query is g r.0 other r.1 (n.within r.0 (slice_in question.within g r.0 r.1))
      | inr r ↦
          subst (λ k. Has query k other) (sym r.2)
          (group_has question query is r.0 r.1 other r.3 ((agrees r.1 (slice_in question.groups r.0 r.1 r.3)).0 r.4))
    ]

-- of the texts the one that is like another is the one that is there for it
pub like_one : (question : Question) (query : Query) (texts : List (List ℕ)) → IsQuestion question query → AreTexts query texts
    → (shown other text : List ℕ) → Contains texts shown → Contains texts other → Alike query other text → IsMeant question text
    → Agree question shown text
    → shown ≡ other
like_one question query texts is are shown other text h k like m agrees =
    let same = alike question query is shown text (meant question query is shown (are.sought shown h)) m agrees in
    only_one (Alike query) texts shown other (λ a b s. (λ g. ((s g).1, (s g).0))) (apart_by (λ a b. ¬ Alike query a b) texts are.apart)
    (in_of texts shown h) (in_of texts other k) (λ g. (λ l. (like g).1 ((same g).0 l), λ l. (same g).1 ((like g).0 l)))

pub are_kinds : (question : Question) (query : Query) (machine : Machine) (texts : List (List ℕ)) → IsQuestion question query
    → machine ≡ machine_of question
    → AreTexts query texts → AreLeast machine query texts → AreKinds question texts
are_kinds question query machine texts is same are least =
    let spelled : (text : List ℕ) → IsSpelledBy machine query.named text → IsSpelledBy (machine_of question) question.named text =
    λ text s. subst (λ (m : Machine). IsSpelledBy m question.named text) same
    (subst (λ (n : List (List ℕ)). IsSpelledBy machine n text) is.named s) in
    let back : (text : List ℕ) → IsSpelledBy (machine_of question) question.named text → IsSpelledBy machine query.named text =
    λ text s.
    subst (λ (m : Machine). IsSpelledBy m query.named text) (sym same)
    (subst (λ (n : List (List ℕ)). IsSpelledBy (machine_of question) n text) (sym is.named) s) in record {
      characters = λ text h. (least.spelled text h).0;
      meant = λ text h. meant question query is text (are.sought text h);
      whole = λ text scalars m.
          let r = are.whole text scalars (sought question query is text m) in (r.0, r.1, agree question query is r.0 text r.2);
      apart = λ i j d less below agrees.
          let first = Contains-get_or texts i d (omega (arith, less, below)) in
          let second = Contains-get_or texts j d below in
          are.apart i j d less below
          (alike question query is _ _ (meant question query is _ (are.sought _ first))
          (meant question query is _ (are.sought _ second)) agrees);
      shortest = λ shown text h scalars m agrees.
          let r = are.whole text scalars (sought question query is text m) in
          let one = like_one question query texts is are shown r.0 text h r.1 r.2 m agrees in
          omega (arith, ap length one, r.3);
      order = are.order;
      spelled = λ text h. spelled text (least.spelled text h).1;
      least = λ shown text h scalars m spells agrees.
          let r = least.least text (sought question query is text m) (back text spells) in
          let one = like_one question query texts is are shown r.0 text h r.1 r.2 m agrees in
          not_before shown text (subst (λ (t : List ℕ). IsNotAfter t text) (sym one) r.3);
    }

-- ---- what is asked
pub below_pairs : (within : List (List Sign)) (groups : List (List (List Sign))) (patterns : List Pattern) (count : ℕ)
    → pairs_of patterns ≡ numbered_within 0 within ++ numbered_groups (length within) groups → count ≡ length within + length groups
    → AreBelow count patterns
below_pairs within groups patterns count pairs many = λ p h.
    let listed = subst (In (p.group, p.signs)) pairs (in_map (λ (q : Pattern). (q.group, q.signs)) patterns p h) in
    elim (in_append (numbered_within 0 within) (numbered_groups (length within) groups) (p.group, p.signs) listed) [
      | inl w ↦
          let s = from_within 0 within p.group p.signs w in
          let n : p.group ≡ 0 + s.0 = s.1 in
          let b = slice_below within s.0 p.signs s.2 in omega (arith, n, b, many)
      | inr l ↦
          let s = from_groups (length within) groups p.group p.signs l in
          let n : p.group ≡ length within + s.0 = s.2 in
          let b = slice_below groups s.0 s.1 s.3 in omega (arith, n, b, many)
    ]

-- the patterns behind those where groups stand
pub queried : (table goals patterns : List Pattern) (count : ℕ) → table ≡ goals ++ patterns → AreGoals count goals
    → drop count table ≡ patterns
queried table goals patterns count is are =
    ap (drop count) is ∙ ap (λ n. drop n (goals ++ patterns)) (sym are.many) ∙ behind_goals goals patterns

pub is_ready : (asked : Asked) (goals patterns : List Pattern) (within : List (List Sign)) (groups : List (List (List Sign)))
    → asked.table.now.patterns.items ≡ goals ++ patterns → AreGoals asked.count goals
    → pairs_of patterns ≡ numbered_within 0 within ++ numbered_groups (length within) groups → asked.count ≡ length within + length groups
    → asked.within ≡ length within → IsReady asked
is_ready asked goals patterns within groups table are pairs many first = record {
  table = subst IsTable (sym table) (is_table asked.count goals patterns are (below_pairs within groups patterns asked.count pairs many));
  count = omega (arith, ap length table, length-append goals patterns, are.many);
  within = λ g below.
      let e = element within g (omega (arith, below, first)) in
      let n : 0 + g ≡ g = omega arith in
      let here = subst (λ k. In (k, e.0) (numbered_within 0 within)) n (in_within 0 within g e.0 e.1) in
      let listed = subst (In (g, e.0)) (sym pairs) (in_left (numbered_within 0 within) (numbered_groups (length within) groups) (g, e.0) here) in
      let r = from_map (λ (q : Pattern). (q.group, q.signs)) patterns (g, e.0) listed in
      let behind = queried asked.table.now.patterns.items goals patterns asked.count table are in
      (r.0, subst (λ (l : List Pattern). Contains l r.0) (sym behind) (of_in patterns r.0 r.1), ap (λ (x : ℕ × List Sign). x.0) r.2);
}

pub is_question : (question : Question) (table goals patterns : List Pattern) (count within : ℕ) (grammar : Grammar) (named : List (List ℕ))
    → table ≡ goals ++ patterns → AreGoals count goals
    → pairs_of patterns ≡ numbered_within 0 question.within ++ numbered_groups (length question.within) question.groups
    → within ≡ length question.within → grammar ≡ question.grammar → named ≡ question.named
    → IsQuestion question (record { patterns = drop count table; within = within; grammar = grammar; named = named })
is_question question table goals patterns count within grammar named is are pairs many same all =
    let behind = queried table goals patterns count is are in record {
      grammar = same;
      named = all;
      within = many;
      patterns = ap pairs_of behind ∙ pairs;
    }

pub both_added : (first second third : List Pattern) (within : List (List Sign)) (groups : List (List (List Sign))) (count : ℕ) → first ≡ []
    → pairs_of second ≡ pairs_of first ++ numbered_within 0 within → pairs_of third ≡ pairs_of second ++ numbered_groups count groups
    → count ≡ length within
    → pairs_of third ≡ numbered_within 0 within ++ numbered_groups (length within) groups
both_added first second third within groups count none one two many =
    two ∙ ap (λ l. l ++ numbered_groups count groups) (one ∙ ap (λ (l : List Pattern). pairs_of l ++ numbered_within 0 within) none)
    ∙ ap (λ n. numbered_within 0 within ++ numbered_groups n groups) many

-- ---- what is counted
-- the patterns where groups stand
pub goals_listed : (first : ℕ) (goals : List Pattern)
    → ((k : ℕ) (d : Pattern) → k < length goals → ((get_or goals k d).group ≡ first + k) × ((get_or goals k d).signs ≡ Any ∷ []))
    → goals ≡ map goal_of (range_with_len first (length goals))
goals_listed first [] are = refl
goals_listed first (g ∷ goals) are =
    let r = are 0 g (omega arith) in
    let zero_more : first + 0 ≡ first = omega arith in
    let here : g ≡ goal_of first = ap (λ n. pattern_of (n, g.signs)) (r.0 ∙ zero_more) ∙ ap (λ l. pattern_of (first, l)) r.1 in
    let rest = goals_listed (first + 1) goals (λ k d below.
    let s = are (suc k) d (omega (arith, below)) in
    let n : first + suc k ≡ first + 1 + k = omega arith in (s.0 ∙ n, s.1)) in
    ap (λ x. x ∷ goals) here ∙ ap (λ l. goal_of first ∷ l) rest

pub paired : (patterns : List Pattern) → patterns ≡ map pattern_of (pairs_of patterns)
paired [] = refl
paired (p ∷ patterns) = ap (λ l. p ∷ l) (paired patterns)

abbrev pub machine_with : Grammar → List Pattern → ℕ → Machine
machine_with grammar patterns count = record { grammar = grammar; patterns = patterns; count = count }

pub is_machine : (question : Question) (table goals patterns : List Pattern) (count : ℕ) (grammar : Grammar) → table ≡ goals ++ patterns
    → AreGoals count goals
    → pairs_of patterns ≡ numbered_within 0 question.within ++ numbered_groups (length question.within) question.groups
    → count ≡ group_count question → grammar ≡ question.grammar
    → machine_with grammar table count ≡ machine_of question
is_machine question table goals patterns count grammar is are pairs many same =
    let listed = numbered_within 0 question.within ++ numbered_groups (length question.within) question.groups in
    let first : goals ≡ map goal_of (range_with_len 0 (group_count question)) =
    goals_listed 0 goals (λ k d below. let r = are.goal k d below in let n : k ≡ 0 + k = omega arith in (r.0 ∙ n, r.1))
    ∙ ap (λ n. map goal_of (range_with_len 0 n)) (are.many ∙ many) in
    let second : patterns ≡ map pattern_of listed = paired patterns ∙ ap (map pattern_of) pairs in
    let all : table ≡ map goal_of (range_with_len 0 (group_count question)) ++ map pattern_of listed =
    is ∙ ap (λ l. l ++ patterns) first ∙ ap (λ l. map goal_of (range_with_len 0 (group_count question)) ++ l) second in
    machine_at_once grammar question.grammar table _ count (group_count question) same all many
  where
    machine_at_once : (grammar other : Grammar) (patterns others : List Pattern) (count many : ℕ) → grammar ≡ other → patterns ≡ others
        → count ≡ many
        → machine_with grammar patterns count ≡ machine_with other others many
    machine_at_once grammar other patterns others count many g p c =
        ap (λ x. machine_with x patterns count) g ∙ ap (λ x. machine_with other x count) p ∙ ap (λ x. machine_with other others x) c

-- a text is gone on with
pub goes_on : (question : Question) (query : Query) → IsQuestion question query → (text : List ℕ) → IsCounted query text
    → GoesOn question text
goes_on question query is text (characters, live, free) = record {
  characters = characters;
  grammar = (let (rest, h) = live.grammar in (rest, subst (λ g. IsIn g (text ++ rest)) is.grammar h));
  within = λ p h.
      let i = at_slice question.within p h in
      let below : i.0 < query.within = (let b = slice_below question.within i.0 p i.1 in omega (arith, b, is.within)) in
      let (rest, has) = live.within i.0 below in (
        rest,
        elim (has_cases question query is i.0 (text ++ rest) has) [
          | inl r ↦ subst (λ (q : List Sign). Matches q (text ++ rest)) (let both : Some r.0 ≡ Some p = sym r.1 ∙ i.1 in let same : r.0 ≡ p = cc in same) r.2
          | inr r ↦ absurd (let n : i.0 ≡ length question.within + r.0 = r.2 in let b = slice_below question.within i.0 p i.1 in omega (arith, b))
        ],
      );
  unnamed = λ rest h. free rest (subst (λ (l : List (List ℕ)). Contains l (text ++ rest)) (sym is.named) h);
}

pub counted : (question : Question) (query : Query) → IsQuestion question query → (text : List ℕ) → GoesOn question text
    → IsCounted query text
counted question query is text goes = (
  goes.characters,
  record {
    grammar = (let (rest, h) = goes.grammar in (rest, subst (λ g. IsIn g (text ++ rest)) (sym is.grammar) h));
    within = λ g below.
        let p = element question.within g (omega (arith, below, is.within)) in
        let (rest, m) = goes.within p.0 (slice_in question.within g p.0 p.1) in
        (rest, within_has question query is g p.0 (text ++ rest) p.1 m);
  },
  λ rest h. goes.unnamed rest (subst (λ (l : List (List ℕ)). Contains l (text ++ rest)) is.named h),
)

pub states_as : (one other : List ℕ → Type 0) (machine : Machine) → ((text : List ℕ) → one text → other text) → HasManyStates one machine
    → HasManyStates other machine
states_as one other machine to (states, are, many) =
    (states, record { behind = λ s h. (let b = are.behind s h in (b.0, to b.0 b.1, b.2)); apart = are.apart }, many)

pub kinds_of : (question : Question) (query : Query) → IsQuestion question query → HasManyTexts query → HasManyKinds question
kinds_of question query is (texts, are, many) = (
  texts,
  record {
    meant = λ text h. (let s = are.sought text h in (s.0, meant question query is text s.1));
    apart =
        pairs_weaker (λ one other. ¬ Alike query one other) (λ one other. ¬ Agree question one other) texts (λ x y h k differ agrees.
        differ (alike question query is x y (meant question query is x (are.sought x (of_in texts x h)).1)
        (meant question query is y (are.sought y (of_in texts y k)).1) agrees)) are.apart;
  },
  many,
)

pub texts_of : (question : Question) (query : Query) → IsQuestion question query → HasManyKinds question → HasManyTexts query
texts_of question query is (texts, are, many) = (
  texts,
  record {
    sought = λ text h. (let s = are.meant text h in (s.0, sought question query is text s.1));
    apart =
        pairs_weaker (λ one other. ¬ Agree question one other) (λ one other. ¬ Alike query one other) texts (λ x y h k differ same.
        differ (agree question query is x y same)) are.apart;
  },
  many,
)

-- a walk passes a limit just where the question says so
pub passes : (question : Question) (query : Query) (machine : Machine) → IsQuestion question query → machine ≡ machine_of question
    → (HasManyStates (IsCounted query) machine ⊎ HasManyTexts query) ↔ PassesLimit question
passes question query machine is same = (
  λ over. elim over [
    | inl m ↦ inl (subst (HasManyStates (GoesOn question)) same (states_as (IsCounted query) (GoesOn question) machine (goes_on question query is) m))
    | inr m ↦ inr (kinds_of question query is m)
  ],
  λ past. elim past [
    | inl m ↦ inl (states_as (GoesOn question) (IsCounted query) machine (counted question query is) (subst (HasManyStates (GoesOn question)) (sym same) m))
    | inr m ↦ inr (texts_of question query is m)
  ],
)
