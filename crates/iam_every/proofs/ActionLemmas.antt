-- The patterns of the action elements of statements are the groups by which they read an action.
use Rattle.std.proofs.Common.{◌∙◌, inl, inr, ◌↔◌, ℕ, Bool, true, false, List, [], Any, MatchBool, ap, get_or, map, subst, sym}
use Rattle.std.proofs.lemmas.List.Elements.{Contains-get_or}
use Rattle.std.specs.List.{Contains, flat_map}
use Rattle.std.specs.Str.{chars}
use Rattle.iam_glob.specs.Glob.{MatchesFold}
use Rattle.iam_glob.specs.declared.sign.Sign.{Sign}
use Rattle.iam_element.specs.Reading.{ActionElement}
use Rattle.iam_kinds.specs.Kinds.{GroupMatchesFold}
use Rattle.iam_match.specs.Statement.{ActionMatches}
use Rattle.iam_decision.specs.Applicable.{ApplicableValue}
use Rattle.iam_decision.specs.Matched.{Placed, placed}
use Rattle.iam_every.specs.Names.{AreActionGroups}
use Rattle.iam_every.specs.OwnActions.{OneListOfActionGroups, OwnActionGroupsAreGroups, elements_of}
use Rattle.iam_every.proofs.FirstLemmas.{in_firsts, of_firsts, one_firsts}
use Rattle.iam_every.proofs.MatchLemmas.{known_fold}
use Rattle.iam_every.proofs.ListLemmas.{joined, mapped, of_joined, of_mapped, some_or_none}

-- some pattern of the element matches the action
abbrev Some : ActionElement → List ℕ → Type 0
Some element action = Any (λ pattern. MatchesFold pattern (chars action)) element.patterns

group_some : (element : ActionElement) (action : List ℕ) → Some element action ↔ GroupMatchesFold element.patterns (chars action)
group_some element action = (
  λ (k, pattern, below, at, m). (pattern, (k, below, at), m),
  λ (pattern, (k, below, at), m). (k, pattern, below, at, m),
)

-- where a pattern matches both actions or none does, the element does
acts_alike : (element : ActionElement) (one other : List ℕ) → (Some element one → Some element other) → (Some element other → Some element one)
    → ActionMatches element one → ActionMatches element other
acts_alike element one other on back = by_negation element.negated
  where
    by_negation : (negated : Bool) → MatchBool negated (¬ Some element one) (Some element one) → MatchBool negated (¬ Some element other) (Some element other)
    by_negation true never = λ some. never (back some)
    by_negation false some = on some

-- and the other way round, since it is known whether a pattern matches
some_alike : (element : ActionElement) (one other : List ℕ) → (ActionMatches element one → ActionMatches element other)
    → (ActionMatches element other → ActionMatches element one) → Some element one → Some element other
some_alike element one other on back = by_negation element.negated on back
  where
    by_negation : (negated : Bool)
        → (MatchBool negated (¬ Some element one) (Some element one) → MatchBool negated (¬ Some element other) (Some element other))
        → (MatchBool negated (¬ Some element other) (Some element other) → MatchBool negated (¬ Some element one) (Some element one))
        → Some element one → Some element other
    by_negation true on back some = elim (some_or_none (λ pattern. MatchesFold pattern (chars other)) (λ pattern. known_fold pattern (chars other)) element.patterns) [
      | inl there ↦ there
      | inr never ↦ absurd (back never some)
    ]
    by_negation false on back some = on some

groups_alike : (element : ActionElement) (one other : List ℕ) → ActionMatches element one ↔ ActionMatches element other
    → GroupMatchesFold element.patterns (chars one) → GroupMatchesFold element.patterns (chars other)
groups_alike element one other (on, back) m = (group_some element other).0 (some_alike element one other on back ((group_some element one).1 m))

elements_alike : (element : ActionElement) (one other : List ℕ)
    → GroupMatchesFold element.patterns (chars one) ↔ GroupMatchesFold element.patterns (chars other)
    → ActionMatches element one → ActionMatches element other
elements_alike element one other (on, back) =
    acts_alike element one other (λ some. (group_some element other).1 (on ((group_some element one).0 some)))
    (λ some. (group_some element one).1 (back ((group_some element other).0 some)))

abbrev swapped : {A B : Type 0} → A ↔ B → B ↔ A
swapped h = (h.1, h.0)

-- ---- the groups
are_groups : (applicables : List ApplicableValue) (elements : List ActionElement)
    → ((element : ActionElement) → Contains (flat_map elements_of applicables) element → Contains elements element)
    → ((element : ActionElement) → Contains elements element → Contains (flat_map elements_of applicables) element)
    → AreActionGroups applicables (map (λ e. e.patterns) elements)
are_groups applicables elements listed own_of one other = (
  λ agree a among k d below.
      let s = get_or (placed a) k d in
      let element = s.statement.action in
      let own : Contains (elements_of a) element = mapped (λ (s : Placed). s.statement.action) s (placed a) (Contains-get_or (placed a) k d below) in
      let there : Contains elements element = listed element (joined elements_of a element applicables among own) in
      let both = agree element.patterns (mapped (λ (e : ActionElement). e.patterns) element elements there) in
      (elements_alike element one other both, elements_alike element other one (swapped both)),
  λ alike group among.
      let (element, there, patterns) = of_mapped (λ (e : ActionElement). e.patterns) group elements among in
      let (a, here, own) = of_joined elements_of element applicables (own_of element there) in
      let (s, (k, below, at), is) = of_mapped (λ (s : Placed). s.statement.action) element (placed a) own in
      let acts = subst (λ (x : Placed). ActionMatches x.statement.action one ↔ ActionMatches x.statement.action other) at (alike a here k s below) in
      let both = subst (λ (x : ActionElement). ActionMatches x one ↔ ActionMatches x other) is acts in
      subst (λ (g : List (List Sign)). GroupMatchesFold g (chars one) ↔ GroupMatchesFold g (chars other)) patterns
      (groups_alike element one other both, groups_alike element other one (swapped both)),
)

pub own_action_groups : OwnActionGroupsAreGroups
own_action_groups applicables groups (elements, firsts, is) =
    subst (AreActionGroups applicables) (sym is) (are_groups applicables elements
    (λ element among. in_firsts [] (flat_map elements_of applicables) elements element firsts among)
    (λ element among. of_firsts [] (flat_map elements_of applicables) elements element firsts among))

pub one_list_of_action_groups : OneListOfActionGroups
one_list_of_action_groups applicables one other (elements, firsts, is) (found, too, same) =
    is ∙ ap (map (λ (e : ActionElement). e.patterns)) (one_firsts [] (flat_map elements_of applicables) elements found firsts too) ∙ sym same
