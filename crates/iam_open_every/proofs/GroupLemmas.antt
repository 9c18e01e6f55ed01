-- What the groups of open contexts agree on, statements read alike in each of these contexts.
use Rattle.std.proofs.Common.{◌≡◌, ◌↔◌, inl, inr, ℕ, List, [], ◌∷◌, ◌++◌, Any, Bool, true, false, None, Option, Some, arith, chars, get_or, filter_map, if◌then◌else◌, option_map, refl, subst, sym}
use Rattle.std.specs.List.{Contains, list_any}
use Rattle.std.proofs.lemmas.List.Elements.{Contains-append_left, Contains-append_right, Contains-get_or}
use Rattle.iam_context.specs.Context.{ContextValue}
use Rattle.iam_context.specs.Resolve.{resolved}
use Rattle.iam_decision.specs.Matched.{Placed, placed}
use Rattle.iam_element.specs.Reading.{ResourceElement}
use Rattle.iam_glob.specs.declared.sign.Sign.{Sign}
use Rattle.iam_kinds.specs.Kinds.{GroupMatches}
use Rattle.iam_match.specs.Principal.{PrincipalMatches}
use Rattle.iam_match.specs.Requester.{RequesterValue}
use Rattle.iam_match.specs.Statement.{AccessValue, TextMatches}
use Rattle.iam_text.specs.declared.draft.Piece.{Piece}
use Rattle.iam_open.specs.Code.Known.{AgreeOn, text_beyond}
use Rattle.iam_open.proofs.FitLemmas.{matches_same}
use Rattle.iam_open.proofs.ListLemmas.{all_front, neither, some_behind, some_first}
use Rattle.iam_every.specs.Alike.{Meets}
use Rattle.iam_every.proofs.MemberLemmas.{cases_in, first_in, group_of_texts, in_some, none_in, some_in}
use Rattle.iam_open_every.specs.Alike.{AreReadAlike, ReadsAlike}
use Rattle.iam_open_every.specs.Concerned.{AreConcerned, ConcernsIn, MayConcern}
use Rattle.iam_open_every.specs.Groups.{AgreeingTextsAreReadAlike, AreOpenGroups, element_beyond, element_groups, groups_at}

-- no member passes a test that none passes
not_any : {X : Type 0} (f : X → Bool) (xs : List X) (x : X) → list_any f xs ≡ false → Contains xs x → f x ≡ false
not_any f [] x none inside = absurd (none_in x inside)
not_any f (y ∷ xs) x none inside =
    let (first, rest) = neither (f y) (list_any f xs) none in
    elim (cases_in y xs x inside) [
      | inl same ↦ subst (λ (z : _). f z ≡ false) same first
      | inr later ↦ not_any f xs x rest later
    ]

-- a group that matches the one text matches the other
abbrev Goes : List ℕ → List ℕ → List (List Sign) → Type 0
Goes one other group = GroupMatches group (chars one) → GroupMatches group (chars other)

-- texts that ask for known keys alone match in the one context as in the other
some_same : (known : List (List ℕ)) (context here : ContextValue) (resource : List ℕ) (texts : List (List Piece)) → AgreeOn known context here
    → list_any (text_beyond known) texts ≡ false → Any (TextMatches context resource) texts ↔ Any (TextMatches here resource) texts
some_same known context here resource texts agree free =
    let same : (text : List Piece) → Contains texts text → TextMatches context resource text ↔ TextMatches here resource text =
    λ text inside. matches_same known context here resource text agree (not_any (text_beyond known) texts text free inside) in (
      λ some.
          let (text, inside, matches) = some_in (TextMatches context resource) texts some in
          in_some (TextMatches here resource) texts text inside ((same text inside).0 matches),
      λ some.
          let (text, inside, matches) = some_in (TextMatches here resource) texts some in
          in_some (TextMatches context resource) texts text inside ((same text inside).1 matches),
    )

goes : (known : List (List ℕ)) (context here : ContextValue) (one other : List ℕ) (s : Placed) → AgreeOn known context here
    → element_beyond known s.statement.resource ≡ false
    → ((group : List (List Sign)) → Contains (element_groups context s.statement.resource) group → Goes one other group)
    → (negated : Bool) → Meets here negated one s → Meets here negated other s
goes known context here one other s agree free same negated (element, is, sign, some) =
    let own : list_any (text_beyond known) element.texts ≡ false =
    subst (λ (e : Option ResourceElement). element_beyond known e ≡ false) is free in
    let group = filter_map (resolved context) element.texts in
    let there : Contains (element_groups context s.statement.resource) group =
    subst (λ (e : Option ResourceElement). Contains (element_groups context e) group) (sym is) (first_in group []) in
    let was = (some_same known context here one element.texts agree own).1 some in
    let now = same group there ((group_of_texts context element.texts one).1 was) in
    (element, is, sign, (some_same known context here other element.texts agree own).0 ((group_of_texts context element.texts other).0 now))

reads : (known : List (List ℕ)) (context here : ContextValue) (one other : List ℕ) (s : Placed) → AgreeOn known context here
    → element_beyond known s.statement.resource ≡ false
    → ((group : List (List Sign)) → Contains (element_groups context s.statement.resource) group
    → GroupMatches group (chars one) ↔ GroupMatches group (chars other))
    → ReadsAlike here one other s
reads known context here one other s agree free same negated = (
  goes known context here one other s agree free (λ group inside. (same group inside).0) negated,
  goes known context here other one s agree free (λ group inside. (same group inside).1) negated,
)

pub open_groups : (known : List (List ℕ)) (context : ContextValue) (statements : List Placed) (groups : List (List (List Sign)))
    → groups_at known context statements ≡ Some groups → AreOpenGroups known context statements groups
open_groups known context [] groups is here one other agree same = λ k d below. absurd (let wrong : ⊥ = omega (arith, below) in wrong)
open_groups known context (s ∷ statements) groups is here one other agree same =
    by_beyond (open_groups known context statements) (element_beyond known s.statement.resource) refl is
  where
    Behind : Type 0
    Behind = (rest : List (List (List Sign))) → groups_at known context statements ≡ Some rest → AreOpenGroups known context statements rest

    front : List (List (List Sign))
    front = element_groups context s.statement.resource

    by_rest : Behind → element_beyond known s.statement.resource ≡ false → (rest : Option (List (List (List Sign)))) → groups_at known context statements ≡ rest
        → option_map (λ more. front ++ more) rest ≡ Some groups → AreReadAlike here (s ∷ statements) one other
    by_rest behind free None rest_is is = absurd (let wrong : ⊥ = cc in wrong)
    by_rest behind free (Some rest) rest_is is =
        let whole : front ++ rest ≡ groups = cc in
        let inside : (group : List (List Sign)) → Contains (front ++ rest) group → GroupMatches group (chars one) ↔ GroupMatches group (chars other) =
        λ group among. same group (subst (λ (gs : List (List (List Sign))). Contains gs group) whole among) in
        all_front (ReadsAlike here one other) s statements
        (reads known context here one other s agree free (λ group among. inside group (Contains-append_left front rest group among)))
        (behind rest rest_is here one other agree (λ group among. inside group (Contains-append_right front rest group among)))

    by_beyond : Behind → (beyond : Bool) → element_beyond known s.statement.resource ≡ beyond
        → (if beyond then None else option_map (λ rest. front ++ rest) (groups_at known context statements)) ≡ Some groups
        → AreReadAlike here (s ∷ statements) one other
    by_beyond behind true beyond is = absurd (let wrong : ⊥ = cc in wrong)
    by_beyond behind false free is = by_rest behind free (groups_at known context statements) refl is

pub agreeing_texts : AgreeingTextsAreReadAlike
agreeing_texts a looked access known found groups action one other are tell who follows agree k s below concerns =
    let x = get_or (placed a) k s in
    let here : ConcernsIn looked access.context x = record {
      principal = subst (λ (r : RequesterValue). PrincipalMatches x.statement.principal r) who concerns.principal;
      conditions = concerns.conditions;
    } in
    let (j, inside, at) = are.all access.context follows x (Contains-get_or (placed a) k s below) here in
    subst (ReadsAlike access.context one other) at (tell access.context one other follows.agree agree j x inside)

-- there are none where a text of an element asks for a key that is not known
pub beyond_of : (known : List (List ℕ)) (context : ContextValue) (statements : List Placed) → groups_at known context statements ≡ None
    → Any (λ s. element_beyond known s.statement.resource ≡ true) statements
beyond_of known context [] none = absurd (let wrong : ⊥ = cc in wrong)
beyond_of known context (s ∷ statements) none =
    by_beyond (beyond_of known context statements) (element_beyond known s.statement.resource) refl none
  where
    Asks : Placed → Type 0
    Asks s = element_beyond known s.statement.resource ≡ true

    by_rest : (groups_at known context statements ≡ None → Any Asks statements) → (rest : Option (List (List (List Sign))))
        → groups_at known context statements ≡ rest → option_map (λ more. element_groups context s.statement.resource ++ more) rest ≡ None
        → Any Asks (s ∷ statements)
    by_rest behind None rest_is none = some_behind Asks s statements (behind rest_is)
    by_rest behind (Some rest) rest_is none = absurd (let wrong : ⊥ = cc in wrong)

    by_beyond : (groups_at known context statements ≡ None → Any Asks statements) → (beyond : Bool)
        → element_beyond known s.statement.resource ≡ beyond
        → (if beyond then None else option_map (λ rest. element_groups context s.statement.resource ++ rest) (groups_at known context statements)) ≡ None
        → Any Asks (s ∷ statements)
    by_beyond behind true beyond none = some_first Asks s statements beyond
    by_beyond behind false free none = by_rest behind (groups_at known context statements) refl none

-- so it is then of one that may concern requests, among all statements
pub beyond_among : (looked : AccessValue) (known : List (List ℕ)) (statements found : List Placed) → AreConcerned looked known statements found
    → groups_at known looked.context found ≡ None
    → Any (λ s. MayConcern looked known s × (element_beyond known s.statement.resource ≡ true)) statements
beyond_among looked known statements found are none =
    let Asks : Placed → Type 0 = λ s. MayConcern looked known s × (element_beyond known s.statement.resource ≡ true) in
    let (k, s, below, at, asks) = beyond_of known looked.context found none in
    in_some Asks statements s (subst (λ (x : Placed). Contains statements x) at (are.among k s below))
    (subst (λ (x : Placed). MayConcern looked known x) at (are.each k s below), asks)
