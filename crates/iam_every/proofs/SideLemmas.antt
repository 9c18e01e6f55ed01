-- Groups of patterns are made of statements one at a time.
use Rattle.std.proofs.Common.{◌≡◌, ◌⊎◌, inl, inr, ◌<◌, ◌+◌, ℕ, List, [], ◌∷◌, ◌++◌, Bool, false, true, None, Option, Some, Contains, length, get_or, map, take, refl, sym, ap, ◌∙◌, subst}
use Rattle.std.proofs.lemmas.List.{map-append}
use Rattle.std.specs.List.{AllZip}
use Rattle.iam_glob.specs.declared.sign.Sign.{Sign}
use Rattle.iam_context.specs.Context.{ContextValue}
use Rattle.iam_element.specs.Reading.{ResourceElement}
use Rattle.iam_match.specs.Statement.{AccessValue}
use Rattle.iam_decision.specs.Code.Scan.{placed_value}
use Rattle.iam_decision.specs.Matched.{Placed}
use Rattle.iam_decision.specs.declared.scan.Standing.{Standing}
use Rattle.iam_every.specs.Groups.{side_of}
use Rattle.iam_every.specs.OwnGroups.{AreFirsts, AreNegatedGroups, AreSides, HasElement, IsSideGroup, patterns_in}
use Rattle.iam_every.specs.declared.groups.Side.{Side}
use Rattle.iam_every.proofs.FirstLemmas.{firsts_more, firsts_skip}
use Rattle.iam_every.proofs.ListLemmas.{flat_behind}
use Rattle.iam_every.proofs.WalkLemmas.{select_pass, select_push, taken_more}

-- the statements so far and one more
pub placed_more : (statements : List Standing) (i : ℕ) (x : Standing) → i < length statements → x ≡ get_or statements i x
    → map placed_value (take (i + 1) statements) ≡ map placed_value (take i statements) ++ (placed_value x ∷ [])
placed_more statements i x below is =
    ap (map placed_value) (taken_more statements i x below is) ∙ map-append placed_value (take i statements) (x ∷ [])

-- whether a statement has an element is known
has_or_not : (negated : Bool) (s : Placed) → HasElement negated s ⊎ ¬ HasElement negated s
has_or_not negated s = by_element s.statement.resource refl
  where
    by_sign : (element : ResourceElement) → s.statement.resource ≡ Some element → (one other : Bool) → element.negated ≡ one → negated ≡ other
        → HasElement negated s ⊎ ¬ HasElement negated s
    by_sign element is true true sign wanted = inl (element, is, sign ∙ sym wanted)
    by_sign element is false false sign wanted = inl (element, is, sign ∙ sym wanted)
    by_sign element is true false sign wanted = inr (λ (found, found_is, found_sign).
        let same : Some element ≡ Some found = sym is ∙ found_is in
        let alike : element ≡ found = cc in
        let wrong : ⊥ = cc in wrong)
    by_sign element is false true sign wanted = inr (λ (found, found_is, found_sign).
        let same : Some element ≡ Some found = sym is ∙ found_is in
        let alike : element ≡ found = cc in
        let wrong : ⊥ = cc in wrong)

    by_element : (o : Option ResourceElement) → s.statement.resource ≡ o → HasElement negated s ⊎ ¬ HasElement negated s
    by_element None is = inr (λ (found, found_is, sign). let wrong : ⊥ = cc in wrong)
    by_element (Some element) is = by_sign element is element.negated negated refl refl

abbrev patterns_on : ContextValue → Placed → List (List Sign)
patterns_on context s = patterns_in context s.statement.resource

-- a group to which one more statement is added, or is not
pub group_more : (access : AccessValue) (side : Side) (before : List Placed) (s : Placed) (old new : List (List Sign))
    → IsSideGroup access before side old → HasElement false s → side_of access.requester s ≡ side
    → new ≡ old ++ patterns_in access.context s.statement.resource → IsSideGroup access (before ++ (s ∷ [])) side new
group_more access side before s old new (own, chosen, is) has on now = (
  own ++ (s ∷ []),
  select_push (λ t. HasElement false t × (side_of access.requester t ≡ side)) before s own chosen (has, on),
  now ∙ ap (λ g. g ++ patterns_on access.context s) is ∙ sym (flat_behind (patterns_on access.context) own s),
)

pub group_skip : (access : AccessValue) (side : Side) (before : List Placed) (s : Placed) (group : List (List Sign))
    → IsSideGroup access before side group → ¬ (HasElement false s × (side_of access.requester s ≡ side))
    → IsSideGroup access (before ++ (s ∷ [])) side group
group_skip access side before s group (own, chosen, is) off =
    (own, select_pass (λ t. HasElement false t × (side_of access.requester t ≡ side)) before s own chosen off, is)

-- one more statement with `NotResource`, and one without
pub negated_more : (context : ContextValue) (before : List Placed) (s : Placed) (groups : List (List (List Sign))) (group : List (List Sign))
    → AreNegatedGroups context before groups → HasElement true s → group ≡ patterns_in context s.statement.resource
    → AreNegatedGroups context (before ++ (s ∷ [])) (groups ++ (group ∷ []))
negated_more context before s groups group (own, chosen, is) has made = (
  own ++ (s ∷ []),
  select_push (HasElement true) before s own chosen has,
  ap (λ g. groups ++ (g ∷ [])) made ∙ ap (λ gs. gs ++ (patterns_on context s ∷ [])) is ∙ sym (map-append (patterns_on context) own (s ∷ [])),
)

pub negated_skip : (context : ContextValue) (before : List Placed) (s : Placed) (groups : List (List (List Sign)))
    → AreNegatedGroups context before groups → ¬ HasElement true s → AreNegatedGroups context (before ++ (s ∷ [])) groups
negated_skip context before s groups (own, chosen, is) none = (own, select_pass (HasElement true) before s own chosen none, is)

-- one more statement on a new side, and one that brings none
pub sides_more : (access : AccessValue) (before : List Placed) (s : Placed) (sides : List Side) → AreSides access before sides
    → HasElement false s → ¬ Contains sides (side_of access.requester s)
    → AreSides access (before ++ (s ∷ [])) (sides ++ (side_of access.requester s ∷ []))
sides_more access before s sides (stated, chosen, are) has new =
    let side : Placed → Side = λ t. side_of access.requester t in (
      stated ++ (s ∷ []),
      select_push (HasElement false) before s stated chosen has,
      subst (λ (l : List Side). AreFirsts [] l (sides ++ (side s ∷ []))) (sym (map-append side stated (s ∷ [])))
          (firsts_more [] (map side stated) sides (side s) are new),
    )

pub sides_skip : (access : AccessValue) (before : List Placed) (s : Placed) (sides : List Side) → AreSides access before sides
    → (HasElement false s → Contains sides (side_of access.requester s)) → AreSides access (before ++ (s ∷ [])) sides
sides_skip access before s sides (stated, chosen, are) there =
    let side : Placed → Side = λ t. side_of access.requester t in
    elim (has_or_not false s) [
      | inl has ↦ (
        stated ++ (s ∷ []),
        select_push (HasElement false) before s stated chosen has,
        subst (λ (l : List Side). AreFirsts [] l sides) (sym (map-append side stated (s ∷ [])))
            (firsts_skip [] (map side stated) sides (side s) are (there has)),
      )
      | inr not ↦ (stated, select_pass (HasElement false) before s stated chosen not, are)
    ]

-- one more pair that fits
pub both_more : {X Y : Type 0} (R : X → Y → Type 0) (xs : List X) (ys : List Y) (x : X) (y : Y) → AllZip R xs ys → R x y
    → AllZip R (xs ++ (x ∷ [])) (ys ++ (y ∷ []))
both_more R [] [] x y fit r = (r, tt)
both_more R [] (w ∷ ys) x y fit r = absurd fit
both_more R (z ∷ xs) [] x y fit r = absurd fit
both_more R (z ∷ xs) (w ∷ ys) x y fit r = (fit.0, both_more R xs ys x y fit.1 r)
