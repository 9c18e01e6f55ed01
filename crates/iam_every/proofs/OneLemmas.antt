-- What is said, the policies that are looked at for it, and the groups of their action elements, are one list each.
use Rattle.std.proofs.Common.{◌≡◌, ◌∷◌, ◌++◌, [], ◌∙◌, ℕ, List, ap, length, map, subst, sym}
use Rattle.std.specs.List.{range_with_len, slice_get}
use Rattle.iam_decision.specs.Applicable.{ApplicableValue}
use Rattle.iam_world.specs.World.{PrincipalValue, WorldValue}
use Rattle.iam_layers.specs.Applicable.{applicable_of}
use Rattle.iam_layers.specs.declared.unnamed.Unnamed.{Unnamed}
use Rattle.iam_every.specs.Every.{AreSaid, EveryValue, IsMatched, LineValue, OneListOfActionGroupsAt}
use Rattle.iam_every.specs.OwnActions.{ApplyTo, AreNeeded, AreOwnActionGroups, AreOwnPolicies, IsPlain}
use Rattle.iam_every.proofs.ActionLemmas.{one_list_of_action_groups}
use Rattle.iam_every.proofs.FirstLemmas.{one_selected, one_zipped}
use Rattle.iam_every.proofs.MeantLemmas.{like, some_said}
use Rattle.iam_every.proofs.NamesLemmas.{one_some}

pub one_said_list : (every : EveryValue) (one other : List Unnamed) → AreSaid every one → AreSaid every other → one ≡ other
one_said_list every one other (matched, chosen, is) (found, selected, same) =
    let numbers = range_with_len 0 (length every.world.resources) in
    is
    ∙ ap (λ (l : List ℕ). map (λ (line : LineValue). line.unnamed) every.lines ++ map like l)
    (one_selected (IsMatched every.world every.lines) numbers matched found chosen selected) ∙ sym same

one_applies : (world : WorldValue) (p : ℕ) (unnamed : Unnamed) (a b : ApplicableValue) → ApplyTo world p unnamed a → ApplyTo world p unnamed b → a ≡ b
one_applies world p unnamed a b one other =
    let (resource, said) = some_said world unnamed [] one.there in
    let (principal, at, each) = one.policies in
    let (found, there, too) = other.policies in
    let who : principal ≡ found = one_some (slice_get world.principals p) principal found at there in
    each [] resource said ∙ ap (λ (x : PrincipalValue). applicable_of world x resource) who ∙ sym (too [] resource said)

one_needed : (applicables one other : List ApplicableValue) → AreNeeded applicables one → AreNeeded applicables other → one ≡ other
one_needed [] one other h k = h ∙ sym k
one_needed (a ∷ applicables) one other (rest, is, chosen) (more, same, selected) =
    is ∙ ap (λ l. a ∷ l) (one_selected (λ b. ¬ IsPlain b) applicables rest more chosen selected) ∙ sym same

pub one_policies : (world : WorldValue) (p : ℕ) (said : List Unnamed) (one other : List ApplicableValue) → AreOwnPolicies world p said one
    → AreOwnPolicies world p said other → one ≡ other
one_policies world p said one other (applicables, fit, needed) (found, fits, too) =
    let same = one_zipped (ApplyTo world p) said applicables found (one_applies world p) fit fits in
    one_needed found one other (subst (λ (l : List ApplicableValue). AreNeeded l one) same needed) too

pub one_list_of_action_groups_at : OneListOfActionGroupsAt
one_list_of_action_groups_at every p one other own its =
    let said = one_said_list every own.said its.said own.are_said its.are_said in
    let policies : own.applicables ≡ its.applicables = one_policies every.world p its.said own.applicables its.applicables
    (subst (λ (l : List Unnamed). AreOwnPolicies every.world p l own.applicables) said own.apply) its.apply in
    one_list_of_action_groups its.applicables one other
    (subst (λ (l : List ApplicableValue). AreOwnActionGroups l one) policies own.are) its.are
