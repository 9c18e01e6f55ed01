-- Statements that say as much as others.
use Rattle.std.proofs.Common.{◌≡◌, ◌∙◌, ◌≤◌, ◌<◌, ◌+◌, ℕ, List, ap, get_or, inl, inr, length, subst, sym, take}
use Rattle.std.proofs.lemmas.List.Elements.{Contains-push_cases}
use Rattle.std.specs.List.{Any, Contains}
use Rattle.iam_condition.specs.Entry.{EntryValue}
use Rattle.iam_decision.specs.Matched.{IsMatched, Placed}
use Rattle.iam_match.specs.Entry.{EntryHolds}
use Rattle.iam_match.specs.Principal.{grant_of, rank}
use Rattle.iam_match.specs.Statement.{RequestValue, ResourceMatches}
use Rattle.iam_match.specs.declared.principal.Grant.{Grant}
use Rattle.iam_open.proofs.ListLemmas.{some_in, taken_more}
use Rattle.iam_open_changes.specs.Code.Implied.{Implies}
use Rattle.iam_open_changes.specs.Code.Kept.{AreKept, KeptValue, OpenHolds}
use Rattle.iam_open_changes.specs.Code.Same.{IsReached, ReachOthers}
use Rattle.iam_open_changes.specs.Same.{ReachesIn, SaysAsMuch}
use Rattle.iam_open_changes.specs.declared.numbers.Numbers.{Numbers}
use Rattle.iam_policy.specs.declared.effect.Effect.{Effect}
use Rattle.iam_world.specs.World.{WorldValue}

-- where the first statement matches, what is open of the one that it reaches holds
open_holds : (q : RequestValue) (one other : KeptValue) → IsReached one other → IsMatched q one.standing → OpenHolds other q
open_holds q one other reached matched = record {
  resource = λ t.
      subst (λ element. ResourceMatches element q.resource q.context) (reached.resource t) matched.rest.resource;
  entries = λ k d below.
      let (entry, (n, inside, at), implies) =
      some_in (λ (it : EntryValue). Implies it (get_or other.entries k d)) one.standing.statement.conditions (reached.entries k d below) in
      implies q.context (subst (EntryHolds q.context) at (matched.rest.conditions n entry inside));
}

says_as_much : (q : RequestValue) (one other : KeptValue) → IsReached one other
    → one.grant ≡ grant_of one.standing.statement.principal q.requester → other.grant ≡ grant_of other.standing.statement.principal q.requester
    → (OpenHolds other q → IsMatched q other.standing) → IsMatched q one.standing → SaysAsMuch q one.standing other.standing
says_as_much q one other reached grants grants' matches matched = record {
  matched = matches (open_holds q one other reached matched);
  effect = reached.alike.effect;
  layer = reached.alike.layer;
  level = reached.alike.level;
  grant = subst (λ (g : Grant). rank g ≤ rank (grant_of other.standing.statement.principal q.requester)) grants
      (subst (λ (g : Grant). rank one.grant ≤ rank g) grants' reached.grant);
}

-- so in each context in question
pub reach_in : (effect : Effect) (one other : WorldValue) (at to : Numbers) (ones others : List KeptValue) → AreKept one at ones
    → AreKept other to others → ReachOthers effect ones others → ReachesIn effect one other at to
reach_in effect one other at to ones others kept kept' reach a b q asked s among says =
    let (w, is_w, request) = asked.asked_one in
    let (w', is_w', request') = asked.asked_other in
    let (k, inside, is) = kept.matching asked.own asked.moment w a q s asked.clean_one is_w request among says.0 in
    let (k', inside', reached) = reach k inside (ap (λ (x : Placed). x.statement.effect) is ∙ says.1) in
    let stands = kept.stands asked.own asked.moment w a q k asked.clean_one is_w request inside in
    let stands' = kept'.stands asked.own asked.moment w' b q k' asked.clean_other is_w' request' inside' in
    let matched : IsMatched q k.standing = subst (λ (x : Placed). IsMatched q x) (sym is) says.0 in (
      k'.standing,
      stands'.there,
      subst (λ (x : Placed). SaysAsMuch q x k'.standing) is
          (says_as_much q k k' reached stands.grants stands'.grants stands'.matches matched),
    )

-- ---- one more statement

pub reach_more : (effect : Effect) (ones others : List KeptValue) (i : ℕ) (one : KeptValue) → i < length ones → one ≡ get_or ones i one
    → ReachOthers effect (take i ones) others → (one.standing.statement.effect ≡ effect → Any (IsReached one) others)
    → ReachOthers effect (take (i + 1) ones) others
reach_more effect ones others i one below at reach more x among has =
    elim (Contains-push_cases (take i ones) one x (subst (λ (ys : List KeptValue). Contains ys x) (taken_more ones i one below at) among)) [
      | inl inside ↦ reach x inside has
      | inr same ↦
          (let of_one = ap (λ (y : KeptValue). y.standing.statement.effect) same ∙ has in
          let (other, there, reached) = some_in (IsReached one) others (more of_one) in
          (other, there, subst (λ (y : KeptValue). IsReached y other) same reached))
    ]
