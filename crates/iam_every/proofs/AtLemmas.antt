-- The groups of one access of a principal are those of each other one to resources of which the same is said.
use Rattle.std.proofs.Common.{◌≡◌, List, ℕ, refl, sym, ap, subst, ◌∙◌, length}
use Rattle.iam_context.specs.Context.{ContextValue}
use Rattle.iam_glob.specs.declared.sign.Sign.{Sign}
use Rattle.iam_match.specs.Requester.{RequesterValue}
use Rattle.iam_match.specs.Statement.{AccessValue, RequestValue, request_for}
use Rattle.iam_decision.specs.Applicable.{ApplicableValue}
use Rattle.iam_decision.specs.Matched.{Placed, placed}
use Rattle.iam_world.specs.World.{ResourceValue, WorldValue}
use Rattle.iam_layers.specs.Cell.{IsAccessAt}
use Rattle.iam_layers.specs.Laws.{OneRequest}
use Rattle.iam_layers.specs.Unnamed.{IsUnnamedAccess, world_and}
use Rattle.iam_layers.specs.declared.unnamed.Unnamed.{Unnamed}
use Rattle.iam_every.specs.Alike.{AreAlike, Concerns, GroupMeets, IsAllowAt, IsDeny, IsGrant}
use Rattle.iam_every.specs.Groups.{AreGroups}
use Rattle.iam_every.specs.Names.{AreGroupsAt}
use Rattle.iam_every.specs.OwnGroups.{AreOwnGroups, OneListOfGroupsAt}
use Rattle.iam_every.proofs.FirstLemmas.{selected_by}
use Rattle.iam_every.proofs.NamesLemmas.{asks_too, last, one_said}
use Rattle.iam_every.proofs.OwnLemmas.{one_list_of_groups}

-- the text for which is asked is not seen
abbrev for_text : AccessValue → List ℕ → AccessValue
for_text access text = record access { resource = text }

concerns_for : (access : AccessValue) (text action : List ℕ) (s : Placed) → Concerns access action s → Concerns (for_text access text) action s
concerns_for access text action s c = record { principal = c.principal; action = c.action; conditions = c.conditions }

concerns_back : (access : AccessValue) (text action : List ℕ) (s : Placed) → Concerns (for_text access text) action s → Concerns access action s
concerns_back access text action s c = record { principal = c.principal; action = c.action; conditions = c.conditions }

meets_for : (a : ApplicableValue) (access : AccessValue) (text action : List ℕ) (P : Placed → Type 0) (one : List ℕ)
    → GroupMeets a access action P one → GroupMeets a (for_text access text) action P one
meets_for a access text action P one (k, s, below, at, (c, p, m)) = (k, s, below, at, (concerns_for access text action s c, p, m))

meets_back : (a : ApplicableValue) (access : AccessValue) (text action : List ℕ) (P : Placed → Type 0) (one : List ℕ)
    → GroupMeets a (for_text access text) action P one → GroupMeets a access action P one
meets_back a access text action P one (k, s, below, at, (c, p, m)) = (k, s, below, at, (concerns_back access text action s c, p, m))

alike_for : (a : ApplicableValue) (access : AccessValue) (text action one other : List ℕ) → AreAlike a access action one other
    → AreAlike a (for_text access text) action one other
alike_for a access text action one other alike =
    let on = meets_for a access text action in
    let back = meets_back a access text action in
    record {
      denies = (
        λ m. on IsDeny other (alike.denies.0 (back IsDeny one m)),
        λ m. on IsDeny one (alike.denies.1 (back IsDeny other m)),
      );
      allows = λ layer level.
          let P = IsAllowAt layer level in (
            λ m. on P other ((alike.allows layer level).0 (back P one m)),
            λ m. on P one ((alike.allows layer level).1 (back P other m)),
          );
      grants = λ grant.
          let P = IsGrant access.requester grant in (
            λ m. on P other ((alike.grants grant).0 (back P one m)),
            λ m. on P one ((alike.grants grant).1 (back P other m)),
          );
      negated = λ k d below c. alike.negated k d below (concerns_back access text action _ c);
    }

alike_too : (a b : ApplicableValue) (access by : AccessValue) (action one other : List ℕ) → a ≡ b → access.requester ≡ by.requester
    → access.context ≡ by.context → AreAlike a access action one other → AreAlike b by action one other
alike_too a b access by action one other same who within alike =
    let whole : for_text access by.resource ≡ by =
    ap (λ (x : RequesterValue). record by { requester = x; context = access.context }) who
    ∙ ap (λ (x : ContextValue). record by { context = x }) within in
    subst (λ (x : ApplicableValue). AreAlike x by action one other) same
    (subst (λ (x : AccessValue). AreAlike a x action one other) whole (alike_for a access by.resource action one other alike))

-- who asks for texts of which the same is said asks in one context under one set of policies
record AskAlike (a b : ApplicableValue) (access by : AccessValue) : Type 0 where
  pub policies : a ≡ b
  pub requester : access.requester ≡ by.requester
  pub context : access.context ≡ by.context

ask_alike : OneRequest → (world : WorldValue) (p : ℕ) (unnamed : Unnamed) (action own text : List ℕ) (a b : ApplicableValue) (access by : AccessValue)
    → IsUnnamedAccess world p unnamed action own a access → IsUnnamedAccess world p unnamed action text b by → AskAlike a b access by
ask_alike one world p unnamed action own text a b access by (resource, said, at) h =
    let (found, told, there) = asks_too world p unnamed action action text own b by h in
    let same : found ≡ resource = one_said world unnamed own found resource told said in
    let other = world_and world action resource in
    let moved : IsAccessAt other p (length world.resources) b (for_text by own) =
    subst (λ (x : ResourceValue). IsAccessAt (world_and world action x) p (length world.resources) b (for_text by own)) same there in
    let act = last world.actions action in
    let both = one other p (length world.actions) (length world.resources) a b (request_for access action) (request_for (for_text by own) action)
    (access, action, at, act, refl) (for_text by own, action, moved, act, refl) in
    record {
      policies = both.0;
      requester = ap (λ (q : RequestValue). q.requester) both.1;
      context = ap (λ (q : RequestValue). q.context) both.1;
    }

pub groups_at : OneRequest → (world : WorldValue) (p : ℕ) (unnamed : Unnamed) (action own : List ℕ) (a : ApplicableValue) (access : AccessValue)
    (groups : List (List (List Sign))) → IsUnnamedAccess world p unnamed action own a access → AreGroups a access action groups
    → AreGroupsAt world p unnamed action groups
groups_at one world p unnamed action own a access groups asks are text b by h =
    let both = ask_alike one world p unnamed action own text a b access by asks h in
    λ ones others. (
      λ agree. alike_too a b access by action ones others both.policies both.requester both.context ((are ones others).0 agree),
      λ alike. (are ones others).1 (alike_too b a by access action ones others (sym both.policies) (sym both.requester) (sym both.context) alike),
    )

-- ---- own groups
own_for : (a : ApplicableValue) (access : AccessValue) (text action : List ℕ) (groups : List (List (List Sign))) → AreOwnGroups a access action groups
    → AreOwnGroups a (for_text access text) action groups
own_for a access text action groups own = record {
  chosen = own.chosen;
  concerned = selected_by (Concerns access action) (Concerns (for_text access text) action) (placed a) own.chosen (concerns_for access text action)
      (concerns_back access text action) own.concerned;
  sides = own.sides;
  of_sides = own.of_sides;
  negated = own.negated;
  of_negated = own.of_negated;
  are = own.are;
}

own_too : (a b : ApplicableValue) (access by : AccessValue) (action : List ℕ) (groups : List (List (List Sign))) → AskAlike a b access by
    → AreOwnGroups a access action groups → AreOwnGroups b by action groups
own_too a b access by action groups alike own =
    let whole : for_text access by.resource ≡ by =
    ap (λ (x : RequesterValue). record by { requester = x; context = access.context }) alike.requester
    ∙ ap (λ (x : ContextValue). record by { context = x }) alike.context in
    subst (λ (x : ApplicableValue). AreOwnGroups x by action groups) alike.policies
    (subst (λ (x : AccessValue). AreOwnGroups a x action groups) whole (own_for a access by.resource action groups own))

pub one_list_of_groups_at : OneRequest → OneListOfGroupsAt
one_list_of_groups_at one world p unnamed action groups others own its =
    let alike = ask_alike one world p unnamed action own.text its.text own.applicable its.applicable own.access its.access own.asks its.asks in
    one_list_of_groups its.applicable its.access action groups others
    (own_too own.applicable its.applicable own.access its.access action groups alike own.are) its.are
