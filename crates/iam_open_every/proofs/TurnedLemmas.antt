-- Requests for resources that a world does not name, in contexts in question: what is decided on one text is decided on those read alike.
use Rattle.std.proofs.Common.{◌≡◌, ◌∙◌, ◌<◌, ◌≤◌, ◌++◌, ◌∷◌, [], inl, inr, ℕ, zero, suc, Any, List, Some, ap, arith, get_or, length, refl, set, subst, sym}
use Rattle.std.specs.List.{flat_map, slice_get}
use Rattle.std.specs.Option.{option_to_list}
use Rattle.iam_context.specs.Context.{ContextValue, all_of}
use Rattle.iam_context.specs.ContextFault.{IsClean}
use Rattle.iam_policy.specs.Reading.{PolicyValue}
use Rattle.iam_match.specs.Statement.{AccessValue, RequestValue, request_for}
use Rattle.iam_decision.specs.Applicable.{ApplicableValue}
use Rattle.iam_decision.specs.Decision.{IsDecision}
use Rattle.iam_decision.specs.declared.verdict.Decision.{Decision}
use Rattle.iam_decision.specs.declared.verdict.Decision.TheVariants.{Allowed}
use Rattle.iam_world.specs.World.{AccountValue, PrincipalValue, ResourceValue, WorldValue, policies_of}
use Rattle.iam_layers.specs.Applicable.{applicable_of}
use Rattle.iam_layers.specs.Cell.{IsAccessAt, IsAction}
use Rattle.iam_layers.specs.Derived.{IsDerived, context_of}
use Rattle.iam_layers.specs.Own.{IsCleanAt, IsOwnAccess, IsOwnDecision, given_with}
use Rattle.iam_layers.specs.Unnamed.{IsSaid, world_and}
use Rattle.iam_layers.specs.declared.unnamed.Unnamed.{Unnamed}
use Rattle.iam_layers.specs.declared.unnamed.Unnamed.TheVariants.{Like, Of}
use Rattle.iam_every.specs.Alike.{AlikeTextsDecideAlike, request_on}
use Rattle.iam_every.proofs.NamesLemmas.{asks, last, one_said, one_some}
use Rattle.iam_open.specs.InQuestion.{AsksForSeveral, IsDecisionIn, IsInQuestion, MayBeGiven, MayHaveSeveral, at_moment}
use Rattle.iam_open.specs.declared.answer.Turned.TheVariants.{Always, Never, Open, Possible}
use Rattle.iam_open.proofs.ListLemmas.{none_of_none, some_cases, some_first}
use Rattle.iam_open_every.specs.Turned.{AlikeTextsAreToldAlike, ReadAlikeAreTurnedAlike}
use Rattle.iam_open_every.proofs.AlikeLemmas.{read_alike}

-- ---- resources of which the same is said
-- the same resource by another text
abbrev pub by_text : List ℕ → ResourceValue → ResourceValue
by_text text resource = record resource { arn = text }

named : (world : WorldValue) (unnamed : Unnamed) (text : List ℕ) (resource : ResourceValue) → IsSaid world unnamed text resource → resource.arn ≡ text
named world (Like r) text resource (like, at, is) = ap (λ (x : ResourceValue). x.arn) is
named world (Of account) text resource is = ap (λ (x : ResourceValue). x.arn) is

pub said_too : (world : WorldValue) (unnamed : Unnamed) (one other : List ℕ) (resource : ResourceValue) → IsSaid world unnamed one resource
    → IsSaid world unnamed other (by_text other resource)
said_too world (Like r) one other resource (like, at, is) = (like, at, ap (by_text other) is)
said_too world (Of account) one other resource is = ap (by_text other) is

-- ---- the policies of both worlds are the same, and so are the contexts in question
flat_last : {X Y : Type 0} (f : X → List Y) (xs : List X) (x y : X) → f x ≡ f y → flat_map f (xs ++ x ∷ []) ≡ flat_map f (xs ++ y ∷ [])
flat_last f [] x y same = ap (λ z. z ++ []) same
flat_last f (z ∷ xs) x y same = ap (λ rest. f z ++ rest) (flat_last f xs x y same)

policies_same : (world : WorldValue) (action text : List ℕ) (resource : ResourceValue)
    → policies_of (world_and world action resource) ≡ policies_of (world_and world action (by_text text resource))
policies_same world action text resource =
    let other = by_text text resource in
    let controls : ResourceValue → List PolicyValue = λ x. flat_map (λ level. level) x.control in
    let owns : ResourceValue → List PolicyValue = λ x. option_to_list x.policy in
    let before : List PolicyValue = flat_map (λ (account : AccountValue). flat_map (λ level. level) account.org) world.accounts in
    let behind : List PolicyValue =
    flat_map (λ (principal : PrincipalValue). principal.identity) world.principals
    ++ (flat_map (λ (principal : PrincipalValue). option_to_list principal.boundary) world.principals
    ++ flat_map (λ (principal : PrincipalValue). principal.session) world.principals) in
    ap (λ (xs : List PolicyValue). before ++ (xs ++ (flat_map owns (world.resources ++ resource ∷ []) ++ behind)))
    (flat_last controls world.resources resource other refl)
    ∙ ap (λ (xs : List PolicyValue). before ++ (flat_map controls (world.resources ++ other ∷ []) ++ (xs ++ behind)))
    (flat_last owns world.resources resource other refl)

several_same : (one other : WorldValue) (key : List ℕ) → policies_of one ≡ policies_of other → MayHaveSeveral (one ∷ []) key
    → MayHaveSeveral (other ∷ []) key
several_same one other key same several =
    let Asks : PolicyValue → Type 0 = λ policy. Any (λ s. Any (AsksForSeveral key) s.conditions) policy.statements in
    let P : WorldValue → Type 0 = λ world. Any Asks (policies_of world) in
    elim (some_cases P one [] several) [
      | inl some ↦ some_first P other [] (subst (λ (policies : List PolicyValue). Any Asks policies) same some)
      | inr none ↦ absurd (none_of_none P none)
    ]

pub given_too : (one other : WorldValue) (own : ContextValue) (moment : ℕ) → policies_of one ≡ policies_of other → one.moment ≡ other.moment
    → MayBeGiven (one ∷ []) own moment → MayBeGiven (other ∷ []) own moment
given_too one other own moment policies moments given = record {
  texts = given.texts;
  few = λ k d below. elim (given.few k d below) [
    | inl single ↦ inl single
    | inr several ↦ inr (several_same one other (get_or own k d).0 policies several)
  ];
  from = alone;
  to = given.to;
}
  where
    alone : (k : ℕ) (d : WorldValue) → k < length (other ∷ []) → (get_or (other ∷ []) k d).moment ≤ moment
    alone zero d below = subst (λ (m : ℕ). m ≤ moment) moments (given.from zero one (omega arith))
    alone (suc k) d below = absurd (let wrong : ⊥ = omega (arith, below) in wrong)

clean_too : (world : WorldValue) (action text : List ℕ) (p : ℕ) (own : ContextValue) (resource : ResourceValue)
    → IsCleanAt (world_and world action resource) p (length world.resources) own
    → IsCleanAt (world_and world action (by_text text resource)) p (length world.resources) own
clean_too world action text p own resource (principal, at, (found, there, clean)) =
    let same : found ≡ resource =
    one_some (slice_get (world.resources ++ resource ∷ []) (length world.resources)) found resource there (last world.resources resource) in (
      principal,
      at,
      (
        by_text text resource,
        last world.resources (by_text text resource),
        subst (λ (x : ResourceValue). IsClean [] (all_of (given_with world principal x own))) same clean,
      ),
    )

question_too : (world : WorldValue) (action text : List ℕ) (p : ℕ) (own : ContextValue) (moment : ℕ) (resource : ResourceValue)
    → IsInQuestion (world_and world action resource ∷ []) (world_and world action resource) p (length world.resources) own moment
    → IsInQuestion (world_and world action (by_text text resource) ∷ []) (world_and world action (by_text text resource)) p (length world.resources) own
    moment
question_too world action text p own moment resource question = record {
  given = given_too (world_and world action resource) (world_and world action (by_text text resource)) own moment
      (policies_same world action text resource) refl question.given;
  clean = clean_too world action text p own resource question.clean;
}

-- ---- who asks for the one text asks for the other alike
-- the resource that gives these keys too, and the world that has it
abbrev pub more_of : ContextValue → ResourceValue → ResourceValue
more_of own resource = record resource { context = resource.context ++ own }

abbrev pub with_own : WorldValue → ℕ → ContextValue → ResourceValue → WorldValue
with_own world r own resource = record world { resources = set world.resources r (more_of own resource) }

pub put_last : {X : Type 0} (xs : List X) (x y : X) → slice_get (set (xs ++ x ∷ []) (length xs) y) (length xs) ≡ Some y
put_last [] x y = refl
put_last (z ∷ xs) x y = put_last xs x y

-- the world at the moment that has the resource, and what it is where the resource gives these keys too
abbrev pub at_and : WorldValue → List ℕ → ℕ → ResourceValue → WorldValue
at_and world action moment resource = at_moment (world_and world action resource) moment

-- the access as it stands in the world whose last resource gives the keys
pub in_place : (world : WorldValue) (action : List ℕ) (p moment : ℕ) (own : ContextValue) (resource : ResourceValue) (a : ApplicableValue) (access : AccessValue)
    → IsOwnAccess (at_and world action moment resource) p (length world.resources) own a access
    → IsAccessAt (with_own (at_and world action moment resource) (length world.resources) own resource) p (length world.resources) a access
in_place world action p moment own resource a access (other, (found, there, is), h) =
    let n = length world.resources in
    let same : found ≡ resource = one_some (slice_get (world.resources ++ resource ∷ []) n) found resource there (last world.resources resource) in
    subst (λ (w : WorldValue). IsAccessAt w p n a access) (is ∙ ap (with_own (at_and world action moment resource) n own) same) h

-- its resource is that one
pub its_resource : (world : WorldValue) (action : List ℕ) (p moment : ℕ) (own : ContextValue) (resource : ResourceValue) (a : ApplicableValue)
    (access : AccessValue) (h : IsAccessAt (with_own (at_and world action moment resource) (length world.resources) own resource) p (length world.resources) a access)
    → h.resource ≡ more_of own resource
its_resource world action p moment own resource a access h =
    one_some (slice_get (set (world.resources ++ resource ∷ []) (length world.resources) (more_of own resource)) (length world.resources)) h.resource
    (more_of own resource) h.resource_is (put_last world.resources resource (more_of own resource))

-- it asks for its text
asks_for : (world : WorldValue) (action : List ℕ) (p moment : ℕ) (own : ContextValue) (resource : ResourceValue) (a : ApplicableValue)
    (access : AccessValue) → IsOwnAccess (at_and world action moment resource) p (length world.resources) own a access → access.resource ≡ resource.arn
asks_for world action p moment own resource a access asked =
    let h = in_place world action p moment own resource a access asked in
    ap (λ (x : AccessValue). x.resource) h.access_is
    ∙ ap (λ (x : ResourceValue). x.arn) (its_resource world action p moment own resource a access h)

access_too : (world : WorldValue) (action text : List ℕ) (p moment : ℕ) (own : ContextValue) (resource : ResourceValue) (a : ApplicableValue)
    (access : AccessValue) → IsOwnAccess (at_and world action moment resource) p (length world.resources) own a access
    → IsOwnAccess (at_and world action moment (by_text text resource)) p (length world.resources) own a (record access { resource = text })
access_too world action text p moment own resource a access asked =
    let n = length world.resources in
    let here = with_own (at_and world action moment resource) n own resource in
    let further = by_text text resource in
    let there = with_own (at_and world action moment further) n own further in
    let h = in_place world action p moment own resource a access asked in
    let is = its_resource world action p moment own resource a access h in (
      there,
      (further, last world.resources further, refl),
      record {
        principal = h.principal;
        resource = more_of own further;
        derived = h.derived;
        principal_is = h.principal_is;
        resource_is = put_last world.resources further (more_of own further);
        derived_is = subst (λ (x : ResourceValue). IsDerived here h.principal x h.derived) is h.derived_is;
        applicable_is = h.applicable_is ∙ ap (λ (x : ResourceValue). applicable_of here h.principal x) is;
        access_is =
            ap (λ (x : AccessValue). record x { resource = text }) h.access_is
            ∙ ap (λ (x : ResourceValue). asks h.principal text (context_of here h.principal x h.derived)) is;
      },
    )

-- ---- what is decided
pub decided_so : (world : WorldValue) (p a r : ℕ) (own : ContextValue) (action : List ℕ) (applicable : ApplicableValue) (access : AccessValue)
    (decision : Decision) → IsOwnAccess world p r own applicable access → IsAction world a action
    → IsDecision applicable (request_for access action) decision → IsOwnDecision world p a r own decision
decided_so world p a r own action applicable access decision (other, (x, there, is), h) acts decided = (
  other,
  (x, there, is),
  (
    applicable,
    request_for access action,
    (access, action, h, subst (λ (w : WorldValue). IsAction w a action) (sym is) acts, refl),
    decided,
  ),
)

pub asked_so : (world : WorldValue) (p a r : ℕ) (own : ContextValue) (action : List ℕ) (decision : Decision) → IsAction world a action
    → IsOwnDecision world p a r own decision
    → (applicable : ApplicableValue) × (access : AccessValue) × IsOwnAccess world p r own applicable access
    × IsDecision applicable (request_for access action) decision
asked_so world p a r own action decision acts (other, (x, there, is), (applicable, request, (access, act, h, at, request_is), decided)) =
    let same : act ≡ action =
    one_some (slice_get world.actions a) act action (subst (λ (w : WorldValue). IsAction w a act) is at) acts in (
      applicable,
      access,
      (other, (x, there, is), h),
      subst (λ (q : RequestValue). IsDecision applicable q decision) (request_is ∙ ap (request_for access) same) decided,
    )

pub turned_alike : AlikeTextsDecideAlike → ReadAlikeAreTurnedAlike
turned_alike decide world p unnamed action one other alike own moment decision (resource, said, (question, decided)) =
    let further = by_text other resource in
    let (applicable, access, asked, is) =
    asked_so (at_and world action moment resource) p (length world.actions) (length world.resources) own action decision (last world.actions action) decided in
    let text : access.resource ≡ one =
    asks_for world action p moment own resource applicable access asked ∙ named world unnamed one resource said in
    let on_one : request_for access action ≡ request_on access action one =
    ap (λ (x : List ℕ). request_for (record access { resource = x }) action) text in
    let so =
    read_alike decide applicable access action one other decision (alike own moment applicable access (resource, said, (question, asked)))
    (subst (λ (q : RequestValue). IsDecision applicable q decision) on_one is) in (
      further,
      said_too world unnamed one other resource said,
      (
        question_too world action other p own moment resource question,
        decided_so (at_and world action moment further) p (length world.actions) (length world.resources) own action applicable
            (record access { resource = other }) decision (access_too world action other p moment own resource applicable access asked)
            (last world.actions action) so,
      ),
    )

-- ---- what is told
-- the decision in a context in question on the resource of a text, of which that is said
here : (world : WorldValue) (p : ℕ) (unnamed : Unnamed) (action text : List ℕ) (own : ContextValue) (moment : ℕ) (decision : Decision)
    (resource found : ResourceValue) → IsSaid world unnamed text resource → IsSaid world unnamed text found
    → IsInQuestion (world_and world action found ∷ []) (world_and world action found) p (length world.resources) own moment
    × IsDecisionIn (world_and world action found) p (length world.actions) (length world.resources) own moment decision
    → IsInQuestion (world_and world action resource ∷ []) (world_and world action resource) p (length world.resources) own moment
    × IsDecisionIn (world_and world action resource) p (length world.actions) (length world.resources) own moment decision
here world p unnamed action text own moment decision resource found said told =
    subst (λ (x : ResourceValue).
    IsInQuestion (world_and world action x ∷ []) (world_and world action x) p (length world.resources) own moment
    × IsDecisionIn (world_and world action x) p (length world.actions) (length world.resources) own moment decision)
    (one_said world unnamed text found resource told said)

pub told_alike : AlikeTextsAreToldAlike
told_alike world p unnamed action one other Always on back (resource, said, always) =
    let too = said_too world unnamed one other resource said in (
      by_text other resource,
      too,
      λ own moment decision question decided.
          let (found, told, so) = back own moment decision (by_text other resource, too, (question, decided)) in
          let (asked, is) = here world p unnamed action one own moment decision resource found said told so in
          always own moment decision asked is,
    )
told_alike world p unnamed action one other Never on back (resource, said, never) =
    let too = said_too world unnamed one other resource said in (
      by_text other resource,
      too,
      λ own moment question decided.
          let (found, told, so) = back own moment Allowed (by_text other resource, too, (question, decided)) in
          let (asked, is) = here world p unnamed action one own moment Allowed resource found said told so in
          never own moment asked is,
    )
told_alike world p unnamed action one other (Possible example) on back (resource, said, shown) =
    let (w, with_keys, (applicable, request, asked, verdict)) = shown.verdict in
    on example.own.items example.moment Allowed (
      resource,
      said,
      (
        shown.question,
        (w, with_keys, (applicable, request, asked, subst (λ (d : Decision). IsDecision applicable request d) shown.allowed verdict.decided)),
      ),
    )
told_alike world p unnamed action one other Open on back told = tt
