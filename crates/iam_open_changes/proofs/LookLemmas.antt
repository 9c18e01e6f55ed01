-- What is compared of two worlds where they may decide a request by the same.
use Rattle.std.proofs.Common.{◌≡◌, ◌∙◌, ◌≤◌, ◌<◌, ℕ, zero, suc, List, [], ◌∷◌, ◌++◌, All, IsTrue, Option, Some, ap, arith, codes, false, get_or, inl, length, refl, subst, sym}
use Rattle.std.proofs.lemmas.List.{append_cancel_left}
use Rattle.std.specs.List.{slice_get}
use Rattle.iam_context.specs.Context.{ContextValue}
use Rattle.iam_layers.specs.Applicable.{applicable_of}
use Rattle.iam_layers.specs.Cell.{IsAction, IsDerivedAt, IsPrincipal, IsResource}
use Rattle.iam_layers.specs.Derived.{derived_of, key, moment_keys, requester_keys}
use Rattle.iam_layers.proofs.VerdictLemmas.{one_some}
use Rattle.iam_match.specs.Requester.{RequesterValue}
use Rattle.iam_open.specs.InQuestion.{MayBeGiven, at_moment, last_moment}
use Rattle.iam_open.specs.Seat.{IsSeat}
use Rattle.iam_open.proofs.GivenLemmas.{IsSingle}
use Rattle.iam_open_changes.specs.Code.Kept.{AreKept, KeptValue}
use Rattle.iam_open_changes.specs.Code.Same.{AllowNoMore, Excludes, HaveSameDerived, HaveSameFrame, HaveSameKnown, HaveSameTexts, HaveSameWho}
use Rattle.iam_open_changes.specs.Laws.{NoMoreIsNotTurned}
use Rattle.iam_open_changes.specs.Same.{AskSame, known_context}
use Rattle.iam_open_changes.specs.Sides.{OfRequests}
use Rattle.iam_open_changes.proofs.ReachLemmas.{reach_in}
use Rattle.iam_open_changes.proofs.SideLemmas.{context_seated, principal_seated}
use Rattle.iam_open_changes.specs.declared.numbers.Numbers.{Numbers}
use Rattle.iam_open_changes.specs.declared.same.Excluded.{Excluded}
use Rattle.iam_open_changes.specs.declared.side.Request.{Request}
use Rattle.iam_policy.specs.declared.effect.Effect.TheVariants.{Allow, Deny}
use Rattle.iam_world.specs.World.{PrincipalValue, ResourceValue, WorldValue}

-- ---- the account of a resource, from the derived keys

first_values : ContextValue → List (List ℕ)
first_values [] = []
first_values (entry ∷ entries) = entry.1

first_text : List (List ℕ) → List ℕ
first_text [] = []
first_text (text ∷ texts) = text

account_same : (r : RequesterValue) (account account' : List ℕ) (moment : ℕ) (stamp stamp' : List ℕ)
    → derived_of r account moment stamp ≡ derived_of r account' moment stamp' → account ≡ account'
unfolding first_text first_values
account_same r account account' moment stamp stamp' same =
    let rest = append_cancel_left (requester_keys r) (key (codes "aws:ResourceAccount") account ++ moment_keys moment stamp)
    (key (codes "aws:ResourceAccount") account' ++ moment_keys moment stamp') same in
    ap (λ (x : ContextValue). first_text (first_values x)) rest

pub accounts_same : (before after : WorldValue) (was now : Numbers) (moment : ℕ) (derived : ContextValue) (q q' : PrincipalValue) (s s' : ResourceValue)
    → slice_get before.principals was.principal ≡ Some q → slice_get after.principals now.principal ≡ Some q'
    → slice_get before.resources was.resource ≡ Some s → slice_get after.resources now.resource ≡ Some s' → q.requester ≡ q'.requester
    → IsDerivedAt (at_moment before moment) was.principal was.resource derived
    → IsDerivedAt (at_moment after moment) now.principal now.resource derived → s.account ≡ s'.account
accounts_same before after was now moment derived q q' s s' at at' there there' who (x, x_at, (y, y_at, (stamp, stamped, is)))
    (x', x_at', (y', y_at', (stamp', stamped', is'))) =
    let x_is : x ≡ q = one_some (slice_get before.principals was.principal) x q x_at at in
    let y_is : y ≡ s = one_some (slice_get before.resources was.resource) y s y_at there in
    let x_is' : x' ≡ q' = one_some (slice_get after.principals now.principal) x' q' x_at' at' in
    let y_is' : y' ≡ s' = one_some (slice_get after.resources now.resource) y' s' y_at' there' in
    let one : derived ≡ derived_of q'.requester s.account moment stamp =
    is ∙ ap (λ (z : PrincipalValue). derived_of z.requester y.account moment stamp) x_is
    ∙ ap (λ (z : ResourceValue). derived_of q.requester z.account moment stamp) y_is
    ∙ ap (λ (z : RequesterValue). derived_of z s.account moment stamp) who in
    let other : derived ≡ derived_of q'.requester s'.account moment stamp' =
    is' ∙ ap (λ (z : PrincipalValue). derived_of z.requester y'.account moment stamp') x_is'
    ∙ ap (λ (z : ResourceValue). derived_of q'.requester z.account moment stamp') y_is' in
    account_same q'.requester s.account s'.account moment stamp stamp' (sym one ∙ other)

-- ---- the known keys

known_same : (before after : WorldValue) (was now : Numbers) (q q' : PrincipalValue) (s s' : ResourceValue)
    → slice_get before.principals was.principal ≡ Some q → slice_get after.principals now.principal ≡ Some q'
    → slice_get before.resources was.resource ≡ Some s → slice_get after.resources now.resource ≡ Some s' → HaveSameKnown before after was now
    → known_context before q s ≡ known_context after q' s'
known_same before after was now q q' s s' at at' there there' same =
    let (x, x_at, (x', x_at', principals)) = same.principals in
    let (y, y_at, (y', y_at', resources)) = same.resources in
    let x_is : x ≡ q = one_some (slice_get before.principals was.principal) x q x_at at in
    let y_is : y ≡ s = one_some (slice_get before.resources was.resource) y s y_at there in
    let x_is' : x' ≡ q' = one_some (slice_get after.principals now.principal) x' q' x_at' at' in
    let y_is' : y' ≡ s' = one_some (slice_get after.resources now.resource) y' s' y_at' there' in
    let contexts : q.context ≡ q'.context = sym (ap (λ (z : PrincipalValue). z.context) x_is) ∙ principals ∙ ap (λ (z : PrincipalValue). z.context) x_is' in
    let more : s.context ≡ s'.context = sym (ap (λ (z : ResourceValue). z.context) y_is) ∙ resources ∙ ap (λ (z : ResourceValue). z.context) y_is' in
    ap (λ (z : ContextValue). z ++ (q.context ++ s.context)) same.worlds ∙ ap (λ (z : ContextValue). after.context ++ (z ++ s.context)) contexts
    ∙ ap (λ (z : ContextValue). after.context ++ (q'.context ++ z)) more

-- ---- all of it

pub ask_same : (before after : WorldValue) (was now : Numbers) → HaveSameWho before after was now → HaveSameTexts before after was now
    → HaveSameKnown before after was now → HaveSameFrame before after was now → HaveSameDerived before after was now
    → AskSame before after was now
ask_same before after was now (q, at, (q', at', requester)) texts known frame (derived, keys, keys') =
    let (s, there, (s', there', arns)) = texts.resource in
    record {
      asked = q;
      asks = q';
      sought = s;
      seeks = s';
      action = texts.action;
      asked_at = at;
      asks_at = at';
      sought_at = there;
      seeks_at = there';
      action_before = texts.action_before;
      action_after = texts.action_after;
      requester = requester;
      text = arns;
      account = accounts_same before after was now before.moment derived q q' s s' at at' there there' requester keys keys';
      known = known_same before after was now q q' s s' at at' there there' known;
      frame = frame (applicable_of before q s) (applicable_of after q' s') (q, at, (s, there, refl)) (q', at', (s', there', refl));
    }

-- the other way round
pub ask_back : (before after : WorldValue) (was now : Numbers) → AskSame before after was now → AskSame after before now was
ask_back before after was now same = record {
  asked = same.asks;
  asks = same.asked;
  sought = same.seeks;
  seeks = same.sought;
  action = same.action;
  asked_at = same.asks_at;
  asks_at = same.asked_at;
  sought_at = same.seeks_at;
  seeks_at = same.sought_at;
  action_before = same.action_after;
  action_after = same.action_before;
  requester = sym same.requester;
  text = sym same.text;
  account = sym same.account;
  known = sym same.known;
  frame = sym same.frame;
}

-- what is excluded by the statements that may match
pub excludes : NoMoreIsNotTurned → (before after : WorldValue) (was now : Numbers) (excluded : Excluded) (ones others : List KeptValue)
    → AskSame before after was now → AreKept before was ones → AreKept after now others
    → (IsTrue excluded.gains → AllowNoMore others ones) → (IsTrue excluded.losses → AllowNoMore ones others)
    → Excludes before after (Some was) (Some now) excluded
excludes law before after was now excluded ones others same kept kept' gains losses = record {
  gains = λ t.
      let (allows, denies) = gains t in
      (law before after was now).0 (record {
        same = ask_back before after was now same;
        allows = reach_in Allow after before now was others ones kept' kept allows;
        denies = reach_in Deny before after was now ones others kept kept' denies;
      });
  losses = λ t.
      let (allows, denies) = losses t in
      (law before after was now).1 (record {
        same = same;
        allows = reach_in Allow before after was now ones others kept kept' allows;
        denies = reach_in Deny after before now was others ones kept' kept denies;
      });
}

-- what excludes nothing
pub excludes_nothing : (before after : WorldValue) (was now : Option Numbers) → Excludes before after was now (record { gains = false; losses = false })
excludes_nothing before after was now = record {
  gains = λ t. absurd (let wrong : ⊥ = cc in wrong);
  losses = λ t. absurd (let wrong : ⊥ = cc in wrong);
}

-- requesters, and what is said of two numbers of a kind
pub who_same : (before after : WorldValue) (was now : Numbers) (one other : RequesterValue)
    → IsPrincipal before was.principal (λ principal. one ≡ principal.requester)
    → IsPrincipal after now.principal (λ principal. other ≡ principal.requester) → one ≡ other → HaveSameWho before after was now
who_same before after was now one other (q, at, who) (q', at', who') same = (q, at, (q', at', sym who ∙ same ∙ who'))

pub texts_same : (before after : WorldValue) (was now : Numbers) (text text' arn arn' : List ℕ) → IsAction before was.action text
    → IsAction after now.action text' → text ≡ text' → IsResource before was.resource (λ resource. arn ≡ resource.arn)
    → IsResource after now.resource (λ resource. arn' ≡ resource.arn) → arn ≡ arn' → HaveSameTexts before after was now
texts_same before after was now text text' arn arn' does does' same (s, there, what) (s', there', what') arns = record {
  action = text;
  action_before = does;
  action_after = subst (λ (z : List ℕ). IsAction after now.action z) (sym same) does';
  resource = (s, there, (s', there', sym what ∙ arns ∙ what'));
}

-- keys that are found to be the same: of the worlds, of the principals, and of the resources
pub known_found : (before after : Request) (w w' q q' s s' : ContextValue) → w ≡ before.scene.world.now.context → w' ≡ after.scene.world.now.context
    → w ≡ w' → IsPrincipal before.scene.world.now before.scene.p (λ principal. q ≡ principal.context)
    → IsPrincipal after.scene.world.now after.scene.p (λ principal. q' ≡ principal.context) → q ≡ q'
    → ((one : WorldValue) (r : ℕ) → IsSeat before.scene.world.now before.scene.target one r → IsResource one r (λ resource. s ≡ resource.context))
    → ((other : WorldValue) (r : ℕ) → IsSeat after.scene.world.now after.scene.target other r → IsResource other r (λ resource. s' ≡ resource.context))
    → s ≡ s' → OfRequests before after HaveSameKnown
known_found before after w w' q q' s s' w_is w_is' worlds q_is q_is' principals s_is s_is' resources one other was now has has' =
    let (x, x_at, x_is) =
    subst (λ (p : ℕ). IsPrincipal one p (λ principal. q ≡ principal.context)) has.principal
    (principal_seated (λ principal. q ≡ principal.context) before.scene.world.now before.scene.target one was.resource before.scene.p has.resource q_is) in
    let (x', x_at', x_is') =
    subst (λ (p : ℕ). IsPrincipal other p (λ principal. q' ≡ principal.context)) has'.principal
    (principal_seated (λ principal. q' ≡ principal.context) after.scene.world.now after.scene.target other now.resource after.scene.p has'.resource q_is') in
    let (y, y_at, y_is) = s_is one was.resource has.resource in
    let (y', y_at', y_is') = s_is' other now.resource has'.resource in
    record {
      worlds = sym (context_seated before.scene.world.now before.scene.target one was.resource has.resource) ∙ sym w_is ∙ worlds ∙ w_is'
          ∙ context_seated after.scene.world.now after.scene.target other now.resource has'.resource;
      principals = (x, x_at, (x', x_at', sym x_is ∙ principals ∙ x_is'));
      resources = (y, y_at, (y', y_at', sym y_is ∙ resources ∙ y_is'));
    }

-- ---- derived keys that are found to be the same

pub derived_same : (before after : WorldValue) (was now : Numbers) (moment : ℕ) (one other : ContextValue) → moment ≡ before.moment
    → IsDerivedAt (at_moment before moment) was.principal was.resource one
    → IsDerivedAt (at_moment after moment) now.principal now.resource other → one ≡ other → HaveSameDerived before after was now
derived_same before after was now moment one other then is is' same = (
  one,
  subst (λ (n : ℕ). IsDerivedAt (at_moment before n) was.principal was.resource one) then is,
  subst (λ (n : ℕ). IsDerivedAt (at_moment after n) now.principal now.resource one) then
      (subst (λ (x : ContextValue). IsDerivedAt (at_moment after moment) now.principal now.resource x) (sym same) is'),
)

-- ---- keys that requests may have where both worlds are asked about

pub given_both : (before after : WorldValue) (own : ContextValue) (moment : ℕ) → All IsSingle own → before.moment ≤ moment → after.moment ≤ moment
    → moment ≤ last_moment → MayBeGiven (before ∷ (after ∷ [])) own moment
given_both before after own moment all from since to = record {
  texts = λ k d below. ((all k d below).0, (all k d below).1);
  few = λ k d below. inl (all k d below).2;
  from = both;
  to = to;
}
  where
    both : (k : ℕ) (d : WorldValue) → k < length (before ∷ (after ∷ [])) → (get_or (before ∷ (after ∷ [])) k d).moment ≤ moment
    both zero d below = from
    both (suc zero) d below = since
    both (suc (suc k)) d below = absurd (let wrong : ⊥ = omega (arith, below) in wrong)
