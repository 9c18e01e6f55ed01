-- Requests in contexts in question, and the one that is looked at.
use Rattle.std.proofs.Common.{◌≡◌, ◌∙◌, ◌≤◌, ◌++◌, ◌∷◌, [], ℕ, Bool, false, List, None, Option, Some, IfSome, option_map, ap, append-nil, append_assoc, arith, length, map, refl, subst, sym}
use Rattle.std.specs.List.{list_any, slice_get}
use Rattle.iam_context.specs.Context.{ContextValue, all_of, derived_names, has_key, has_twice, is_same_key, joined, keys_of}
use Rattle.iam_context.specs.ContextFault.{IsClean}
use Rattle.iam_context.specs.declared.fault.ContextFault.TheVariants.{DerivedKeyGiven, KeyTwice, OutOfMemory}
use Rattle.iam_match.specs.Statement.{AccessValue}
use Rattle.iam_decision.specs.Applicable.{ApplicableValue}
use Rattle.iam_decision.specs.Matched.{Placed, placed}
use Rattle.iam_glob.specs.declared.sign.Sign.{Sign}
use Rattle.iam_world.specs.World.{PrincipalValue, ResourceValue, WorldValue}
use Rattle.iam_layers.specs.Applicable.{applicable_of}
use Rattle.iam_layers.specs.Cell.{IsApplicableAt, IsPrincipal}
use Rattle.iam_layers.specs.Derived.{IsDerived}
use Rattle.iam_layers.specs.Own.{IsCleanAt, IsOwnAccess, given_with}
use Rattle.iam_layers.specs.Unnamed.{world_and}
use Rattle.iam_layers.specs.declared.unnamed.Unnamed.{Unnamed}
use Rattle.iam_every.specs.Alike.{AlikeTextsDecideAlike}
use Rattle.iam_every.proofs.NamesLemmas.{last, one_some}
use Rattle.iam_open.specs.Seat.{IsSeat}
use Rattle.iam_open.specs.declared.scene.Target.{Target}
use Rattle.iam_open.specs.declared.scene.Target.TheVariants as target
use Rattle.iam_open.specs.InQuestion.{IsInQuestion, at_moment}
use Rattle.iam_open.specs.Code.Known.{Follows}
use Rattle.iam_open.specs.Code.Tried.{AreKnownAt, derived_known}
use Rattle.iam_open.proofs.ListLemmas.{neither, neither_is}
use Rattle.iam_open.proofs.TriedLemmas.{none_tried}
use Rattle.iam_open.proofs.TurnLemmas.{OneStamp, turn_agrees}
use Rattle.iam_open_every.specs.Alike.{AreReadAlikeBy}
use Rattle.iam_open_every.specs.Concerned.{AreConcerned}
use Rattle.iam_open_every.specs.Groups.{groups_at}
use Rattle.iam_open_every.specs.Looked.{AgreeingTextsAreTurnedAlike, AreGroupsSeen, ContextsInQuestionFollow, IsContextSeen, IsLookedAt, IsSeen}
use Rattle.iam_open_every.proofs.GroupLemmas.{agreeing_texts}
use Rattle.iam_open_every.proofs.TurnedLemmas.{by_text, said_too, turned_alike}

-- ---- what is clean with further keys is clean without them
any_front : {X Y : Type 0} (test : Y → Bool) (f : X → Y) (xs ys : List X) → list_any test (map f (xs ++ ys)) ≡ false → list_any test (map f xs) ≡ false
any_front test f [] ys free = refl
any_front test f (x ∷ xs) ys free =
    let (first, rest) = neither (test (f x)) (list_any test (map f (xs ++ ys))) free in
    neither_is (test (f x)) (list_any test (map f xs)) first (any_front test f xs ys rest)

twice_front : (xs ys : ContextValue) → has_twice (keys_of (xs ++ ys)) ≡ false → has_twice (keys_of xs) ≡ false
twice_front [] ys free = refl
twice_front (x ∷ xs) ys free =
    let (first, rest) = neither (has_key (keys_of (xs ++ ys)) x.0) (has_twice (keys_of (xs ++ ys))) free in
    neither_is (has_key (keys_of xs) x.0) (has_twice (keys_of xs)) (any_front (λ k. is_same_key k x.0) (λ (e : _). e.0) xs ys first) (twice_front xs ys rest)

clean_front : (xs ys : ContextValue) → IsClean [] (xs ++ ys) → IsClean [] xs
clean_front xs ys clean KeyTwice =
    let (others, twice) = neither (list_any (has_key []) (keys_of (xs ++ ys))) (has_twice (keys_of (xs ++ ys))) (clean KeyTwice) in
    neither_is (list_any (has_key []) (keys_of xs)) (has_twice (keys_of xs)) (any_front (has_key []) (λ (e : _). e.0) xs ys others) (twice_front xs ys twice)
clean_front xs ys clean DerivedKeyGiven = any_front (has_key derived_names) (λ (e : _). e.0) xs ys (clean DerivedKeyGiven)
clean_front xs ys clean OutOfMemory = refl

own_last : (w p r own : ContextValue) → all_of (w ∷ (p ∷ (r ∷ (own ∷ [])))) ≡ all_of (w ∷ (p ∷ (r ∷ ([] ∷ [])))) ++ own
own_last w p r own = simp (append-nil, append_assoc) refl

clean_alone : (world : WorldValue) (p r : ℕ) (own : ContextValue) → IsCleanAt world p r own → IsCleanAt world p r []
clean_alone world p r own (principal, at, (resource, there, clean)) = (
  principal,
  at,
  (
    resource,
    there,
    clean_front (all_of (world.context ∷ (principal.context ∷ (resource.context ∷ ([] ∷ []))))) own
        (subst (λ (c : ContextValue). IsClean [] c) (own_last world.context principal.context resource.context own) clean),
  ),
)

-- ---- the context that is looked at, and those in question
-- the last resource of a world
is_last : (world : WorldValue) (action : List ℕ) (resource found : ResourceValue)
    → slice_get (world_and world action resource).resources (length world.resources) ≡ Some found → found ≡ resource
is_last world action resource found there =
    one_some (slice_get (world.resources ++ resource ∷ []) (length world.resources)) found resource there (last world.resources resource)

-- what is seen does not depend on the text
seen_too : (world : WorldValue) (action text : List ℕ) (p : ℕ) (a : ApplicableValue) (looked : AccessValue) (known : List (List ℕ))
    (resource : ResourceValue) → IsSeen (world_and world action (by_text text resource)) p (length world.resources) a looked known
    → IsSeen (world_and world action resource) p (length world.resources) a looked known
seen_too world action text p a looked known resource seen =
    let w = world_and world action resource in
    let here = by_text text resource in
    let derived = seen.derived in
    let (q, at_q, (x, at_x, keys)) = seen.keys in
    let (s, at_s, (y, at_y, context)) = seen.context in
    let (t, at_t, (z, at_z, known_are)) = seen.known_are in
    let (u, at_u, (v, at_v, applies)) = seen.applies in
    let there = last world.resources resource in record {
      derived = derived;
      keys = (
        q,
        at_q,
        (resource, there, subst (λ (o : ResourceValue). IsDerived (at_moment w w.moment) q o derived) (is_last world action here x at_x) keys),
      );
      context = (
        s,
        at_s,
        (
          resource,
          there,
          context ∙ ap (λ (o : ResourceValue). joined (given_with w s o []) derived) (is_last world action here y at_y),
        ),
      );
      known_are = (
        t,
        at_t,
        (
          resource,
          there,
          known_are
              ∙ ap (λ (o : ResourceValue). keys_of w.context ++ (keys_of t.context ++ (keys_of o.context ++ derived_known None)))
              (is_last world action here z at_z),
        ),
      );
      who = seen.who;
      applies =
          (u, at_u, (resource, there, applies ∙ ap (λ (o : ResourceValue). applicable_of w u o) (is_last world action here v at_v)));
    }

-- where it asks for the last resource of such a world
follows_by : OneStamp → (world : WorldValue) (p : ℕ) (a : ApplicableValue) (looked : AccessValue) (known : List (List ℕ)) (action : List ℕ)
    (own : ContextValue) (moment : ℕ) (applicable : ApplicableValue) (access : AccessValue) (resource : ResourceValue)
    → IsSeen (world_and world action resource) p (length world.resources) a looked known
    → IsInQuestion (world_and world action resource ∷ []) (world_and world action resource) p (length world.resources) own moment
    → IsOwnAccess (at_moment (world_and world action resource) moment) p (length world.resources) own applicable access
    → Follows known looked.context access.context × (access.requester ≡ looked.requester) × (applicable ≡ a)
follows_by one world p a looked known action own moment applicable access resource seen question (other, is_other, is_access) =
    let n = length world.resources in
    let w = world_and world action resource in
    let (agree, later, (s, at_s, (y, at_y, applies)), (t, at_t, who), what) =
    turn_agrees one w p n [] looked.context seen.derived None world.moment known tt (clean_alone w p n own question.clean) seen.keys seen.context
    seen.known_are own moment question.clean (none_tried own moment) other is_other applicable access is_access in
    let since : world.moment ≤ moment = question.given.from 0 w (omega arith) in
    let (q, at_q, was) = seen.who in
    let (u, at_u, (v, at_v, applied)) = seen.applies in
    let t_is : t ≡ q = one_some (slice_get world.principals p) t q at_t at_q in
    let s_is : s ≡ u = one_some (slice_get world.principals p) s u at_s at_u in
    let y_is : y ≡ v = is_last world action resource y at_y ∙ sym (is_last world action resource v at_v) in (
      record { agree = agree; later = later since },
      who ∙ ap (λ (z : PrincipalValue). z.requester) t_is ∙ sym was,
      applies ∙ ap (λ (z : PrincipalValue). applicable_of w z y) s_is ∙ ap (λ (z : ResourceValue). applicable_of w u z) y_is ∙ sym applied,
    )

pub contexts_follow : OneStamp → ContextsInQuestionFollow
contexts_follow one world p unnamed a looked known action text own moment applicable access at (resource, said, (question, asked)) =
    let seen = at.seen action (by_text at.text resource) (said_too world unnamed text at.text resource said) in
    follows_by one world p a looked known action own moment applicable access resource (seen_too world action at.text p a looked known resource seen)
    question asked

pub agreeing_turned : OneStamp → AlikeTextsDecideAlike → AgreeingTextsAreTurnedAlike
agreeing_turned one decide world p unnamed a looked known found groups action text other at are tell agree =
    turned_alike decide world p unnamed action text other (λ own moment applicable access asked.
    let (follows, who, same) = contexts_follow one world p unnamed a looked known action text own moment applicable access at asked in
    subst (λ (x : ApplicableValue). AreReadAlikeBy x access action text other) (sym same)
    (agreeing_texts a looked access known found groups action text other are tell who follows agree))

-- the same said of a value, if there is one
pub some_weaker : {T : Type 0} (P Q : T → Type 0) → ((x : T) → P x → Q x) → (o : Option T) → IfSome o P → IfSome o Q
some_weaker P Q on None some = tt
some_weaker P Q on (Some x) some = on x some

-- the groups that are seen, if there are some
pub groups_seen : {X : Type 0} (f : X → List (List (List Sign))) (world : WorldValue) (p r : ℕ) (a : ApplicableValue) (looked : AccessValue)
    (known : List (List ℕ)) (found : List Placed) → IsSeen world p r a looked known → AreConcerned looked known (placed a) found → (o : Option X)
    → option_map f o ≡ groups_at known looked.context found → IfSome o (λ x. AreGroupsSeen world p r (f x))
groups_seen f world p r a looked known found seen are None is = tt
groups_seen f world p r a looked known found seen are (Some x) is = (a, looked, known, found, seen, are, sym is)

-- what is asked of a scene whose resource the world does not name
pub scene_looked : (world : WorldValue) (p : ℕ) (t : Target) (unnamed : Unnamed) (text : _) (a : ApplicableValue) (looked : AccessValue)
    (none : ContextValue) (known : List (List ℕ)) → t ≡ target.Unnamed unnamed text → none ≡ []
    → ((other : WorldValue) (r : ℕ) → IsSeat world t other r → IsContextSeen other p r looked.context)
    → ((other : WorldValue) (r : ℕ) → IsSeat world t other r → AreKnownAt other p r none None known)
    → ((other : WorldValue) (r : ℕ) → IsSeat world t other r → IsPrincipal other p (λ principal. looked.requester ≡ principal.requester))
    → ((other : WorldValue) (r : ℕ) → IsSeat world t other r → IsApplicableAt other p r a)
    → IsLookedAt world p unnamed a looked known
scene_looked world p t unnamed text a looked none known is empty context known_are who applies = record {
  text = text.now;
  seen = λ action resource said.
      let w = world_and world action resource in
      let n = length world.resources in
      let seat : IsSeat world t w n = subst (λ (x : Target). IsSeat world x w n) (sym is) (action, resource, said, refl, refl) in
      let (derived, keys, own) = context w n seat in record {
        derived = derived;
        keys = keys;
        context = own;
        known_are = subst (λ (x : ContextValue). AreKnownAt w p n x None known) empty (known_are w n seat);
        who = who w n seat;
        applies = applies w n seat;
      };
}
