-- Requests in contexts in question, and what they have in common with the one that is looked at.
use Rattle.std.proofs.Common.{◌≡◌, ◌∙◌, ◌<◌, ◌≤◌, inr, ℕ, ℤ, pos, List, [], ◌∷◌, ◌++◌, Bool, true, false, Option, Some, None, IfSome, ap, codes, decimal, refl, set, sym, subst, take, append_assoc}
use Rattle.std.proofs.lemmas.List.{append-nil, get_or-set_same, length-set, map-append}
use Rattle.std.proofs.lemmas.List.Folds.{list_any-append}
use Rattle.std.proofs.lemmas.Option.{slice_get-get_or, slice_get_within}
use Rattle.std.specs.List.{list_any, slice_get}
use Rattle.iam_context.specs.Context.{ContextValue, derived_names, has_key, joined, keys_of, values_of}
use Rattle.iam_context.specs.declared.fault.ContextFault.TheVariants.{DerivedKeyGiven}
use Rattle.iam_decision.specs.Applicable.{ApplicableValue}
use Rattle.iam_layers.specs.Applicable.{applicable_of}
use Rattle.iam_layers.specs.Cell.{IsAccessAt, IsApplicableAt, IsDerivedAt, IsPrincipal, IsResource}
use Rattle.iam_layers.specs.Derived.{derived_of, key, moment_keys, requester_keys, username_key, word_of}
use Rattle.iam_layers.specs.Own.{IsCleanAt, IsOwnContext, IsWorldWith}
use Rattle.iam_layers.proofs.VerdictLemmas.{one_some}
use Rattle.iam_match.specs.Requester.{RequesterValue, requester_arn, username_of}
use Rattle.iam_match.specs.Statement.{AccessValue}
use Rattle.iam_open.specs.InQuestion.{at_moment}
use Rattle.iam_open.specs.Code.Known.{AgreeOn}
use Rattle.iam_open.specs.Code.Time.{IsAtMoment, IsNoEarlier, time_key}
use Rattle.iam_open.specs.Code.Tried.{AreKnownAt, IsTried, derived_known}
use Rattle.iam_open.proofs.ContextLemmas.{AreNotOf, AreOf, are_not_of, are_of, front_has_not, front_same, not_derived, turns_agree}
use Rattle.iam_open.proofs.AgreeLemmas.{no_values}
use Rattle.iam_open.proofs.ListLemmas.{neither, neither_is}
use Rattle.iam_value.specs.Moment.{IsStamp}
use Rattle.iam_world.specs.World.{PrincipalValue, ResourceValue, WorldValue}

abbrev pub OneStamp : Type 0
OneStamp = (seconds : ℤ) (text other : List ℕ) → IsStamp seconds text → IsStamp seconds other → text ≡ other

-- ---- derived keys

time_names : List (List ℕ)
time_names = codes "aws:CurrentTime" ∷ (codes "aws:EpochTime" ∷ [])

derived_with : Option (List ℕ) → List ℕ → List ℕ → List ℕ → List ℕ → List ℕ → List ℕ → ContextValue
derived_with username a b c d e f =
    (key (codes "aws:PrincipalArn") a ++ (username_key username ++ (key (codes "aws:PrincipalType") b ++ key (codes "aws:PrincipalAccount") c)))
    ++ (key (codes "aws:ResourceAccount") d ++ (key (codes "aws:CurrentTime") e ++ key (codes "aws:EpochTime") f))

named_are : (username : Option (List ℕ)) (a b c d e f : List ℕ) → AreOf (keys_of (derived_with username a b c d e f)) derived_names
unfolding derived_with
named_are (Some name) a b c d e f = are_of (keys_of (derived_with (Some name) a b c d e f)) derived_names refl
named_are None a b c d e f = are_of (keys_of (derived_with None a b c d e f)) derived_names refl

pub derived_are : (r : RequesterValue) (account : List ℕ) (moment : ℕ) (stamp : List ℕ) → AreOf (keys_of (derived_of r account moment stamp)) derived_names
unfolding derived_with
derived_are r account moment stamp =
    named_are (username_of r) (requester_arn r) (word_of (username_of r)) r.account account stamp (decimal moment)

-- the time is that of the moment
time_with : (username : Option (List ℕ)) (a b c d e f : List ℕ) → values_of (derived_with username a b c d e f) time_key ≡ e ∷ []
unfolding derived_with
time_with (Some name) a b c d e f = refl
time_with None a b c d e f = refl

time_derived : (r : RequesterValue) (account : List ℕ) (moment : ℕ) (stamp : List ℕ)
    → values_of (derived_of r account moment stamp) time_key ≡ stamp ∷ []
unfolding derived_with
time_derived r account moment stamp =
    time_with (username_of r) (requester_arn r) (word_of (username_of r)) r.account account stamp (decimal moment)

-- those that do not follow from the moment are the same at another
timeless_same : (r : RequesterValue) (account : List ℕ) (moment later : ℕ) (stamp other k : List ℕ) → has_key (take 5 derived_names) k ≡ true
    → values_of (derived_of r account moment stamp) k ≡ values_of (derived_of r account later other) k
unfolding time_names
timeless_same r account moment later stamp other k is =
    let own = key (codes "aws:ResourceAccount") account in
    let free : has_key time_names k ≡ false = are_not_of (take 5 derived_names) time_names refl k is in
    front_same (requester_keys r) (own ++ moment_keys moment stamp) (own ++ moment_keys later other) k
    (front_same own (moment_keys moment stamp) (moment_keys later other) k
    (no_values (moment_keys moment stamp) k free ∙ sym (no_values (moment_keys later other) k free)))

timeless_are : AreOf (take 5 derived_names) derived_names
timeless_are = are_of (take 5 derived_names) derived_names refl

all_are : AreOf derived_names derived_names
all_are = λ k is. is

known_are : (at : Option ℕ) → AreOf (derived_known at) derived_names
known_are (Some moment) = all_are
known_are None = timeless_are

-- those that are known have the same values in each of the contexts
pub known_same : OneStamp → (r : RequesterValue) (account : List ℕ) (at : Option ℕ) (now moment : ℕ) (stamp other : List ℕ)
    → IfSome at (λ tried. now ≡ tried) → IfSome at (λ tried. moment ≡ tried) → IsStamp (pos now) stamp → IsStamp (pos moment) other
    → (k : List ℕ) → has_key (derived_known at) k ≡ true
    → values_of (derived_of r account now stamp) k ≡ values_of (derived_of r account moment other) k
known_same one r account None now moment stamp other from to is is' k known = timeless_same r account now moment stamp other k known
known_same one r account (Some t) now moment stamp other from to is is' k known =
    let same : now ≡ moment = from ∙ sym to in
    let stamps : stamp ≡ other = one (pos moment) stamp other (subst (λ (n : ℕ). IsStamp (pos n) stamp) same is) is' in
    ap (λ n. values_of (derived_of r account n stamp) k) same ∙ ap (λ s. values_of (derived_of r account moment s) k) stamps

-- ---- keys of a request's own

parted : (test : List ℕ → Bool) (a b : ContextValue) → list_any test (keys_of (a ++ b)) ≡ false
    → (list_any test (keys_of a) ≡ false) × (list_any test (keys_of b) ≡ false)
parted test a b free =
    neither (list_any test (keys_of a)) (list_any test (keys_of b))
    (sym (ap (list_any test) (map-append (λ (e : List ℕ × List (List ℕ)). e.0) a b) ∙ list_any-append test (keys_of a) (keys_of b)) ∙ free)

together : (test : List ℕ → Bool) (a b : ContextValue) → list_any test (keys_of a) ≡ false → list_any test (keys_of b) ≡ false
    → list_any test (keys_of (a ++ b)) ≡ false
together test a b one other =
    ap (list_any test) (map-append (λ (e : List ℕ × List (List ℕ)). e.0) a b) ∙ list_any-append test (keys_of a) (keys_of b)
    ∙ neither_is (list_any test (keys_of a)) (list_any test (keys_of b)) one other

pub own_free : (world : WorldValue) (p r : ℕ) (own : ContextValue) → IsCleanAt world p r own → AreNotOf (keys_of own) derived_names
own_free world p r own (principal, at, (resource, there, clean)) =
    let test = has_key derived_names in
    let whole = clean DerivedKeyGiven in
    let behind_world = (parted test world.context (principal.context ++ (resource.context ++ (own ++ []))) whole).1 in
    let behind_principal = (parted test principal.context (resource.context ++ (own ++ [])) behind_world).1 in
    let behind_resource = (parted test resource.context (own ++ []) behind_principal).1 in
    are_not_of (keys_of own) derived_names (parted test own [] behind_resource).0

-- ---- the contexts

abbrev pub given_of : WorldValue → PrincipalValue → ResourceValue → ContextValue
given_of world principal resource = world.context ++ (principal.context ++ resource.context)

given_free : (world : WorldValue) (p r : ℕ) (own : ContextValue) (q : PrincipalValue) (s : ResourceValue) → slice_get world.principals p ≡ Some q
    → slice_get world.resources r ≡ Some s → IsCleanAt world p r own → AreNotOf (keys_of (given_of world q s)) derived_names
given_free world p r own q s at_q at_s (principal, at, (resource, there, clean)) =
    let test = has_key derived_names in
    let whole = clean DerivedKeyGiven in
    let by_world = parted test world.context (principal.context ++ (resource.context ++ (own ++ []))) whole in
    let by_principal = parted test principal.context (resource.context ++ (own ++ [])) by_world.1 in
    let by_resource = parted test resource.context (own ++ []) by_principal.1 in
    let free = together test world.context (principal.context ++ resource.context) by_world.0
    (together test principal.context resource.context by_principal.0 by_resource.0) in
    let q_is : principal ≡ q = one_some (slice_get world.principals p) principal q at at_q in
    let s_is : resource ≡ s = one_some (slice_get world.resources r) resource s there at_s in
    let here = subst (λ (y : PrincipalValue). list_any test (keys_of (given_of world y resource)) ≡ false) q_is free in
    are_not_of (keys_of (given_of world q s)) derived_names
    (subst (λ (y : ResourceValue). list_any test (keys_of (given_of world q y)) ≡ false) s_is here)

-- a context whose other parts have no derived key is at the moment of these
at_this : (given own : ContextValue) (r : RequesterValue) (account : List ℕ) (moment : ℕ) (stamp : List ℕ) → AreNotOf (keys_of given) derived_names
    → AreNotOf (keys_of own) derived_names → IsStamp (pos moment) stamp → IsAtMoment (given ++ (own ++ derived_of r account moment stamp)) moment
at_this given own r account moment stamp given_free own_free is = (
  stamp,
  front_has_not given (own ++ derived_of r account moment stamp) time_key (not_derived given time_key given_free refl)
      ∙ front_has_not own (derived_of r account moment stamp) time_key (not_derived own time_key own_free refl)
      ∙ time_derived r account moment stamp,
  inr (inr is.1),
)

looked_at : (w p r own d : ContextValue) → joined (w ∷ (p ∷ (r ∷ (own ∷ [])))) d ≡ (w ++ (p ++ r)) ++ (own ++ d)
looked_at w p r own d = simp (append-nil, append_assoc) refl

pub in_question : (w p r own d : ContextValue) → joined (w ∷ (p ∷ ((r ++ own) ∷ []))) d ≡ (w ++ (p ++ r)) ++ (own ++ d)
in_question w p r own d = simp (append-nil, append_assoc) refl

pub keys_of_given : (w p r : ContextValue) (rest : List (List ℕ))
    → keys_of w ++ (keys_of p ++ (keys_of r ++ rest)) ≡ keys_of (w ++ (p ++ r)) ++ rest
keys_of_given w p r rest = simp (map-append, append_assoc) refl

-- what is put at a place stands there
pub put_there : {A : Type 0} (xs : List A) (i : ℕ) (x y z : A) → slice_get xs i ≡ Some x → slice_get (set xs i y) i ≡ Some z → z ≡ y
put_there xs i x y z at there =
    let within = slice_get_within xs i x at in
    let long = subst (λ n. i < n) (sym (length-set xs i y)) within in
    one_some (slice_get (set xs i y) i) z y there (slice_get-get_or (set xs i y) i y long ∙ ap Some (get_or-set_same xs i y y within))

pub turn_agrees : OneStamp → (world : WorldValue) (p r : ℕ) (tried base derived : ContextValue) (at : Option ℕ) (now : ℕ) (known : List (List ℕ))
    → IfSome at (λ tried. now ≡ tried) → IsCleanAt world p r tried → IsDerivedAt (at_moment world now) p r derived
    → IsOwnContext world p r tried derived base → AreKnownAt world p r tried at known
    → (own : ContextValue) (moment : ℕ) → IsCleanAt world p r own → IsTried tried at own moment
    → (other : WorldValue) → IsWorldWith (at_moment world moment) r own other
    → (applicable : ApplicableValue) (access : AccessValue) → IsAccessAt other p r applicable access
    → AgreeOn known base access.context × (now ≤ moment → IsNoEarlier base access.context) × IsApplicableAt world p r applicable
    × IsPrincipal world p (λ principal. access.requester ≡ principal.requester) × IsResource world r (λ resource. access.resource ≡ resource.arn)
turn_agrees one world p r tried base derived at now known from clean (q, at_q, (s, at_s, (stamp, stamped, derived_is)))
    (q2, a2, (s2, b2, base_is)) (q3, a3, (s3, b3, known_is)) own moment own_clean was_tried other (x, there, other_is) applicable access is_access =
    let more : ResourceValue → ResourceValue = λ y. record y { context = y.context ++ own } in
    let wide : WorldValue = record world { moment = moment; resources = set world.resources r (more x) } in
    let asked : IsAccessAt wide p r applicable access = subst (λ (w : WorldValue). IsAccessAt w p r applicable access) other_is is_access in
    let q_is : asked.principal ≡ q = one_some (slice_get world.principals p) asked.principal q asked.principal_is at_q in
    let x_is : x ≡ s = one_some (slice_get world.resources r) x s there at_s in
    let s_is : asked.resource ≡ more s = put_there world.resources r x (more x) asked.resource there asked.resource_is ∙ ap more x_is in
    let (stamp', stamped', derived_is') = asked.derived_is in
    let later = derived_of q.requester s.account moment stamp' in
    let later_is : asked.derived ≡ later =
    derived_is' ∙ ap (λ (y : PrincipalValue). derived_of y.requester asked.resource.account moment stamp') q_is
    ∙ ap (λ (y : ResourceValue). derived_of q.requester y.account moment stamp') s_is in
    let given = given_of world q s in
    let there_is : access.context ≡ given ++ (own ++ later) =
    ap (λ (y : AccessValue). y.context) asked.access_is
    ∙ ap (λ (y : PrincipalValue). joined (world.context ∷ (y.context ∷ (asked.resource.context ∷ []))) asked.derived) q_is
    ∙ ap (λ (y : ResourceValue). joined (world.context ∷ (q.context ∷ (y.context ∷ []))) asked.derived) s_is
    ∙ ap (λ (d : ContextValue). joined (world.context ∷ (q.context ∷ ((s.context ++ own) ∷ []))) d) later_is
    ∙ in_question world.context q.context s.context own later in
    let q2_is : q2 ≡ q = one_some (slice_get world.principals p) q2 q a2 at_q in
    let s2_is : s2 ≡ s = one_some (slice_get world.resources r) s2 s b2 at_s in
    let first = derived_of q.requester s.account now stamp in
    let here_is : base ≡ given ++ (tried ++ first) =
    base_is
    ∙ ap (λ (y : PrincipalValue). joined (world.context ∷ (y.context ∷ (s2.context ∷ (tried ∷ [])))) derived) q2_is
    ∙ ap (λ (y : ResourceValue). joined (world.context ∷ (q.context ∷ (y.context ∷ (tried ∷ [])))) derived) s2_is
    ∙ ap (λ (d : ContextValue). joined (world.context ∷ (q.context ∷ (s.context ∷ (tried ∷ [])))) d) derived_is
    ∙ looked_at world.context q.context s.context tried first in
    let q3_is : q3 ≡ q = one_some (slice_get world.principals p) q3 q a3 at_q in
    let s3_is : s3 ≡ s = one_some (slice_get world.resources r) s3 s b3 at_s in
    let rest = keys_of tried ++ derived_known at in
    let keys_are : known ≡ keys_of given ++ rest =
    known_is
    ∙ ap (λ (y : PrincipalValue). keys_of world.context ++ (keys_of y.context ++ (keys_of s3.context ++ rest))) q3_is
    ∙ ap (λ (y : ResourceValue). keys_of world.context ++ (keys_of q.context ++ (keys_of y.context ++ rest))) s3_is
    ∙ keys_of_given world.context q.context s.context rest in
    let free = given_free world p r tried q s at_q at_s clean in
    let here_at = at_this given tried q.requester s.account now stamp free (own_free world p r tried clean) stamped in
    let there_at = at_this given own q.requester s.account moment stamp' free (own_free world p r own own_clean) stamped' in
    let agree : AgreeOn (keys_of given ++ rest) (given ++ (tried ++ first)) (given ++ (own ++ later)) =
    turns_agree given tried own first later (derived_known at) (own_free world p r tried clean) (own_free world p r own own_clean)
    (derived_are q.requester s.account now stamp) (derived_are q.requester s.account moment stamp') was_tried.keys (known_are at)
    (known_same one q.requester s.account at now moment stamp stamp' from was_tried.tried stamped stamped') in (
      subst (λ (k : List (List ℕ)). AgreeOn k base access.context) (sym keys_are)
          (subst (λ (c : ContextValue). AgreeOn (keys_of given ++ rest) c access.context) (sym here_is)
          (subst (λ (c : ContextValue). AgreeOn (keys_of given ++ rest) (given ++ (tried ++ first)) c) (sym there_is) agree)),
      (λ since. (
        now,
        moment,
        since,
        subst (λ (c : ContextValue). IsAtMoment c now) (sym here_is) here_at,
        subst (λ (c : ContextValue). IsAtMoment c moment) (sym there_is) there_at,
      )),
      (
        q,
        at_q,
        (
          s,
          at_s,
          asked.applicable_is ∙ ap (λ (y : PrincipalValue). applicable_of wide y asked.resource) q_is
              ∙ ap (λ (y : ResourceValue). applicable_of wide q y) s_is,
        ),
      ),
      (q, at_q, ap (λ (y : AccessValue). y.requester) asked.access_is ∙ ap (λ (y : PrincipalValue). y.requester) q_is),
      (s, at_s, ap (λ (y : AccessValue). y.resource) asked.access_is ∙ ap (λ (y : ResourceValue). y.arn) s_is),
    )
