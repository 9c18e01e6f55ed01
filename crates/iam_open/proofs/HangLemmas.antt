-- What it hangs on whether a request is allowed.
use Rattle.std.proofs.Common.{◌≡◌, ◌∙◌, ◌≤◌, ℕ, inl, inr, List, [], ◌∷◌, ◌++◌, All, Bool, true, false, ◌||◌, Some, None, ap, codes, pos, refl, set, subst, sym, take}
use Rattle.std.specs.List.{Contains, flat_map, slice_get}
use Rattle.iam_context.specs.Context.{ContextValue, derived_names, has_key, is_same_key, joined, keys_of, values_of}
use Rattle.iam_decision.specs.Applicable.{ApplicableValue, frame_of}
use Rattle.iam_decision.specs.Decision.{Allows, AllowsAt, Grants, GrantsAtLeast, IsDecision, Says}
use Rattle.iam_decision.specs.Laws.{OneDecision}
use Rattle.iam_decision.specs.Matched.{IsMatched, Placed, placed}
use Rattle.iam_decision.specs.declared.place.Place.{Place}
use Rattle.iam_decision.specs.declared.verdict.Decision.TheVariants.{Allowed}
use Rattle.iam_layers.specs.Applicable.{applicable_of}
use Rattle.iam_layers.specs.Cell.{IsAccessAt, IsApplicableAt, IsDerivedAt}
use Rattle.iam_layers.specs.Derived.{context_of, derived_of}
use Rattle.iam_layers.specs.Own.{IsCleanAt, IsWorldWith, given_with}
use Rattle.iam_layers.proofs.VerdictLemmas.{one_some}
use Rattle.iam_match.specs.Requester.{RequesterValue}
use Rattle.iam_match.specs.Statement.{AccessValue, RequestValue}
use Rattle.iam_open.specs.Asks.{all_added, keys_asked}
use Rattle.iam_open.specs.Code.Added.{AreListedIn, IsSameFrom, IsTold}
use Rattle.iam_open.specs.Code.Known.{AgreeOn, Follows}
use Rattle.iam_open.specs.Hangs.{AreAlikeOn, AreListed, HangsOn, HasTime, IsAskedIn, IsAsking, IsSettled, known_keys}
use Rattle.iam_open.specs.InQuestion.{IsAlways, IsNever, MayBeGiven, at_moment}
use Rattle.iam_open.proofs.AddLemmas.{any_on}
use Rattle.iam_open.proofs.AgreeLemmas.{same_in}
use Rattle.iam_open.proofs.BoundLemmas.{more_allowed}
use Rattle.iam_open.proofs.ContextLemmas.{AreNotOf, AreOf, back_has_none, front_has_not, front_same, has_of, none_derived, not_derived, second}
use Rattle.iam_open.proofs.ListedLemmas.{chosen_as}
use Rattle.iam_open.proofs.TriedLemmas.{all_are_tried, since_world}
use Rattle.iam_open.proofs.TurnLemmas.{OneStamp, derived_are, given_of, in_question, known_same, own_free, put_there}
use Rattle.iam_open.proofs.WhereLemmas.{IsLookedAt, asked, in_turn}
use Rattle.iam_policy.specs.declared.effect.Effect.TheVariants.{Deny}
use Rattle.iam_value.specs.Moment.{IsStamp}
use Rattle.iam_world.specs.World.{PrincipalValue, ResourceValue, WorldValue}

-- ---- keys that follow from the moment

abbrev time_keys : List (List ℕ)
time_keys = codes "aws:CurrentTime" ∷ (codes "aws:EpochTime" ∷ [])

-- a derived key that does not follow from the requester or the resource follows from the moment
of_time : (key : List ℕ) → has_key derived_names key ≡ true → has_key (take 5 derived_names) key ≡ false → has_key time_keys key ≡ true
of_time key derived free =
    second (has_key (take 5 derived_names) key) (has_key time_keys key) (sym (has_of (take 5 derived_names) time_keys key) ∙ derived) free

time_has : (keys : List (List ℕ)) (key : List ℕ) → has_key keys key ≡ true → has_key time_keys key ≡ true → HasTime keys
time_has keys key is of = go (is_same_key (codes "aws:CurrentTime") key) refl of
  where
    epoch : (b : Bool) → is_same_key (codes "aws:EpochTime") key ≡ b → (b || false) ≡ true → HasTime keys
    epoch true same either = inr (same_in keys (codes "aws:EpochTime") key same ∙ is)
    epoch false same either = absurd (let wrong : ⊥ = cc in wrong)

    go : (b : Bool) → is_same_key (codes "aws:CurrentTime") key ≡ b → (b || (is_same_key (codes "aws:EpochTime") key || false)) ≡ true → HasTime keys
    go true same either = inl (same_in keys (codes "aws:CurrentTime") key same ∙ is)
    go false same either = epoch (is_same_key (codes "aws:EpochTime") key) refl either

-- derived keys have the same values, where the moments are the same or the key is none of these
derived_same : OneStamp → (r : RequesterValue) (account : List ℕ) (early late : ℕ) (stamp other : List ℕ) (keys : List (List ℕ))
    → (HasTime keys → early ≡ late) → IsStamp (pos early) stamp → IsStamp (pos late) other → (key : List ℕ) → has_key derived_names key ≡ true
    → has_key keys key ≡ true → values_of (derived_of r account early stamp) key ≡ values_of (derived_of r account late other) key
derived_same one r account early late stamp other keys moments is is' key derived among = go (has_key (take 5 derived_names) key) refl
  where
    go : (b : Bool) → has_key (take 5 derived_names) key ≡ b
        → values_of (derived_of r account early stamp) key ≡ values_of (derived_of r account late other) key
    go true timeless = known_same one r account None early late stamp other tt tt is is' key timeless
    go false free =
        let same : early ≡ late = moments (time_has keys key among (of_time key derived free)) in
        known_same one r account (Some late) early late stamp other same refl is is' key derived

-- ---- contexts in question

-- contexts that begin with the same keys agree on these, where the own keys do and the derived ones
own_agree : (given one other before after : ContextValue) (keys : List (List ℕ)) → AreNotOf (keys_of one) derived_names
    → AreNotOf (keys_of other) derived_names → AreOf (keys_of before) derived_names → AreOf (keys_of after) derived_names → AgreeOn keys one other
    → ((key : List ℕ) → has_key derived_names key ≡ true → has_key keys key ≡ true → values_of before key ≡ values_of after key)
    → AgreeOn keys (given ++ (one ++ before)) (given ++ (other ++ after))
own_agree given one other before after keys one_free other_free before_of after_of same told key is =
    front_same given (one ++ before) (other ++ after) key (behind (has_key derived_names key) refl)
  where
    behind : (b : Bool) → has_key derived_names key ≡ b → values_of (one ++ before) key ≡ values_of (other ++ after) key
    behind true derived =
        front_has_not one before key (not_derived one key one_free derived) ∙ told key derived is
        ∙ sym (front_has_not other after key (not_derived other key other_free derived))
    behind false free =
        back_has_none one before key (none_derived before key before_of free) ∙ same key is
        ∙ sym (back_has_none other after key (none_derived after key after_of free))

-- the context of a request in question
record IsContextIn (world : WorldValue) (p r : ℕ) (own : ContextValue) (moment : ℕ) (context : ContextValue) : Type 0 where
  principal : PrincipalValue
  resource : ResourceValue
  stamp : List ℕ
  principal_is : slice_get world.principals p ≡ Some principal
  resource_is : slice_get world.resources r ≡ Some resource
  stamped : IsStamp (pos moment) stamp
  context_is : context ≡ given_of world principal resource ++ (own ++ derived_of principal.requester resource.account moment stamp)

context_in : (world : WorldValue) (p r : ℕ) (own : ContextValue) (moment : ℕ) (other : WorldValue) → IsWorldWith (at_moment world moment) r own other
    → (applicable : ApplicableValue) (access : AccessValue) → IsAccessAt other p r applicable access → IsContextIn world p r own moment access.context
context_in world p r own moment other (x, there, other_is) applicable access is_access =
    let more : ResourceValue → ResourceValue = λ y. record y { context = y.context ++ own } in
    let wide : WorldValue = record world { moment = moment; resources = set world.resources r (more x) } in
    let asked : IsAccessAt wide p r applicable access = subst (λ (w : WorldValue). IsAccessAt w p r applicable access) other_is is_access in
    let q = asked.principal in
    let x_is : asked.resource ≡ more x = put_there world.resources r x (more x) asked.resource there asked.resource_is in
    let (stamp, stamped, derived_is) = asked.derived_is in
    let later = derived_of q.requester x.account moment stamp in
    let later_is : asked.derived ≡ later = derived_is ∙ ap (λ (y : ResourceValue). derived_of q.requester y.account moment stamp) x_is in
    record {
      principal = q;
      resource = x;
      stamp = stamp;
      principal_is = asked.principal_is;
      resource_is = there;
      stamped = stamped;
      context_is = ap (λ (y : AccessValue). y.context) asked.access_is
          ∙ ap (λ (y : ResourceValue). joined (world.context ∷ (q.context ∷ (y.context ∷ []))) asked.derived) x_is
          ∙ ap (λ (d : ContextValue). joined (world.context ∷ (q.context ∷ ((x.context ++ own) ∷ []))) d) later_is
          ∙ in_question world.context q.context x.context own later;
    }

-- two that are alike on these keys agree on them
alike_agree : OneStamp → (world : WorldValue) (p r : ℕ) (keys : List (List ℕ)) (one other : ContextValue) (early late : ℕ)
    → IsCleanAt world p r one → IsCleanAt world p r other → AreAlikeOn keys one other early late → (first then : ContextValue)
    → IsContextIn world p r one early first → IsContextIn world p r other late then → AgreeOn keys first then
alike_agree stamps world p r keys one other early late one_clean other_clean alike first then here there =
    let q = here.principal in
    let s = here.resource in
    let q_is : there.principal ≡ q = one_some (slice_get world.principals p) there.principal q there.principal_is here.principal_is in
    let s_is : there.resource ≡ s = one_some (slice_get world.resources r) there.resource s there.resource_is here.resource_is in
    let before = derived_of q.requester s.account early here.stamp in
    let after = derived_of q.requester s.account late there.stamp in
    let then_is : then ≡ given_of world q s ++ (other ++ after) =
    there.context_is
    ∙ ap (λ (y : PrincipalValue). given_of world y there.resource ++ (other ++ derived_of y.requester there.resource.account late there.stamp)) q_is
    ∙ ap (λ (y : ResourceValue). given_of world q y ++ (other ++ derived_of q.requester y.account late there.stamp)) s_is in
    let agree : AgreeOn keys (given_of world q s ++ (one ++ before)) (given_of world q s ++ (other ++ after)) =
    own_agree (given_of world q s) one other before after keys (own_free world p r one one_clean) (own_free world p r other other_clean)
    (derived_are q.requester s.account early here.stamp) (derived_are q.requester s.account late there.stamp) alike.values
    (derived_same stamps q.requester s.account early late here.stamp there.stamp keys alike.moments here.stamped there.stamped) in
    subst (λ (c : ContextValue). AgreeOn keys c then) (sym here.context_is)
    (subst (λ (c : ContextValue). AgreeOn keys (given_of world q s ++ (one ++ before)) c) (sym then_is) agree)

-- ---- decisions

abbrev pub access_with : RequesterValue → List ℕ → ContextValue → AccessValue
access_with requester arn context = record { requester = requester; resource = arn; context = context }

-- each of the statements that matches the one request matches the other
abbrev MatchAlike : RequestValue → RequestValue → List Placed → Type 0
MatchAlike one other statements = All (λ s. IsMatched one s → IsMatched other s) statements

-- requests that the same statements match are allowed alike
allowed_alike : (a : ApplicableValue) (requester : RequesterValue) (arn action : List ℕ) (one other : ContextValue)
    → MatchAlike (asked requester arn action one) (asked requester arn action other) (placed a)
    → MatchAlike (asked requester arn action other) (asked requester arn action one) (placed a)
    → IsDecision a (asked requester arn action one) Allowed → IsDecision a (asked requester arn action other) Allowed
allowed_alike a requester arn action one other on back (free, allowed) =
    let first = asked requester arn action one in
    let then = asked requester arn action other in
    let On : Placed → Type 0 = λ s. IsMatched first s → IsMatched then s in
    let Back : Placed → Type 0 = λ s. IsMatched then s → IsMatched first s in (
      λ denies. free (any_on (Says then Deny) (Says first Deny) Back (placed a) back (λ s turn says. (turn says.0, says.1)) denies),
      more_allowed (Allows a first) (Allows a then) (Grants a first) (Grants a then) (frame_of a)
          (λ layer level.
          any_on (AllowsAt first layer level) (AllowsAt then layer level) On (placed a) on
          (λ s turn allows. ((turn allows.0.0, allows.0.1), allows.1, allows.2)))
          (λ least.
          any_on (GrantsAtLeast first least) (GrantsAtLeast then least) On (placed a) on
          (λ s turn grants. ((turn grants.0.0, grants.0.1), grants.1, grants.2))) allowed,
    )

same_applicable : (world : WorldValue) (p r : ℕ) (one other : ApplicableValue) → IsApplicableAt world p r one → IsApplicableAt world p r other
    → one ≡ other
same_applicable world p r one other (q, at_q, (s, at_s, is)) (q', at_q', (s', at_s', is')) =
    is ∙ ap (λ (y : PrincipalValue). applicable_of world y s) (one_some (slice_get world.principals p) q q' at_q at_q')
    ∙ ap (λ (y : ResourceValue). applicable_of world q' y) (one_some (slice_get world.resources r) s s' at_s at_s') ∙ sym is'

-- each statement that applies matches in both of two contexts that agree on what is known and on these keys, or in neither
abbrev pub AreSameHere : WorldValue → ℕ → ℕ → RequesterValue → List ℕ → List ℕ → List (List ℕ) → ContextValue → List (List ℕ) → Type 0
AreSameHere world p r requester arn action known base keys =
    (a : ApplicableValue) → IsApplicableAt world p r a
    → All (λ s. IsSameFrom known base keys (λ other. IsMatched (asked requester arn action other) s)) (placed a)

-- what is looked at is not later than a moment in question
since : (worlds : List WorldValue) (world : WorldValue) (now : ℕ) (own : ContextValue) (moment : ℕ) → now ≡ world.moment
    → MayBeGiven worlds own moment → Contains worlds world → now ≤ moment
since worlds world now own moment first given among =
    subst (λ (n : ℕ). n ≤ moment) (sym first) (since_world worlds world own moment given among)

pub hangs_on : OneStamp → OneDecision → (worlds : List WorldValue) (world : WorldValue) (p a r : ℕ) (none base derived : ContextValue) (now : ℕ)
    (known : List (List ℕ)) (requester : RequesterValue) (arn action : List ℕ) (keys : List (List ℕ))
    → IsLookedAt world p a r none base derived None now known requester arn action → now ≡ world.moment → Contains worlds world → none ≡ []
    → AreSameHere world p r requester arn action known base keys → HangsOn worlds world p a r keys
hangs_on stamps unique worlds world p a r none base derived now known requester arn action keys looked first among empty same one other early late decision here
    there alike (w, is_w, (applies, request, (access, text, is_access, is_action, request_is), decided))
    (w', is_w', (applies', request', (access', text', is_access', is_action', request_is'), decided')) =
    let (agree, later, at, is) =
    in_turn stamps world p a r none base derived None now known requester arn action looked one early here.clean (all_are_tried none one early empty) w
    is_w applies request access text is_access is_action request_is in
    let (agree', later', at', is') =
    in_turn stamps world p a r none base derived None now known requester arn action looked other late there.clean (all_are_tried none other late empty)
    w' is_w' applies' request' access' text' is_access' is_action' request_is' in
    let context = access.context in
    let context' = access'.context in
    let both : AgreeOn keys context context' =
    alike_agree stamps world p r keys one other early late here.clean there.clean alike context context'
    (context_in world p r one early w is_w applies access is_access) (context_in world p r other late w' is_w' applies' access' is_access') in
    let all = same applies at in
    let here_follows : Follows known base context = record { agree = agree; later = later (since worlds world now one early first here.given among) } in
    let there_follows : Follows known base context' = record { agree = agree'; later = later' (since worlds world now other late first there.given among) } in
    let allowed : IsDecision applies (asked requester arn action context') Allowed =
    allowed_alike applies requester arn action context context' (λ k d below. all k d below context context' here_follows there_follows both)
    (λ k d below. all k d below context' context there_follows here_follows (λ key is_key. sym (both key is_key)))
    (subst (λ (q : RequestValue). IsDecision applies q Allowed) is decided) in
    let decided_there : IsDecision applies (asked requester arn action context') decision =
    subst (λ (x : ApplicableValue). IsDecision x (asked requester arn action context') decision)
    (same_applicable world p r applies' applies at' at)
    (subst (λ (q : RequestValue). IsDecision applies' q decision) is' decided') in
    unique applies (asked requester arn action context') decision Allowed decided_there allowed

-- a request in a context in question is the one that is looked at but for its context
asked_in : OneStamp → (worlds : List WorldValue) (world : WorldValue) (p a r : ℕ) (none base derived : ContextValue) (now : ℕ)
    (known : List (List ℕ)) (requester : RequesterValue) (arn action : List ℕ)
    → IsLookedAt world p a r none base derived None now known requester arn action → now ≡ world.moment → Contains worlds world → none ≡ [] → (request : RequestValue)
    → IsAskedIn worlds world p a r request
    → (context : ContextValue) × Follows known base context × (request ≡ asked requester arn action context)
asked_in stamps worlds world p a r none base derived now known requester arn action looked first among empty request it =
    let (access, text, is_access, is_action, request_is) = it.is in
    let (agree, later, at, same) =
    in_turn stamps world p a r none base derived None now known requester arn action looked it.own it.moment it.question.clean
    (all_are_tried none it.own it.moment empty) it.other it.there it.applicable request access text is_access is_action request_is in
    (access.context, record { agree = agree; later = later (since worlds world now it.own it.moment first it.question.given among) }, same)

-- of a statement that is certain it is settled whether it matches
settled : OneStamp → (worlds : List WorldValue) (world : WorldValue) (p a r : ℕ) (none base derived : ContextValue) (now : ℕ)
    (known : List (List ℕ)) (requester : RequesterValue) (arn action : List ℕ)
    → IsLookedAt world p a r none base derived None now known requester arn action → now ≡ world.moment → Contains worlds world → none ≡ []
    → (s : Placed) → IsTold known (access_with requester arn base) action s → IsSettled worlds world p a r s
settled stamps worlds world p a r none base derived now known requester arn action looked first among empty s told = elim told [
  | inl always ↦ inl (λ request it.
      let (context, agree, same) = asked_in stamps worlds world p a r none base derived now known requester arn action looked first among empty request it in
      subst (λ (q : RequestValue). IsMatched q s) (sym same) (always context agree))
  | inr never ↦ inr (λ request it matches.
      let (context, agree, same) = asked_in stamps worlds world p a r none base derived now known requester arn action looked first among empty request it in
      never context agree (subst (λ (q : RequestValue). IsMatched q s) same matches))
]

-- what is looked at, at the world's moment and without keys of the request's own, is the request as the world gives it
as_given : (world : WorldValue) (p a r : ℕ) (none base derived : ContextValue) (now : ℕ) (known : List (List ℕ)) (requester : RequesterValue)
    (arn action : List ℕ) → IsLookedAt world p a r none base derived None now known requester arn action → now ≡ world.moment → none ≡ []
    → (applicable : ApplicableValue) × (it : IsAccessAt world p r applicable (access_with requester arn base))
    × (known ≡ known_keys world it.principal it.resource)
as_given world p a r none base derived now known requester arn action looked first empty =
    let (q, at_q, (s, at_s, derived_is)) = subst (λ (n : ℕ). IsDerivedAt (at_moment world n) p r derived) first looked.keys in
    let (q1, at_q1, (s1, at_s1, known_is)) = looked.known_are in
    let (q2, at_q2, who_is) = looked.who in
    let (s2, at_s2, what_is) = looked.what in
    let (q3, at_q3, (s3, at_s3, base_is)) = looked.context in
    let one_who = one_some (slice_get world.principals p) in
    let one_what = one_some (slice_get world.resources r) in
    let who : requester ≡ q.requester = who_is ∙ ap (λ (y : PrincipalValue). y.requester) (one_who q2 q at_q2 at_q) in
    let what : arn ≡ s.arn = what_is ∙ ap (λ (y : ResourceValue). y.arn) (one_what s2 s at_s2 at_s) in
    let context : base ≡ context_of world q s derived =
    base_is ∙ ap (λ (y : PrincipalValue). joined (given_with world y s3 none) derived) (one_who q3 q at_q3 at_q)
    ∙ ap (λ (y : ResourceValue). joined (given_with world q y none) derived) (one_what s3 s at_s3 at_s)
    ∙ ap (λ (own : ContextValue). joined (given_with world q s own) derived) empty in
    let of_parts : PrincipalValue → ResourceValue → ContextValue → List (List ℕ) = λ y z own.
    keys_of world.context ++ (keys_of y.context ++ (keys_of z.context ++ (keys_of own ++ take 5 derived_names))) in
    let keys : known ≡ known_keys world q s =
    known_is ∙ ap (λ (y : PrincipalValue). of_parts y s1 none) (one_who q1 q at_q1 at_q)
    ∙ ap (λ (y : ResourceValue). of_parts q y none) (one_what s1 s at_s1 at_s) ∙ ap (of_parts q s) empty in
    let access : IsAccessAt world p r (applicable_of world q s) (access_with requester arn base) = record {
      principal = q;
      resource = s;
      derived = derived;
      principal_is = at_q;
      resource_is = at_s;
      derived_is = derived_is;
      applicable_is = refl;
      access_is =
          ap (λ (y : RequesterValue). access_with y arn base) who ∙ ap (λ (y : List ℕ). access_with q.requester y base) what
          ∙ ap (access_with q.requester s.arn) context;
    } in
    (applicable_of world q s, access, keys)

-- the statements that are listed where this is looked at are those of the answer
pub listed_at : OneStamp → (worlds : List WorldValue) (world : WorldValue) (p a r : ℕ) (none base derived : ContextValue) (now : ℕ)
    (known : List (List ℕ)) (requester : RequesterValue) (arn action : List ℕ) (places : List Place) (keys : List (List ℕ))
    → IsLookedAt world p a r none base derived None now known requester arn action → now ≡ world.moment → Contains worlds world → none ≡ []
    → ((x : ApplicableValue) → IsApplicableAt world p r x → AreListedIn known (access_with requester arn base) action (placed x) places keys)
    → AreListed worlds world p a r places keys
listed_at stamps worlds world p a r none base derived now known requester arn action places keys looked first among empty told =
    let access = access_with requester arn base in
    let (applicable, it, here) = as_given world p a r none base derived now known requester arn action looked first empty in
    let found = told applicable (it.principal, it.principal_is, (it.resource, it.resource_is, it.applicable_is)) in
    let there = known_keys world it.principal it.resource in
    record {
      applicable = applicable;
      access = access;
      action = action;
      listed = found.listed;
      access_is = it;
      action_is = looked.does;
      chosen = chosen_as (λ x. IsAsking known access action x.statement) (IsTold known access action)
          (λ x. IsAsking there access action x.statement) (IsSettled worlds world p a r) (placed applicable) found.listed
          (λ x asking. subst (λ (ks : List (List ℕ)). IsAsking ks access action x.statement) here asking)
          (settled stamps worlds world p a r none base derived now known requester arn action looked first among empty) found.chosen;
      places_are = found.places_are;
      keys_are = found.keys_are
          ∙ ap (λ (ks : List (List ℕ)). all_added ks [] (flat_map (λ (x : Placed). keys_asked x.statement) found.listed)) here;
    }

-- what is always allowed hangs on no key, nor does what never is
pub always_hangs : (worlds : List WorldValue) (world : WorldValue) (p a r : ℕ) (keys : List (List ℕ)) → IsAlways worlds world p a r
    → HangsOn worlds world p a r keys
always_hangs worlds world p a r keys always one other early late decision here there alike first decided = always other late decision there decided

pub never_hangs : (worlds : List WorldValue) (world : WorldValue) (p a r : ℕ) (keys : List (List ℕ)) → IsNever worlds world p a r
    → HangsOn worlds world p a r keys
never_hangs worlds world p a r keys never one other early late decision here there alike first decided = absurd (never one early here first)
