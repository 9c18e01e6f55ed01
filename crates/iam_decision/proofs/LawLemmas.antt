-- Policies under which what has to allow does so only where it does under others, and what follows from that.
use Rattle.std.proofs.Common.{◌≡◌, ◌⊎◌, inl, inr, ℕ, suc, zero, ◌<◌, ◌≤◌, List, [], ◌∷◌, Some, true, false, length, get_or, refl, sym, ap, ◌∙◌, subst, arith}
use Rattle.std.specs.List.{Contains}
use Rattle.std.specs.Option.{is_some, option_to_list}
use Rattle.std.proofs.lemmas.List.{append-nil, get_or_default}
use Rattle.std.proofs.lemmas.List.Elements.{Contains-get_or}
use Rattle.iam_policy.specs.Reading.{PolicyValue, StatementValue}
use Rattle.iam_policy.specs.declared.effect.Effect.{Effect}
use Rattle.iam_policy.specs.declared.effect.Effect.TheVariants.{Allow, Deny}
use Rattle.iam_match.specs.Principal.{grant_of, rank}
use Rattle.iam_match.specs.Statement.{RequestValue}
use Rattle.iam_match.specs.declared.principal.Grant.{Grant}
use Rattle.iam_match.specs.declared.principal.Grant.TheVariants.{Account, Role, Direct}
use Rattle.iam_decision.specs.Applicable.{ApplicableValue, frame_of, has_policies}
use Rattle.iam_decision.specs.Decision.{Allows, BoundaryHolds, Denies, Grants, IsAllowed, IsDecision, LevelsHold, SessionHolds}
use Rattle.iam_decision.specs.Laws
use Rattle.iam_decision.specs.Laws.{HasFurtherLimits, IsGrantedInAccount, SomeGrants, SomeSays, levels_of, statements_at, statements_of}
use Rattle.iam_decision.specs.declared.frame.Frame.{Frame}
use Rattle.iam_decision.specs.declared.place.Layer.{Layer}
use Rattle.iam_decision.specs.declared.place.Layer.TheVariants.{Org, Control, Resource, Identity, Boundary, Session}
use Rattle.iam_decision.specs.declared.verdict.Decision.{Decision}
use Rattle.iam_decision.specs.declared.verdict.Decision.TheVariants.{Allowed, ExplicitDeny, ImplicitDeny}
use Rattle.iam_decision.proofs.StandingLemmas.{DeniesSomewhere, allows_same, denies_same, grants_same}

-- the decision where a statement denies
pub deny_wins : Laws.DenyWins
deny_wins a q layer level ExplicitDeny some h = refl
deny_wins a q layer level Allowed some h = absurd (h.0 ((denies_same a q).1 (layer, level, some)))
deny_wins a q layer level ImplicitDeny some h = absurd (h.0 ((denies_same a q).1 (layer, level, some)))

pub only_deny_denies : Laws.OnlyDenyDenies
only_deny_denies a q h = (denies_same a q).0 h

-- a grant of the resource's policy, where requester and resource are of one account
granted_in_account : (a : ApplicableValue) (q : RequestValue) (least : Grant) → a.same_account ≡ true → Grants a q least → IsGrantedInAccount least a q
granted_in_account a q least same g = (same, (grants_same a q least).0 g)

-- who is granted more is granted less
fewer : (a : ApplicableValue) (q : RequestValue) (more less : Grant) → rank less ≤ rank more → Grants a q more → Grants a q less
fewer a q more less below g = (g.0, g.1, g.2, g.3, (g.4.0, g.4.1, (let enough : rank more ≤ rank (grant_of g.1.statement.principal q.requester) = g.4.2 in omega arith)))

pub allowed_is_granted : Laws.AllowedIsGranted
allowed_is_granted a q h = elim h.1.2 [
  | inl g ↦ elim g.1 [
    | inl direct ↦ inr (granted_in_account a q Role g.0 (fewer a q Direct Role (omega arith) direct))
    | inr role ↦ inr (granted_in_account a q Role g.0 role.0)
  ]
  | inr all ↦ inl ((allows_same a q Identity 0).0 all.0)
]

pub each_org_level_allows : Laws.EachLevelAllows (λ a. a.org)
each_org_level_allows a q level h below = (allows_same a q Org level).0 (h.1.0 level below)

pub each_control_level_allows : Laws.EachLevelAllows (λ a. a.control)
each_control_level_allows a q level h below = (allows_same a q Control level).0 (h.1.1 level below)

-- what holds binds unless a grant is direct
bound_or_direct : (a : ApplicableValue) (q : RequestValue) → IsDecision a q Allowed
    → (BoundaryHolds (Allows a q) (frame_of a) × SessionHolds (Allows a q) (frame_of a)) ⊎ IsGrantedInAccount Direct a q
bound_or_direct a q h = elim h.1.2 [
  | inl g ↦ elim g.1 [ inl direct ↦ inr (granted_in_account a q Direct g.0 direct) | inr role ↦ inl (role.1, role.2) ]
  | inr all ↦ inl (all.1, all.2)
]

boundary_allows : (a : ApplicableValue) (q : RequestValue) (boundary : PolicyValue) → a.boundary ≡ Some boundary
    → BoundaryHolds (Allows a q) (frame_of a) → SomeSays Allow q boundary.statements
boundary_allows a q boundary is (inl none) = absurd (let some : is_some a.boundary ≡ true = ap is_some is in let wrong : ⊥ = cc in wrong)
boundary_allows a q boundary is (inr allows) =
    subst (SomeSays Allow q) (append-nil boundary.statements)
    (subst (λ b. SomeSays Allow q (statements_of (option_to_list b))) is ((allows_same a q Boundary 0).0 allows))

pub boundary_binds : Laws.BoundaryBinds
boundary_binds a q boundary is h = elim (bound_or_direct a q h) [
  | inl bound ↦ inl (boundary_allows a q boundary is bound.0)
  | inr direct ↦ inr direct
]

without_policies : (session : List PolicyValue) → has_policies session ≡ false → session ≡ []
without_policies [] none = refl
without_policies (policy ∷ session) none = absurd (let wrong : ⊥ = cc in wrong)

pub session_binds : Laws.SessionBinds
session_binds a q some h = elim (bound_or_direct a q h) [
  | inl bound ↦ elim bound.1 [
    | inl none ↦ absurd (some (without_policies a.session none))
    | inr allows ↦ inl ((allows_same a q Session 0).0 allows)
  ]
  | inr direct ↦ inr direct
]

pub both_accounts_allow : Laws.BothAccountsAllow
both_accounts_allow a q differ h = elim h.1.2 [
  | inl g ↦ absurd (let wrong : ⊥ = cc (differ, g.0) in wrong)
  | inr all ↦ ((allows_same a q Identity 0).0 all.0, (grants_same a q Account).0 (all.3 (inl differ)))
]

-- each check that holds for b holds for a, and what denies for a denies for b
record Tighter (a b : ApplicableValue) (q : RequestValue) : Type 0 where
  denies : Denies a q → Denies b q
  org : LevelsHold (Allows b q) Org (length b.org) → LevelsHold (Allows a q) Org (length a.org)
  control : LevelsHold (Allows b q) Control (length b.control) → LevelsHold (Allows a q) Control (length a.control)
  identity : Allows b q Identity 0 → Allows a q Identity 0
  boundary : BoundaryHolds (Allows b q) (frame_of b) → BoundaryHolds (Allows a q) (frame_of a)
  session : SessionHolds (Allows b q) (frame_of b) → SessionHolds (Allows a q) (frame_of a)
  grants : (least : Grant) → Grants b q least → Grants a q least
  account : b.same_account ≡ a.same_account
  sealed : b.sealed ≡ a.sealed

allowed_under : (a b : ApplicableValue) (q : RequestValue) → Tighter a b q
    → IsAllowed (Allows b q) (Grants b q) (frame_of b) → IsAllowed (Allows a q) (Grants a q) (frame_of a)
allowed_under a b q t h = (
  t.org h.0,
  t.control h.1,
  elim h.2 [
    | inl g ↦ inl (
      sym t.account ∙ g.0,
      elim g.1 [ inl direct ↦ inl (t.grants Direct direct) | inr role ↦ inr (t.grants Role role.0, t.boundary role.1, t.session role.2) ],
    )
    | inr all ↦ inr (
      t.identity all.0,
      t.boundary all.1,
      t.session all.2,
      λ must. t.grants Account (all.3 (elim must [ inl differ ↦ inl (t.account ∙ differ) | inr sealed ↦ inr (t.sealed ∙ sealed) ])),
    )
  ],
)

tighter_allows_no_more : (a b : ApplicableValue) (q : RequestValue) → Tighter a b q → IsDecision b q Allowed → IsDecision a q Allowed
tighter_allows_no_more a b q t h = ((λ d. h.0 (t.denies d)), allowed_under a b q t h.1)

-- where the statements of a layer and level are the same, both allow there
allows_there : (a b : ApplicableValue) (q : RequestValue) (layer : Layer) (level : ℕ)
    → (SomeSays Allow q (statements_at b layer level) → SomeSays Allow q (statements_at a layer level))
    → Allows b q layer level → Allows a q layer level
allows_there a b q layer level on h = (allows_same a q layer level).1 (on ((allows_same b q layer level).0 h))

denies_there : (a b : ApplicableValue) (q : RequestValue)
    → ((layer : Layer) (level : ℕ) → SomeSays Deny q (statements_at a layer level) → DeniesSomewhere b q) → Denies a q → Denies b q
denies_there a b q on d = let there = (denies_same a q).0 d in (denies_same b q).1 (on there.0 there.1 there.2)

grants_there : (a b : ApplicableValue) (q : RequestValue) (least : Grant)
    → (SomeGrants least q (statements_of (option_to_list b.resource)) → SomeGrants least q (statements_of (option_to_list a.resource)))
    → Grants b q least → Grants a q least
grants_there a b q least on g = (grants_same a q least).1 (on ((grants_same b q least).0 g))

-- with the same levels, boundary, session and accounts, and each statement that matters where it was
module _ (a b : ApplicableValue) (q : RequestValue) (same : frame_of b ≡ frame_of a)
    (keeps : (layer : Layer) (level : ℕ) (s : StatementValue) → s.effect ≡ Deny
    → Contains (statements_at a layer level) s → Contains (statements_at b layer level) s)
    (gains : (layer : Layer) (level : ℕ) (s : StatementValue) → s.effect ≡ Allow
    → Contains (statements_at b layer level) s → Contains (statements_at a layer level) s) where
  allows_still : (layer : Layer) (level : ℕ) → Allows b q layer level → Allows a q layer level
  allows_still layer level = allows_there a b q layer level
      (λ h. let there = gains layer level h.1 h.4.1 (h.0, h.2, h.3) in (there.0, h.1, there.1, there.2, h.4))

  levels_still : (layer : Layer) (n m : ℕ) → m ≡ n → LevelsHold (Allows b q) layer m → LevelsHold (Allows a q) layer n
  levels_still layer n m is h = λ level below. allows_still layer level (h level (omega arith))

  tighter : Tighter a b q
  tighter = record {
    denies = denies_there a b q (λ layer level h.
        let there = keeps layer level h.1 h.4.1 (h.0, h.2, h.3) in (layer, level, (there.0, h.1, there.1, there.2, h.4)));
    org = levels_still Org (length a.org) (length b.org) (ap (λ (f : Frame). f.org) same);
    control = levels_still Control (length a.control) (length b.control) (ap (λ (f : Frame). f.control) same);
    identity = allows_still Identity 0;
    boundary = λ h. elim h [ inl none ↦ inl (sym (ap (λ (f : Frame). f.boundary) same) ∙ none) | inr allows ↦ inr (allows_still Boundary 0 allows) ];
    session = λ h. elim h [ inl none ↦ inl (sym (ap (λ (f : Frame). f.session) same) ∙ none) | inr allows ↦ inr (allows_still Session 0 allows) ];
    grants = λ least. grants_there a b q least
        (λ g. let there = gains Resource 0 g.1 g.4.1 (g.0, g.2, g.3) in (there.0, g.1, there.1, there.2, g.4));
    account = ap (λ (f : Frame). f.same_account) same;
    sealed = ap (λ (f : Frame). f.sealed) same;
  }

pub further_deny_allows_no_more : Laws.FurtherDenyAllowsNoMore
further_deny_allows_no_more a b q more =
    tighter_allows_no_more a b q
    (
    tighter a b q more.frame (λ layer level s deny. more.keeps layer level s)
    (λ layer level s allow here. elim (more.gains layer level s here) [ inl there ↦ there | inr deny ↦ absurd (let wrong : ⊥ = cc (allow, deny) in wrong) ])
    )

pub further_allow_takes_nothing : Laws.FurtherAllowTakesNothing
further_allow_takes_nothing a b q more =
    tighter_allows_no_more b a q
    (
    tighter b a q (sym more.frame)
    (λ layer level s deny here. elim (more.gains layer level s here) [ inl there ↦ there | inr allow ↦ absurd (let wrong : ⊥ = cc (allow, deny) in wrong) ])
    (λ layer level s allow. more.keeps layer level s)
    )

pub order_is_free : Laws.OrderIsFree
order_is_free a b q decision h =
    let on : Tighter a b q = tighter a b q h.frame (λ layer level s deny. (h.same layer level s).0) (λ layer level s allow. (h.same layer level s).1) in
    let back : Tighter b a q = tighter b a q (sym h.frame) (λ layer level s deny. (h.same layer level s).1) (λ layer level s allow. (h.same layer level s).0) in
    decided decision on back
  where
    decided : (decision : Decision) → Tighter a b q → Tighter b a q → IsDecision a q decision → IsDecision b q decision
    decided ExplicitDeny on back d = on.denies d
    decided Allowed on back d = tighter_allows_no_more b a q back d
    decided ImplicitDeny on back d = ((λ denies. d.0 (back.denies denies)), (λ allowed. d.1 (allowed_under a b q on allowed)))

pub sealed_resource_grants : Laws.SealedResourceGrants
sealed_resource_grants a q sealed h = elim h.1.2 [
  | inl g ↦ (grants_same a q Account).0 (elim g.1 [
    | inl direct ↦ fewer a q Direct Account (omega arith) direct
    | inr role ↦ fewer a q Role Account (omega arith) role.0
  ])
  | inr all ↦ (grants_same a q Account).0 (all.3 (inr sealed))
]

pub one_decision : Laws.OneDecision
one_decision a q ExplicitDeny ExplicitDeny h k = refl
one_decision a q ExplicitDeny Allowed h k = absurd (k.0 h)
one_decision a q ExplicitDeny ImplicitDeny h k = absurd (k.0 h)
one_decision a q Allowed ExplicitDeny h k = absurd (h.0 k)
one_decision a q Allowed Allowed h k = refl
one_decision a q Allowed ImplicitDeny h k = absurd (k.1 h.1)
one_decision a q ImplicitDeny ExplicitDeny h k = absurd (h.0 k)
one_decision a q ImplicitDeny Allowed h k = absurd (h.1 k.1)
one_decision a q ImplicitDeny ImplicitDeny h k = refl

-- there is a level where something is said
within : {X : Type 0} (P : X → Type 0) (d : X) (xs : List X) (i : ℕ) → ¬ P d → P (get_or xs i d) → i < length xs
within P d [] i none p = absurd (none p)
within P d (x ∷ xs) zero none p = omega arith
within P d (x ∷ xs) (suc i) none p = let below : i < length xs = within P d xs i none p in omega arith

says_nothing : (effect : Effect) (q : RequestValue) → ¬ SomeSays effect q []
says_nothing effect q (k, s, below, at, says) = omega arith

-- a level that is in the other list too stands there at some height
level_in : {X : Type 0} (xs ys : List X) (d : X) → ((x : X) → Contains xs x → Contains ys x) → (i : ℕ) → i < length xs
    → (k : ℕ) × (k < length ys) × (get_or ys k d ≡ get_or xs i d)
level_in xs ys d on i below =
    let found = on (get_or xs i d) (Contains-get_or xs i d below) in
    (found.0, found.1, get_or_default ys found.0 d (get_or xs i d) found.1 ∙ found.2)

module _ (a b : ApplicableValue) (q : RequestValue) (more : HasFurtherLimits a b) where
  levels_held : (layer : Layer) → ((level : List PolicyValue) → Contains (levels_of a layer) level → Contains (levels_of b layer) level)
      → LevelsHold (Allows b q) layer (length (levels_of b layer)) → LevelsHold (Allows a q) layer (length (levels_of a layer))
  levels_held layer on h level below =
      let there = level_in (levels_of a layer) (levels_of b layer) [] on level below in
      (allows_same a q layer level).1
      (subst (λ policies. SomeSays Allow q (statements_of policies)) there.2 ((allows_same b q layer there.0).0 (h there.0 there.1)))

  levels_deny : (layer : Layer) → ((level : List PolicyValue) → Contains (levels_of a layer) level → Contains (levels_of b layer) level)
      → (level : ℕ) → SomeSays Deny q (statements_at a layer level) → DeniesSomewhere b q
  levels_deny layer on level some =
      let P : List PolicyValue → Type 0 = λ policies. SomeSays Deny q (statements_of policies) in
      let there = level_in (levels_of a layer) (levels_of b layer) [] on level (within P [] (levels_of a layer) level (says_nothing Deny q) some) in
      (layer, there.0, subst P (sym there.2) some)

  -- the policies of a layer without levels were none, or are the same
  alone_deny : (level : ℕ) (before after : List PolicyValue) → (before ≡ []) ⊎ (after ≡ before)
      → SomeSays Deny q (statements_of (get_or (before ∷ []) level [])) → SomeSays Deny q (statements_of (get_or (after ∷ []) level []))
  alone_deny zero before after (inl none) some =
      absurd (says_nothing Deny q (subst (λ policies. SomeSays Deny q (statements_of policies)) none some))
  alone_deny (suc level) before after (inl none) some = absurd (says_nothing Deny q some)
  alone_deny level before after (inr same) some =
      subst (λ policies. SomeSays Deny q (statements_of (get_or (policies ∷ []) level []))) (sym same) some

  limits_deny : (layer : Layer) (level : ℕ) → SomeSays Deny q (statements_at a layer level) → DeniesSomewhere b q
  limits_deny Org level some = levels_deny Org more.org level some
  limits_deny Control level some = levels_deny Control more.control level some
  limits_deny Resource level some = (Resource, level, alone_deny level _ _ (inr (ap option_to_list more.resource)) some)
  limits_deny Identity level some = (Identity, level, alone_deny level _ _ (inr more.identity) some)
  limits_deny Boundary level some =
      let was : (option_to_list a.boundary ≡ []) ⊎ (option_to_list b.boundary ≡ option_to_list a.boundary) =
      elim more.boundary [ inl none ↦ inl (ap option_to_list none) | inr same ↦ inr (ap option_to_list same) ] in
      (Boundary, level, alone_deny level _ _ was some)
  limits_deny Session level some = (Session, level, alone_deny level _ _ more.session some)

  further_boundary : BoundaryHolds (Allows b q) (frame_of b) → BoundaryHolds (Allows a q) (frame_of a)
  further_boundary h = elim more.boundary [
    | inl none ↦ inl (ap is_some none)
    | inr same ↦ elim h [
      | inl without ↦ inl (sym (ap is_some same) ∙ without)
      | inr allows ↦ inr (allows_there a b q Boundary 0 (subst (λ p. SomeSays Allow q (statements_of (option_to_list p))) same) allows)
    ]
  ]

  further_session : SessionHolds (Allows b q) (frame_of b) → SessionHolds (Allows a q) (frame_of a)
  further_session h = elim more.session [
    | inl none ↦ inl (ap has_policies none)
    | inr same ↦ elim h [
      | inl without ↦ inl (sym (ap has_policies same) ∙ without)
      | inr allows ↦ inr (allows_there a b q Session 0 (subst (λ policies. SomeSays Allow q (statements_of policies)) same) allows)
    ]
  ]

  limits_tighter : Tighter a b q
  limits_tighter = record {
    denies = denies_there a b q limits_deny;
    org = levels_held Org more.org;
    control = levels_held Control more.control;
    identity = allows_there a b q Identity 0 (subst (λ policies. SomeSays Allow q (statements_of policies)) more.identity);
    boundary = further_boundary;
    session = further_session;
    grants = λ least. grants_there a b q least (subst (λ p. SomeGrants least q (statements_of (option_to_list p))) more.resource);
    account = more.same_account;
    sealed = more.sealed;
  }

pub further_limits_allow_no_more : Laws.FurtherLimitsAllowNoMore
further_limits_allow_no_more a b q more = tighter_allows_no_more a b q (limits_tighter a b q more)
