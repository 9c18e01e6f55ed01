-- What holds of the statements that were found holds of the matched statements of the applicable policies.
use Rattle.std.proofs.Common.{◌≡◌, inl, inr, ◌↔◌, ℕ, List, [], ◌∷◌, map, refl, sym, ap, ◌∙◌, subst}
use Rattle.std.specs.List.{Any}
use Rattle.iam_match.specs.declared.principal.Grant.{Grant}
use Rattle.iam_match.specs.declared.principal.Grant.TheVariants.{Account, Role, Direct}
use Rattle.iam_match.specs.Requester.{RequesterValue}
use Rattle.iam_match.specs.Statement.{AccessValue, RequestValue, request_for}
use Rattle.iam_decision.specs.Applicable.{ApplicableValue}
use Rattle.iam_decision.specs.Matched.{Placed, IsMatched, Selects}
use Rattle.iam_decision.specs.Living.{Acts, AreActing, AreCandidates, AreFound, AreLiving, Lives, LivingValue, item_of, living_of}
use Rattle.iam_decision.specs.Code.Found.{AllowsIn, GrantsIn}
use Rattle.iam_decision.specs.Decision.{Allows, Grants, LevelsHold, BoundaryHolds, SessionHolds, AllHold, GrantSuffices, IsAllowed, Fails}
use Rattle.iam_decision.specs.declared.frame.Frame.{Frame}
use Rattle.iam_decision.specs.declared.place.Layer.{Layer}
use Rattle.iam_decision.specs.declared.place.Layer.TheVariants.{Org, Control, Resource, Identity, Boundary, Session}
use Rattle.iam_decision.specs.declared.living.Matched.{Matched}
use Rattle.iam_decision.proofs.SomeLemmas.{SomeOf, any_from_some, some_from_any}

-- chosen elements, seen through f, have what the elements of the list have that pass
some_chosen : {X Y : Type 0} (P R : X → Type 0) (S : Y → Type 0) (f : X → Y) (on : (x : X) → R x → P x × S (f x)) (xs chosen : List X)
    → Selects P xs chosen → SomeOf R xs → SomeOf S (map f chosen)
some_chosen P R S f on [] chosen h some = absurd some
some_chosen P R S f on (x ∷ xs) chosen (inl (p, (rest, is, h))) (inl r) =
    let Q : List _ → Type 0 = λ z. SomeOf S (map f z) in subst Q (sym is) (inl (on x r).1)
some_chosen P R S f on (x ∷ xs) chosen (inl (p, (rest, is, h))) (inr some) =
    let Q : List _ → Type 0 = λ z. SomeOf S (map f z) in subst Q (sym is) (inr (some_chosen P R S f on xs rest h some))
some_chosen P R S f on (x ∷ xs) chosen (inr (skipped, h)) (inl r) = absurd (skipped (on x r).0)
some_chosen P R S f on (x ∷ xs) chosen (inr (skipped, h)) (inr some) = some_chosen P R S f on xs chosen h some

some_of_chosen : {X Y : Type 0} (P R : X → Type 0) (S : Y → Type 0) (f : X → Y) (back : (x : X) → P x → S (f x) → R x) (xs chosen : List X)
    → Selects P xs chosen → SomeOf S (map f chosen) → SomeOf R xs
some_of_chosen P R S f back [] chosen h some =
    let Q : List _ → Type 0 = λ z. SomeOf S (map f z) in absurd (subst Q h some)
some_of_chosen P R S f back (x ∷ xs) chosen (inl (p, (rest, is, h))) some =
    let Q : List _ → Type 0 = λ z. SomeOf S (map f z) in
    elim (subst Q is some) [ inl s ↦ inl (back x p s) | inr later ↦ inr (some_of_chosen P R S f back xs rest h later) ]
some_of_chosen P R S f back (x ∷ xs) chosen (inr (skipped, h)) some = inr (some_of_chosen P R S f back xs chosen h some)

pub any_chosen : {X Y : Type 0} (P R : X → Type 0) (S : Y → Type 0) (f : X → Y) → ((x : X) → R x → P x × S (f x)) → ((x : X) → P x → S (f x) → R x)
    → (xs chosen : List X) → Selects P xs chosen → Any R xs ↔ Any S (map f chosen)
any_chosen P R S f on back xs chosen h = (
  λ any. any_from_some S (map f chosen) (some_chosen P R S f on xs chosen h (some_from_any R xs any)),
  λ any. any_from_some R xs (some_of_chosen P R S f back xs chosen h (some_from_any S (map f chosen) any)),
)

-- elements that pass two tests, one after the other
pub select_twice : {X Y : Type 0} (P : X → Type 0) (S : Y → Type 0) (f : X → Y) (xs chosen : List X) (kept : List Y) → Selects P xs chosen
    → Selects S (map f chosen) kept → (both : List X) × Selects (λ x. P x × S (f x)) xs both × (kept ≡ map f both)
select_twice P S f [] chosen kept h k =
    let Q : List _ → Type 0 = λ z. Selects S (map f z) kept in ([], refl, subst Q h k)
select_twice {X} {Y} P S f (x ∷ xs) chosen kept (inl (p, (rest, is, h))) k =
    let Q : List X → Type 0 = λ z. Selects S (map f z) kept in
    elim (subst Q is k) [
      | inl (s, (others, kept_is, later)) ↦ (
          let more = select_twice P S f xs rest others h later in
          (x ∷ more.0, inl ((p, s), (more.0, refl, more.1)), kept_is ∙ ap (λ z. f x ∷ z) more.2)
          )
      | inr (fails, later) ↦ (
          let more = select_twice P S f xs rest kept h later in
          (more.0, inr ((λ both. fails both.1), more.1), more.2)
          )
    ]
select_twice P S f (x ∷ xs) chosen kept (inr (skipped, h)) k =
    let more = select_twice P S f xs chosen kept h k in (more.0, inr ((λ both. skipped both.0), more.1), more.2)

pub select_same : {X : Type 0} (P Q : X → Type 0) → ((x : X) → P x ↔ Q x) → (xs chosen : List X) → Selects P xs chosen → Selects Q xs chosen
select_same P Q same [] chosen h = h
select_same P Q same (x ∷ xs) chosen (inl (p, (rest, is, h))) = inl ((same x).0 p, (rest, is, select_same P Q same xs rest h))
select_same P Q same (x ∷ xs) chosen (inr (skipped, h)) = inr ((λ q. skipped ((same x).1 q)), select_same P Q same xs chosen h)

items_map : (requester : RequesterValue) (xs : List Placed) → map (λ (l : LivingValue). l.matched) (map (living_of requester) xs) ≡ map (item_of requester) xs
items_map requester [] = refl
items_map requester (x ∷ xs) = ap (λ z. item_of requester x ∷ z) (items_map requester xs)

-- of the living statements those match a request whose action elements match its action
pub acting_found : (access : AccessValue) (action : List ℕ) (statements : List Placed) (living : List LivingValue) (found : List Matched)
    → AreLiving access statements living → AreActing action living found → AreFound (request_for access action) statements found
acting_found access action statements living found (chosen, selected, is) (kept, acting, found_is) =
    let P : List LivingValue → Type 0 = λ z. Selects (Acts action) z kept in
    let both = select_twice (Lives access) (Acts action) (living_of access.requester) statements chosen kept selected (subst P is acting) in
    let same : (x : Placed) → (Lives access x × Acts action (living_of access.requester x)) ↔ IsMatched (request_for access action) x =
    λ x. ((λ h. record { action = h.1; rest = h.0 }), (λ m. (m.rest, m.action))) in (
      both.0,
      select_same (λ x. Lives access x × Acts action (living_of access.requester x)) (IsMatched (request_for access action)) same statements both.0 both.1,
      found_is ∙ ap (map (λ (l : LivingValue). l.matched)) both.2 ∙ items_map access.requester both.0,
    )

-- all statements are candidates
pub all_candidates : (actions : List (List ℕ)) (statements : List Placed) → AreCandidates actions statements statements
all_candidates actions [] = refl
all_candidates actions (s ∷ statements) = inl (statements, refl, all_candidates actions statements)

-- the statements that were found are the matched ones
-- in what they allow and grant
module _ (a : ApplicableValue) (q : RequestValue) (f : Frame) (found : List Matched)
    (allows_same : (layer : Layer) (level : ℕ) → Allows a q layer level ↔ AllowsIn found layer level)
    (grants_same : (least : Grant) → Grants a q least ↔ GrantsIn found least) where
  levels_same : (layer : Layer) (levels : ℕ) → LevelsHold (AllowsIn found) layer levels ↔ LevelsHold (Allows a q) layer levels
  levels_same layer levels = (λ h level below. (allows_same layer level).1 (h level below), λ h level below. (allows_same layer level).0 (h level below))

  boundary_same : BoundaryHolds (AllowsIn found) f ↔ BoundaryHolds (Allows a q) f
  boundary_same = (
    λ h. elim h [ inl none ↦ inl none | inr allows ↦ inr ((allows_same Boundary 0).1 allows) ],
    λ h. elim h [ inl none ↦ inl none | inr allows ↦ inr ((allows_same Boundary 0).0 allows) ],
  )

  session_same : SessionHolds (AllowsIn found) f ↔ SessionHolds (Allows a q) f
  session_same = (
    λ h. elim h [ inl none ↦ inl none | inr allows ↦ inr ((allows_same Session 0).1 allows) ],
    λ h. elim h [ inl none ↦ inl none | inr allows ↦ inr ((allows_same Session 0).0 allows) ],
  )

  all_same : AllHold (AllowsIn found) (GrantsIn found) f ↔ AllHold (Allows a q) (Grants a q) f
  all_same = (
    λ h. ((allows_same Identity 0).1 h.0, boundary_same.0 h.1, session_same.0 h.2, (λ must. (grants_same Account).1 (h.3 must))),
    λ h. ((allows_same Identity 0).0 h.0, boundary_same.1 h.1, session_same.1 h.2, (λ must. (grants_same Account).0 (h.3 must))),
  )

  grant_same : GrantSuffices (AllowsIn found) (GrantsIn found) f ↔ GrantSuffices (Allows a q) (Grants a q) f
  grant_same = (
    λ h. (h.0, elim h.1 [ inl g ↦ inl ((grants_same Direct).1 g) | inr g ↦ inr ((grants_same Role).1 g.0, boundary_same.0 g.1, session_same.0 g.2) ]),
    λ h. (h.0, elim h.1 [ inl g ↦ inl ((grants_same Direct).0 g) | inr g ↦ inr ((grants_same Role).0 g.0, boundary_same.1 g.1, session_same.1 g.2) ]),
  )

  pub allowed_same : IsAllowed (AllowsIn found) (GrantsIn found) f ↔ IsAllowed (Allows a q) (Grants a q) f
  allowed_same = (
    λ h. ((levels_same Org f.org).0 h.0, (levels_same Control f.control).0 h.1, elim h.2 [ inl g ↦ inl (grant_same.0 g) | inr all ↦ inr (all_same.0 all) ]),
    λ h. ((levels_same Org f.org).1 h.0, (levels_same Control f.control).1 h.1, elim h.2 [ inl g ↦ inl (grant_same.1 g) | inr all ↦ inr (all_same.1 all) ]),
  )

  pub fails_same : (layer : Layer) → Fails (AllowsIn found) (GrantsIn found) f layer ↔ Fails (Allows a q) (Grants a q) f layer
  fails_same Org = ((λ h holds. h ((levels_same Org f.org).1 holds)), (λ h holds. h ((levels_same Org f.org).0 holds)))
  fails_same Control = ((λ h holds. h ((levels_same Control f.control).1 holds)), (λ h holds. h ((levels_same Control f.control).0 holds)))
  fails_same Resource = ((λ h. (h.0, (λ g. h.1 ((grants_same Account).0 g)))), (λ h. (h.0, (λ g. h.1 ((grants_same Account).1 g)))))
  fails_same Identity = ((λ h allows. h ((allows_same Identity 0).0 allows)), (λ h allows. h ((allows_same Identity 0).1 allows)))
  fails_same Boundary = ((λ h holds. h (boundary_same.1 holds)), (λ h holds. h (boundary_same.0 holds)))
  fails_same Session = ((λ h holds. h (session_same.1 holds)), (λ h holds. h (session_same.0 holds)))
