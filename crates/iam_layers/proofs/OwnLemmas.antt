-- Requests that give keys of their own, in the world whose resource gives them too.
use Rattle.std.proofs.Common.{◌≡◌, ◌↔◌, ◌<◌, ℕ, List, [], ◌∷◌, ◌++◌, Some, length, set, refl, sym, ap, ◌∙◌, subst}
use Rattle.std.proofs.lemmas.List.{append-nil, append_assoc, get_or-set_same, length-set, set-get_or}
use Rattle.std.proofs.lemmas.Option.{get_or_from_slice_get, slice_get-get_or, slice_get_within}
use Rattle.std.specs.Prelude.{⊤}
use Rattle.std.specs.List.{slice_get}
use Rattle.iam_context.specs.Context.{ContextValue, joined}
use Rattle.iam_decision.specs.Applicable.{ApplicableValue}
use Rattle.iam_match.specs.Requester.{RequesterValue}
use Rattle.iam_world.specs.World.{PrincipalValue, ResourceValue, WorldValue}
use Rattle.iam_layers.specs.Applicable.{applicable_of}
use Rattle.iam_layers.specs.Cell.{IsApplicableAt, IsDerivedAt, IsPrincipal, IsResource}
use Rattle.iam_layers.specs.Own.{IsOwnAccess, IsOwnContext, IsWorldWith}
use Rattle.iam_layers.proofs.VerdictLemmas.{accessed, one_some}

-- the resource that gives these keys too, and the world that has it
abbrev more_of : ContextValue → ResourceValue → ResourceValue
more_of own resource = record resource { context = resource.context ++ own }

abbrev world_of : WorldValue → ℕ → ContextValue → ResourceValue → WorldValue
world_of world r own resource = record world { resources = set world.resources r (more_of own resource) }

-- what is put at a place stands there
put_there : {A : Type 0} (xs : List A) (i : ℕ) (x y : A) → slice_get xs i ≡ Some x → slice_get (set xs i y) i ≡ Some y
put_there xs i x y at =
    let within = slice_get_within xs i x at in
    let long : i < length (set xs i y) = subst (λ n. i < n) (sym (length-set xs i y)) within in
    slice_get-get_or (set xs i y) i y long ∙ ap Some (get_or-set_same xs i y y within)

-- keys behind those of the resource are keys of the resource
behind : (world own resource principal derived : ContextValue)
    → joined (world ∷ (principal ∷ (resource ∷ (own ∷ [])))) derived ≡ joined (world ∷ (principal ∷ ((resource ++ own) ∷ []))) derived
behind world own resource principal derived =
    ap (λ (x : ContextValue). (world ++ (principal ++ x)) ++ derived) (sym (append_assoc resource own []))

pub own_accessed : (world : WorldValue) (p r : ℕ) (requester : RequesterValue) (arn : List ℕ) (own context derived : ContextValue)
    (applicable : ApplicableValue) → IsPrincipal world p (λ principal. requester ≡ principal.requester)
    → IsResource world r (λ resource. arn ≡ resource.arn) → IsDerivedAt world p r derived → IsOwnContext world p r own derived context
    → IsApplicableAt world p r applicable → IsOwnAccess world p r own applicable (record { requester = requester; resource = arn; context = context })
own_accessed world p r requester arn own context derived applicable who (r1, b1, e2) (p2, a2, (r2, b2, is)) (p3, a3, (r3, b3, e3)) (p4, a4, (r4, b4, e4)) =
    let r12 : r1 ≡ r2 = one_some (slice_get world.resources r) r1 r2 b1 b2 in
    let r32 : r3 ≡ r2 = one_some (slice_get world.resources r) r3 r2 b3 b2 in
    let r42 : r4 ≡ r2 = one_some (slice_get world.resources r) r4 r2 b4 b2 in
    let other = world_of world r own r2 in
    let more = more_of own r2 in
    let there : slice_get other.resources r ≡ Some more = put_there world.resources r r2 more b2 in
    let whole = e3
    ∙ ap (λ (x : ResourceValue). joined (world.context ∷ (p3.context ∷ (x.context ∷ (own ∷ [])))) derived) r32
    ∙ behind world.context own r2.context p3.context derived in
    let applies = e4 ∙ ap (λ x. applicable_of world p4 x) r42 in (
      other,
      (r2, b2, refl),
      accessed other p r requester arn context derived applicable who (more, there, e2 ∙ ap (λ (x : ResourceValue). x.arn) r12)
          (p2, a2, (more, there, is)) (p3, a3, (more, there, whole)) (p4, a4, (more, there, applies)),
    )

-- no keys leave the world as it is
same_world : (world other : WorldValue) (r : ℕ) → IsWorldWith world r [] other → other ≡ world
same_world world other r (x, at, is) =
    let bare : more_of [] x ≡ x = ap (λ (c : ContextValue). record x { context = c }) (append-nil x.context) in
    let kept : set world.resources r x ≡ world.resources =
    ap (λ y. set world.resources r y) (sym (get_or_from_slice_get world.resources r x x at)) ∙ set-get_or world.resources r x in
    is ∙ ap (λ (xs : List ResourceValue). record world { resources = xs }) (ap (set world.resources r) bare ∙ kept)

pub no_keys : {A : Type 0} (Is : WorldValue → A → Type 0) (world : WorldValue) (r : ℕ) (x : A) → IsResource world r (λ _. ⊤)
    → ((other : WorldValue) × IsWorldWith world r [] other × Is other x) ↔ Is world x
no_keys Is world r x (resource, at, _) =
    let given : ((other : WorldValue) × IsWorldWith world r [] other × Is other x) → Is world x =
    λ (other, is, holds). subst (λ w. Is w x) (same_world world other r is) holds in
    let without = world_of world r [] resource in
    let is : IsWorldWith world r [] without = (resource, at, refl) in
    (given, (λ holds. (without, is, subst (λ w. Is w x) (sym (same_world world without r is)) holds)))

-- there is one such world
one_world_with : (world one other : WorldValue) (r : ℕ) (own : ContextValue) → IsWorldWith world r own one → IsWorldWith world r own other → one ≡ other
one_world_with world one other r own (x, at, is) (y, there, same) =
    is ∙ ap (world_of world r own) (one_some (slice_get world.resources r) x y at there) ∙ sym same

pub one_own : {A : Type 0} (Is : WorldValue → A → Type 0) → ((world : WorldValue) (x y : A) → Is world x → Is world y → x ≡ y)
    → (world : WorldValue) (r : ℕ) (own : ContextValue) (x y : A) → ((other : WorldValue) × IsWorldWith world r own other × Is other x)
    → ((other : WorldValue) × IsWorldWith world r own other × Is other y) → x ≡ y
one_own Is one world r own x y (w, is, here) (v, same, there) =
    one v x y (subst (λ u. Is u x) (one_world_with world w v r own is same) here) there
