-- Resources that a world does not name, in the world that names them too.
use Rattle.std.proofs.Common.{◌≡◌, ◌<◌, ◌++◌, ◌∷◌, ◌∙◌, ℕ, zero, suc, List, [], Bool, true, false, Some, arith, length, refl, sym, ap, subst}
use Rattle.std.specs.List.{slice_get}
use Rattle.iam_context.specs.Context.{ContextValue}
use Rattle.iam_decision.specs.Applicable.{ApplicableValue}
use Rattle.iam_match.specs.Requester.{RequesterValue}
use Rattle.iam_match.specs.Statement.{AccessValue}
use Rattle.iam_world.specs.World.{PrincipalValue, ResourceValue, WorldValue}
use Rattle.iam_layers.specs.Applicable.{applicable_of, levels_unless}
use Rattle.iam_layers.specs.Cell.{IsApplicableAt, IsContextAt, IsDerivedAt, IsPrincipal, IsResource}
use Rattle.iam_layers.specs.Derived.{context_of, derived_of}
use Rattle.iam_layers.specs.Unnamed.{AreUnnamedKeys, AreUnnamedPolicies, IsSaid, IsThere, IsUnnamedAccess, IsUnnamedContext, OfUnnamed, bare_resource, world_and}
use Rattle.iam_layers.specs.declared.unnamed.Unnamed.{Unnamed}
use Rattle.iam_layers.specs.declared.unnamed.Unnamed.TheVariants.{Like, Of}
use Rattle.iam_layers.proofs.VerdictLemmas.{one_some}

-- what holds of a principal and a resource of the world, whatever its text, holds of those that are like it
of_like : (P : PrincipalValue → ResourceValue → Type 0)
    → ((principal : PrincipalValue) (resource : ResourceValue) (text : List ℕ) → P principal resource → P principal (record resource { arn = text }))
    → (world : WorldValue) (p r : ℕ) → IsPrincipal world p (λ principal. IsResource world r (P principal)) → OfUnnamed world p (Like r) P
of_like P free world p r (principal, there, (resource, at, holds)) = (
  principal,
  there,
  λ text other (like, found, is).
      let same : resource ≡ like = one_some (slice_get world.resources r) resource like at found in
      subst (P principal) (sym is) (free principal like text (subst (P principal) same holds)),
)

pub policies_like : (world : WorldValue) (p r : ℕ) (applicable : ApplicableValue) → IsApplicableAt world p r applicable
    → AreUnnamedPolicies world p (Like r) applicable
policies_like world p r applicable =
    of_like (λ principal resource. applicable ≡ applicable_of world principal resource) (λ principal resource text is. is) world p r

pub keys_like : (world : WorldValue) (p r : ℕ) (derived : ContextValue) → IsDerivedAt world p r derived → AreUnnamedKeys world p (Like r) derived
keys_like world p r derived (principal, there, (resource, at, (stamp, stamped, is))) = (
  principal,
  there,
  λ text other (like, found, same). (
    stamp,
    stamped,
    is
        ∙ ap (λ (x : ResourceValue). derived_of principal.requester x.account world.moment stamp)
        (one_some (slice_get world.resources r) resource like at found)
        ∙ sym (ap (λ (x : ResourceValue). derived_of principal.requester x.account world.moment stamp) same),
  ),
)

pub context_like : (world : WorldValue) (p r : ℕ) (derived context : ContextValue) → IsContextAt world p r derived context
    → IsUnnamedContext world p (Like r) derived context
context_like world p r derived context =
    of_like (λ principal resource. context ≡ context_of world principal resource derived) (λ principal resource text is. is) world p r

-- none of no levels apply
pub no_levels : (managing : Bool) → levels_unless managing [] ≡ []
no_levels true = refl
no_levels false = refl

-- what is behind a list is at its length
last : (xs : List ResourceValue) (x : ResourceValue) → slice_get (xs ++ x ∷ []) (length xs) ≡ Some x
last [] x = refl
last (y ∷ xs) x = last xs x

some_at : (xs : List ResourceValue) (r : ℕ) → r < length xs → (x : ResourceValue) × (slice_get xs r ≡ Some x)
some_at [] r within = absurd (omega (arith, within))
some_at (x ∷ xs) zero within = (x, refl)
some_at (x ∷ xs) (suc r) within = some_at xs r (omega (arith, within))

-- there is such a resource of each text
said : (world : WorldValue) (unnamed : Unnamed) (text : List ℕ) → IsThere world unnamed
    → (resource : ResourceValue) × IsSaid world unnamed text resource × (text ≡ resource.arn)
said world (Like r) text there =
    let (like, at) = some_at world.resources r there in
    (record like { arn = text }, (like, at, refl), refl)
said world (Of account) text there = (bare_resource account.now text, refl, refl)

abbrev asked : RequesterValue → List ℕ → ContextValue → AccessValue
asked requester arn context = record { requester = requester; resource = arn; context = context }

pub unnamed_accessed : (world : WorldValue) (p : ℕ) (unnamed : Unnamed) (text : List ℕ) (requester : RequesterValue) (context derived : ContextValue)
    → IsThere world unnamed → IsPrincipal world p (λ principal. requester ≡ principal.requester) → AreUnnamedKeys world p unnamed derived
    → IsUnnamedContext world p unnamed derived context → (action : List ℕ) (applicable : ApplicableValue) → AreUnnamedPolicies world p unnamed applicable
    → IsUnnamedAccess world p unnamed action text applicable (asked requester text context)
unnamed_accessed world p unnamed text requester context derived there (p1, a1, e1) (p2, a2, keys) (p3, a3, within) action applicable (p4, a4, applies) =
    let (resource, is, named) = said world unnamed text there in
    let p12 : p1 ≡ p2 = one_some (slice_get world.principals p) p1 p2 a1 a2 in
    let p32 : p3 ≡ p2 = one_some (slice_get world.principals p) p3 p2 a3 a2 in
    let p42 : p4 ≡ p2 = one_some (slice_get world.principals p) p4 p2 a4 a2 in
    let who : requester ≡ p2.requester = e1 ∙ ap (λ (x : PrincipalValue). x.requester) p12 in
    let where_ : context ≡ context_of world p2 resource derived =
    within text resource is ∙ ap (λ (x : PrincipalValue). context_of world x resource derived) p32 in (
      resource,
      is,
      record {
        principal = p2;
        resource = resource;
        derived = derived;
        principal_is = a2;
        resource_is = last world.resources resource;
        derived_is = keys text resource is;
        applicable_is = applies text resource is ∙ ap (λ (x : PrincipalValue). applicable_of world x resource) p42;
        access_is =
            ap (λ (x : RequesterValue). asked x text context) who ∙ ap (λ (x : List ℕ). asked p2.requester x context) named
            ∙ ap (λ (x : ContextValue). asked p2.requester resource.arn x) where_;
      },
    )
