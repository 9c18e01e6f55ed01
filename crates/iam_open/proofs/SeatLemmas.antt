-- What is asked for, in the worlds that have it.
use Rattle.std.proofs.Common.{◌≡◌, ◌++◌, ◌∷◌, ◌∙◌, ℕ, List, [], Some, ap, arith, length, refl, subst, sym}
use Rattle.std.specs.List.{slice_get}
use Rattle.iam_context.specs.Context.{ContextValue}
use Rattle.iam_decision.specs.Applicable.{ApplicableValue, frame_of}
use Rattle.iam_decision.specs.declared.frame.Frame.{Frame}
use Rattle.iam_layers.specs.Applicable.{applicable_of}
use Rattle.iam_layers.specs.Cell.{IsApplicableAt, IsDerivedAt, IsPrincipal, IsResource}
use Rattle.iam_layers.specs.Own.{OfParts}
use Rattle.iam_layers.specs.Unnamed.{AreUnnamedKeys, AreUnnamedPolicies, IsSaid, IsThere, world_and}
use Rattle.iam_layers.specs.declared.unnamed.Unnamed.{Unnamed}
use Rattle.iam_layers.specs.declared.unnamed.Unnamed.TheVariants.{Like, Of}
use Rattle.iam_layers.proofs.VerdictLemmas.{one_some}
use Rattle.iam_open.specs.InQuestion.{at_moment}
use Rattle.iam_open.specs.Seat.{IsAskedFor, IsSeat}
use Rattle.iam_open.specs.declared.scene.Target.{Target}
use Rattle.iam_open.specs.declared.scene.Target.TheVariants as target
use Rattle.iam_world.specs.World.{PrincipalValue, ResourceValue, WorldValue}

-- what holds of the world and the number of a resource of it
pub at_named : (X : WorldValue → ℕ → Type 0) (world : WorldValue) (n : ℕ) (other : WorldValue) (r : ℕ) → IsSeat world (target.Named n) other r → X world n → X other r
at_named X world n other r (is, number) given = subst (λ (w : WorldValue). X w r) (sym is) (subst (X world) (sym number) given)

-- what holds of each world that has an action and a resource behind its own
pub at_unnamed : (X : WorldValue → ℕ → Type 0) (world : WorldValue) (unnamed : Unnamed) (text : _) (other : WorldValue) (r : ℕ)
    → IsSeat world (target.Unnamed unnamed text) other r
    → ((action : List ℕ) (resource : ResourceValue) → IsSaid world unnamed text.now resource → X (world_and world action resource) (length world.resources))
    → X other r
at_unnamed X world unnamed text other r (action, resource, said, is, number) given =
    subst (λ (w : WorldValue). X w r) (sym is) (subst (X (world_and world action resource)) (sym number) (given action resource said))

-- what is behind a list is at its length
last : (xs : List ResourceValue) (x : ResourceValue) → slice_get (xs ++ x ∷ []) (length xs) ≡ Some x
last [] x = refl
last (y ∷ xs) x = last xs x

-- a resource behind the others is at their number
pub behind : (P : ResourceValue → Type 0) (world : WorldValue) (action : List ℕ) (resource : ResourceValue) → P resource
    → IsResource (world_and world action resource) (length world.resources) P
behind P world action resource holds = (resource, last world.resources resource, holds)

-- such a world has the same principals, keys and moment
pub same_principal : (P : PrincipalValue → Type 0) (world : WorldValue) (t : Target) (other : WorldValue) (r p : ℕ) → IsSeat world t other r
    → IsPrincipal world p P → IsPrincipal other p P
same_principal P world (target.Named n) other r p seat given = at_named (λ w n. IsPrincipal w p P) world n other r seat given
same_principal P world (target.Unnamed unnamed text) other r p seat given =
    at_unnamed (λ w n. IsPrincipal w p P) world unnamed text other r seat (λ action resource said. given)

pub same_context : (world : WorldValue) (t : Target) (other : WorldValue) (r : ℕ) → IsSeat world t other r → world.context ≡ other.context
same_context world (target.Named n) other r (is, number) = ap (λ (w : WorldValue). w.context) (sym is)
same_context world (target.Unnamed unnamed text) other r (action, resource, said, is, number) = ap (λ (w : WorldValue). w.context) (sym is)

pub same_moment : (world : WorldValue) (t : Target) (other : WorldValue) (r : ℕ) → IsSeat world t other r → other.moment ≡ world.moment
same_moment world (target.Named n) other r (is, number) = ap (λ (w : WorldValue). w.moment) is
same_moment world (target.Unnamed unnamed text) other r (action, resource, said, is, number) = ap (λ (w : WorldValue). w.moment) is

-- ---- resources that the world does not name

pub text_said : (world : WorldValue) (unnamed : Unnamed) (text : List ℕ) (resource : ResourceValue) → IsSaid world unnamed text resource → text ≡ resource.arn
text_said world (Like r) text resource (like, at, is) = sym (ap (λ (x : ResourceValue). x.arn) is)
text_said world (Of account) text resource is = sym (ap (λ (x : ResourceValue). x.arn) is)

said_at : (world : WorldValue) (moment : ℕ) (unnamed : Unnamed) (text : List ℕ) (resource : ResourceValue) → IsSaid world unnamed text resource
    → IsSaid (at_moment world moment) unnamed text resource
said_at world moment (Like r) text resource is = is
said_at world moment (Of account) text resource is = is

pub derived_behind : (world : WorldValue) (p moment : ℕ) (unnamed : Unnamed) (text : List ℕ) (derived : ContextValue)
    → AreUnnamedKeys (at_moment world moment) p unnamed derived → (action : List ℕ) (resource : ResourceValue) → IsSaid world unnamed text resource
    → IsDerivedAt (at_moment (world_and world action resource) moment) p (length world.resources) derived
derived_behind world p moment unnamed text derived (principal, there, keys) action resource said =
    (principal, there, (resource, last world.resources resource, keys text resource (said_at world moment unnamed text resource said)))

pub policies_behind : (world : WorldValue) (p : ℕ) (unnamed : Unnamed) (text : List ℕ) (a : ApplicableValue) → AreUnnamedPolicies world p unnamed a
    → (action : List ℕ) (resource : ResourceValue) → IsSaid world unnamed text resource
    → IsApplicableAt (world_and world action resource) p (length world.resources) a
policies_behind world p unnamed text a (principal, there, applies) action resource said =
    (principal, there, (resource, last world.resources resource, applies text resource said))

-- ---- what is found once

-- these policies apply, and no others
pub one_applicable : (world : WorldValue) (p r : ℕ) (one other : ApplicableValue) → IsApplicableAt world p r one → IsApplicableAt world p r other → one ≡ other
one_applicable world p r one other (p1, a1, (r1, b1, is)) (p2, a2, (r2, b2, is')) =
    is ∙ ap (λ (x : PrincipalValue). applicable_of world x r1) (one_some (slice_get world.principals p) p1 p2 a1 a2)
    ∙ ap (λ (x : ResourceValue). applicable_of world p2 x) (one_some (slice_get world.resources r) r1 r2 b1 b2) ∙ sym is'

pub framed : (world : WorldValue) (p r : ℕ) (frame : Frame) (one other : ApplicableValue) → frame ≡ frame_of one → IsApplicableAt world p r one
    → IsApplicableAt world p r other → frame ≡ frame_of other
framed world p r frame one other is applies asked = is ∙ ap frame_of (one_applicable world p r one other applies asked)

-- the parts of a context, as they are lent
pub parts_given : (world other : WorldValue) (t : Target) (p r : ℕ) (own u : ContextValue) (given : List ContextValue) → IsSeat world t other r
    → IsPrincipal world p (λ principal. given ≡ world.context ∷ (principal.context ∷ (u ∷ (own ∷ []))))
    → IsResource other r (λ resource. u ≡ resource.context) → OfParts other p r own (λ parts. given ≡ parts)
parts_given world other t p r own u given seat who (s, at_s, u_is) =
    let (q, at_q, is) = same_principal (λ principal. given ≡ world.context ∷ (principal.context ∷ (u ∷ (own ∷ [])))) world t other r p seat who in (
      q,
      at_q,
      (
        s,
        at_s,
        is ∙ ap (λ (x : ContextValue). x ∷ (q.context ∷ (u ∷ (own ∷ [])))) (same_context world t other r seat)
            ∙ ap (λ (x : ContextValue). other.context ∷ (q.context ∷ (x ∷ (own ∷ [])))) u_is,
      ),
    )

-- what is said of a resource that the world does not name is there
pub there : (world : WorldValue) (none : ContextValue) (unnamed : Unnamed) (text : _) → IsAskedFor world none (target.Unnamed unnamed text)
    → IsThere world unnamed
there world none (Like n) text asked = asked.1 n text refl
there world none (Of account) text asked = tt

-- what is said, of a text
pub named : (one other : Unnamed) (text : _) → one ≡ other → target.Unnamed one text ≡ target.Unnamed other text
named one other text is = ap (λ (u : Unnamed). target.Unnamed u text) is

-- nothing gives keys to one of which just the account is said
empty : (none : ContextValue) → length none ≡ 0 → none ≡ []
empty [] is = refl
empty (x ∷ none) is = absurd (let wrong : ⊥ = omega (arith, is) in wrong)

pub bare_gives : (world : WorldValue) (none : ContextValue) (account : _) (text : List ℕ) (resource : ResourceValue) → length none ≡ 0
    → IsSaid world (Of account) text resource → none ≡ resource.context
bare_gives world none account text resource zero_long said = empty none zero_long ∙ sym (ap (λ (x : ResourceValue). x.context) said)
