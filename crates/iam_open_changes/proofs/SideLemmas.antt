-- What two worlds have of a request, in the worlds that have what is asked for.
use Rattle.std.proofs.Common.{◌≡◌, ◌∙◌, ℕ, Bor, List, None, Option, Some, ap, refl, subst, sym}
use Rattle.std.specs.List.{slice_get}
use Rattle.iam_layers.specs.Cell.{IsAction, IsPrincipal}
use Rattle.iam_layers.specs.Unnamed.{world_and}
use Rattle.iam_open.specs.Seat.{IsSeat}
use Rattle.iam_open.specs.declared.scene.Target.{Target}
use Rattle.iam_open.specs.declared.scene.Target.TheVariants.{Named, Unnamed}
use Rattle.iam_open_changes.specs.Sides.{IsSideAt, OfRequest, OfRequests, OfSide, OfSides}
use Rattle.iam_open_changes.specs.declared.numbers.Numbers.{Numbers}
use Rattle.iam_open_changes.specs.declared.side.Request.{Request}
use Rattle.iam_open_changes.specs.declared.side.Side.{Side}
use Rattle.iam_open_changes.specs.declared.side.Side.TheVariants.{Has, Lacks}
use Rattle.iam_open_changes.specs.declared.side.Sides.{Sides}
use Rattle.iam_world.specs.World.{PrincipalValue, ResourceValue, WorldValue}

-- ---- a world that has what is asked for

-- what an action and a resource behind the others leave as it is
as_seated : {A : Type 0} (f : WorldValue → A) (world : WorldValue) (t : Target) (other : WorldValue) (r : ℕ)
    → ((action : List ℕ) (resource : ResourceValue) → f (world_and world action resource) ≡ f world) → IsSeat world t other r → f world ≡ f other
as_seated f world (Named n) other r same (is, number) = sym (ap f is)
as_seated f world (Unnamed unnamed text) other r same (action, resource, said, is, number) = sym (ap f is ∙ same action resource)

pub moment_seated : (world : WorldValue) (t : Target) (other : WorldValue) (r : ℕ) → IsSeat world t other r → world.moment ≡ other.moment
moment_seated world t other r seat = as_seated (λ (w : WorldValue). w.moment) world t other r (λ action resource. refl) seat

pub context_seated : (world : WorldValue) (t : Target) (other : WorldValue) (r : ℕ) → IsSeat world t other r → world.context ≡ other.context
context_seated world t other r seat = as_seated (λ (w : WorldValue). w.context) world t other r (λ action resource. refl) seat

pub principal_seated : (P : PrincipalValue → Type 0) (world : WorldValue) (t : Target) (other : WorldValue) (r p : ℕ) → IsSeat world t other r
    → IsPrincipal world p P → IsPrincipal other p P
principal_seated P world t other r p seat (q, at, holds) =
    let same : world.principals ≡ other.principals = as_seated (λ (w : WorldValue). w.principals) world t other r (λ action resource. refl) seat in
    (q, subst (λ (xs : List PrincipalValue). slice_get xs p ≡ Some q) same at, holds)

-- ---- what holds of a request

-- of all numbers that its action and its resource may have
pub of_request : (P : WorldValue → Numbers → Type 0) (request : Request)
    → ((other : WorldValue) (a r : ℕ) → IsSeat request.scene.world.now request.scene.target other r → IsAction other a request.action.now
    → P other (record { principal = request.scene.p; action = a; resource = r }))
    → OfRequest request P
of_request P request holds other at has =
    subst (λ (p : ℕ). P other (record { principal = p; action = at.action; resource = at.resource })) has.principal
    (holds other at.action at.resource has.resource has.action)

-- of a world that has it, and of one that does not
pub of_has : (P : WorldValue → Option Numbers → Type 0) (request : Request) → OfRequest request (λ other it. P other (Some it)) → OfSide (Has request) P
of_has P request holds other at (it, is, has) = subst (λ (x : Option Numbers). P other x) (sym is) (holds other it has)

pub of_lacks : (P : WorldValue → Option Numbers → Type 0) (world : Bor WorldValue) → P world.now None → OfSide (Lacks world) P
of_lacks P world holds other at (is, none) =
    subst (λ (w : WorldValue). P w at) (sym is) (subst (λ (x : Option Numbers). P world.now x) (sym none) holds)

-- of two worlds that have it
pub of_both : (P : WorldValue → WorldValue → Option Numbers → Option Numbers → Type 0) (sides : Sides) (before after : Request)
    → sides.before ≡ Has before → sides.after ≡ Has after → OfRequests before after (λ one other was now. P one other (Some was) (Some now))
    → OfSides sides P
of_both P sides before after is is' holds one other was now side side' =
    let (it, at, has) = subst (λ (s : Side). IsSideAt s one was) is side in
    let (it', at', has') = subst (λ (s : Side). IsSideAt s other now) is' side' in
    subst (λ (x : Option Numbers). P one other x now) (sym at)
    (subst (λ (x : Option Numbers). P one other (Some it) x) (sym at') (holds one other it it' has has'))

-- the numbers that a request has by those of its scene
pub has_named : (request : Request) (world : WorldValue) (it : Numbers) → request.scene.p ≡ it.principal
    → IsSeat request.scene.world.now request.scene.target world it.resource → IsAction world it.action request.action.now
    → IsSideAt (Has request) world (Some it)
has_named request world it principal seat does = (it, refl, record { principal = principal; resource = seat; action = does })

-- ---- the moment

pub moment_has : (request : Request) (n : ℕ) → n ≡ request.scene.world.now.moment → OfSide (Has request) (λ other at. n ≡ other.moment)
moment_has request n is other at (it, there, has) =
    is ∙ moment_seated request.scene.world.now request.scene.target other it.resource has.resource

pub moment_lacks : (world : Bor WorldValue) (n : ℕ) → n ≡ world.now.moment → OfSide (Lacks world) (λ other at. n ≡ other.moment)
moment_lacks world n is = of_lacks (λ other at. n ≡ other.moment) world is
