-- Requests for resources that a world does not name: what is decided of one is decided of those of texts and actions that are alike.
use Rattle.std.proofs.Common.{◌≡◌, ◌++◌, ◌∷◌, [], ℕ, List, Option, Some, length, refl, sym, ap, subst, ◌∙◌}
use Rattle.std.specs.List.{slice_get}
use Rattle.iam_context.specs.Context.{ContextValue}
use Rattle.iam_match.specs.Statement.{AccessValue, RequestValue, request_for}
use Rattle.iam_decision.specs.Applicable.{ApplicableValue}
use Rattle.iam_decision.specs.Decision.{IsDecision}
use Rattle.iam_decision.specs.declared.verdict.Decision.{Decision}
use Rattle.iam_world.specs.World.{PrincipalValue, ResourceValue, WorldValue}
use Rattle.iam_layers.specs.Applicable.{applicable_of}
use Rattle.iam_layers.specs.Cell.{IsRequestAt}
use Rattle.iam_layers.specs.Derived.{IsDerived, context_of}
use Rattle.iam_layers.specs.Unnamed.{AreUnnamedPolicies, InWorldAnd, IsSaid, IsUnnamedAccess, IsUnnamedDecision}
use Rattle.iam_layers.specs.declared.unnamed.Unnamed.{Unnamed}
use Rattle.iam_layers.specs.declared.unnamed.Unnamed.TheVariants.{Like, Of}
use Rattle.iam_every.specs.Alike.{AreAlikeActions, request_on}
use Rattle.iam_every.specs.Names.{AlikeActionsAtDecideAlike, AlikeNamesDecideAlike}
use Rattle.iam_every.proofs.AlikeLemmas.{alike_actions, alike_texts}

pub one_some : {X : Type 0} (o : Option X) (x y : X) → o ≡ Some x → o ≡ Some y → x ≡ y
one_some o x y first second = let same : Some x ≡ Some y = sym first ∙ second in cc

-- what is behind a list is at its length
pub last : {X : Type 0} (xs : List X) (x : X) → slice_get (xs ++ x ∷ []) (length xs) ≡ Some x
last [] x = refl
last (y ∷ xs) x = last xs x

-- ---- resources of which the same is said
named : (world : WorldValue) (unnamed : Unnamed) (text : List ℕ) (resource : ResourceValue) → IsSaid world unnamed text resource → resource.arn ≡ text
named world (Like r) text resource (like, at, is) = ap (λ (x : ResourceValue). x.arn) is
named world (Of account) text resource is = ap (λ (x : ResourceValue). x.arn) is

said_too : (world : WorldValue) (unnamed : Unnamed) (one other : List ℕ) (resource : ResourceValue) → IsSaid world unnamed one resource
    → IsSaid world unnamed other (record resource { arn = other })
said_too world (Like r) one other resource (like, at, is) = (like, at, ap (λ (x : ResourceValue). record x { arn = other }) is)
said_too world (Of account) one other resource is = ap (λ (x : ResourceValue). record x { arn = other }) is

pub one_said : (world : WorldValue) (unnamed : Unnamed) (text : List ℕ) (resource other : ResourceValue) → IsSaid world unnamed text resource
    → IsSaid world unnamed text other → resource ≡ other
one_said world (Like r) text resource other (like, at, is) (found, there, same) =
    is ∙ ap (λ (x : ResourceValue). record x { arn = text }) (one_some (slice_get world.resources r) like found at there) ∙ sym same
one_said world (Of account) text resource other is same = is ∙ sym same

-- ---- requests for them
pub text_of : (world : WorldValue) (p : ℕ) (unnamed : Unnamed) (action text : List ℕ) (a : ApplicableValue) (access : AccessValue)
    → IsUnnamedAccess world p unnamed action text a access → access.resource ≡ text
text_of world p unnamed action text a access (resource, said, h) =
    let is : h.resource ≡ resource =
    one_some (slice_get (world.resources ++ resource ∷ []) (length world.resources)) h.resource resource h.resource_is (last world.resources resource) in
    ap (λ (x : AccessValue). x.resource) h.access_is ∙ ap (λ (x : ResourceValue). x.arn) is ∙ named world unnamed text resource said

-- the policies do not see the text
one_policies : (world : WorldValue) (p : ℕ) (unnamed : Unnamed) (action text : List ℕ) (a b : ApplicableValue) (access other : AccessValue)
    → IsUnnamedAccess world p unnamed action text a access → IsUnnamedAccess world p unnamed action text b other → a ≡ b
one_policies world p unnamed action text a b access other (resource, said, h) (found, told, k) =
    let mine : h.resource ≡ resource =
    one_some (slice_get (world.resources ++ resource ∷ []) (length world.resources)) h.resource resource h.resource_is (last world.resources resource) in
    let its : k.resource ≡ found =
    one_some (slice_get (world.resources ++ found ∷ []) (length world.resources)) k.resource found k.resource_is (last world.resources found) in
    let same : h.resource ≡ k.resource = mine ∙ one_said world unnamed text resource found said told ∙ sym its in
    let who : h.principal ≡ k.principal = one_some (slice_get world.principals p) h.principal k.principal h.principal_is k.principal_is in
    h.applicable_is ∙ ap (λ (x : PrincipalValue). applicable_of world x h.resource) who
    ∙ ap (λ (x : ResourceValue). applicable_of world k.principal x) same ∙ sym k.applicable_is

abbrev pub asks : PrincipalValue → List ℕ → ContextValue → AccessValue
asks principal text context = record { requester = principal.requester; resource = text; context = context }

-- who asks for one text by one action asks for each other text by each other action alike
pub asks_too : (world : WorldValue) (p : ℕ) (unnamed : Unnamed) (action asked one other : List ℕ) (a : ApplicableValue) (access : AccessValue)
    → IsUnnamedAccess world p unnamed action one a access → IsUnnamedAccess world p unnamed asked other a (record access { resource = other })
asks_too world p unnamed action asked one other a access (resource, said, h) =
    let is : h.resource ≡ resource =
    one_some (slice_get (world.resources ++ resource ∷ []) (length world.resources)) h.resource resource h.resource_is (last world.resources resource) in
    let further : ResourceValue = record resource { arn = other } in (
      further,
      said_too world unnamed one other resource said,
      record {
        principal = h.principal;
        resource = further;
        derived = h.derived;
        principal_is = h.principal_is;
        resource_is = last world.resources further;
        derived_is = subst (λ (x : ResourceValue). IsDerived world h.principal x h.derived) is h.derived_is;
        applicable_is = h.applicable_is ∙ ap (λ (x : ResourceValue). applicable_of world h.principal x) is;
        access_is =
            ap (λ (x : AccessValue). record x { resource = other }) h.access_is
            ∙ ap (λ (x : ResourceValue). asks h.principal other (context_of world h.principal x h.derived)) is;
      },
    )

-- ---- answers to them
abbrev pub Answered : (ApplicableValue → RequestValue → Type 0) → WorldValue → ℕ → Unnamed → List ℕ → List ℕ → Type 0
Answered Is world p unnamed action text =
    InWorldAnd world unnamed action text (λ other b r.
    (a : ApplicableValue) × (request : RequestValue) × IsRequestAt other p b r a request × Is a request)

pub answered : (Is : ApplicableValue → RequestValue → Type 0) (world : WorldValue) (p : ℕ) (unnamed : Unnamed) (action text : List ℕ) (a : ApplicableValue)
    (access : AccessValue) → IsUnnamedAccess world p unnamed action text a access → Is a (request_for access action) → Answered Is world p unnamed action text
answered Is world p unnamed action text a access (resource, said, h) is =
    (resource, said, (a, request_for access action, (access, action, h, last world.actions action, refl), is))

pub asked : (Is : ApplicableValue → RequestValue → Type 0) (world : WorldValue) (p : ℕ) (unnamed : Unnamed) (action text : List ℕ)
    → Answered Is world p unnamed action text
    → (a : ApplicableValue) × (access : AccessValue) × IsUnnamedAccess world p unnamed action text a access × Is a (request_for access action)
asked Is world p unnamed action text (resource, said, (a, request, (access, act, h, at, request_is), is)) =
    let same : act ≡ action = one_some (slice_get (world.actions ++ action ∷ []) (length world.actions)) act action at (last world.actions action) in
    (a, access, (resource, said, h), subst (Is a) (request_is ∙ ap (request_for access) same) is)

-- the request for this text, where its resource is so named
on_text : (access : AccessValue) (action text : List ℕ) → access.resource ≡ text → request_for access action ≡ request_on access action text
on_text access action text is = ap (λ (x : List ℕ). request_for (record access { resource = x }) action) is

pub alike_names : AlikeNamesDecideAlike
alike_names world p unnamed action one other groups decision at agree decided =
    let (a, access, h, is) = asked (λ a q. IsDecision a q decision) world p unnamed action one decided in
    let named_one = on_text access action one (text_of world p unnamed action one a access h) in
    let alike = (at one a access h one other).0 agree in
    answered (λ a q. IsDecision a q decision) world p unnamed action other a (record access { resource = other })
    (asks_too world p unnamed action action one other a access h)
    (alike_texts a access action one other decision alike (subst (λ q. IsDecision a q decision) named_one is))

-- those that apply at all such requests apply at each
pub policies_at : (world : WorldValue) (p : ℕ) (unnamed : Unnamed) (action text : List ℕ) (a b : ApplicableValue) (access : AccessValue)
    → AreUnnamedPolicies world p unnamed a → IsUnnamedAccess world p unnamed action text b access → a ≡ b
policies_at world p unnamed action text a b access (principal, at, each) (resource, said, h) =
    let is : h.resource ≡ resource =
    one_some (slice_get (world.resources ++ resource ∷ []) (length world.resources)) h.resource resource h.resource_is (last world.resources resource) in
    let who : h.principal ≡ principal = one_some (slice_get world.principals p) h.principal principal h.principal_is at in
    each text resource said ∙ sym (ap (λ (x : PrincipalValue). applicable_of world x resource) who)
    ∙ sym (ap (λ (x : ResourceValue). applicable_of world h.principal x) is) ∙ sym h.applicable_is

-- where the policies that apply read two actions alike, they are decided alike
pub alike_actions_by : (world : WorldValue) (p : ℕ) (unnamed : Unnamed) (one other text : List ℕ) (decision : Decision)
    → ((a : ApplicableValue) (access : AccessValue) → IsUnnamedAccess world p unnamed one text a access → AreAlikeActions a one other)
    → IsUnnamedDecision world p unnamed one text decision → IsUnnamedDecision world p unnamed other text decision
alike_actions_by world p unnamed one other text decision alike decided =
    let (a, access, h, is) = asked (λ a q. IsDecision a q decision) world p unnamed one text decided in
    let named_one = on_text access one text (text_of world p unnamed one text a access h) in
    answered (λ a q. IsDecision a q decision) world p unnamed other text a (record access { resource = text })
    (asks_too world p unnamed one other text text a access h)
    (alike_actions a access one other text decision (alike a access h) (subst (λ q. IsDecision a q decision) named_one is))

pub alike_actions_at : AlikeActionsAtDecideAlike
alike_actions_at world p unnamed one other text applicables a access groups decision groups_are among agree here =
    alike_actions_by world p unnamed one other text decision
    (λ b by h.
    let same : a ≡ b = one_policies world p unnamed one text a b access by here h in
    subst (λ (x : ApplicableValue). AreAlikeActions x one other) same ((groups_are one other).0 agree a among))
