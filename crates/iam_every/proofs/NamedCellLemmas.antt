-- A resource that the world names has its cell.
use Rattle.std.proofs.Common.{◌≡◌, ◌↔◌, ◌++◌, ◌∷◌, [], ◌∙◌, ℕ, List, Some, ap, length, refl, subst, sym}
use Rattle.std.specs.List.{slice_get}
use Rattle.iam_match.specs.Statement.{AccessValue, RequestValue, request_for}
use Rattle.iam_decision.specs.Applicable.{ApplicableValue}
use Rattle.iam_decision.specs.Decision.{IsDecision, IsVerdict}
use Rattle.iam_world.specs.World.{ResourceValue, WorldValue}
use Rattle.iam_layers.specs.Applicable.{applicable_of}
use Rattle.iam_layers.specs.Cell.{IsAccessAt, IsAction, IsRequestAt, IsResource}
use Rattle.iam_layers.specs.Derived.{IsDerived, context_of}
use Rattle.iam_layers.specs.Unnamed.{IsUnnamedAccess}
use Rattle.iam_layers.specs.declared.unnamed.Unnamed.TheVariants.{Like}
use Rattle.iam_every.specs.NamedCell.{NamedDecisionsAreOfCells, NamedVerdictsAreOfCells}
use Rattle.iam_every.proofs.NamesLemmas.{Answered, answered, asked, asks, last, one_some}

-- the resource of its own text is itself
own_text : (resource : ResourceValue) (text : List ℕ) → resource.arn ≡ text → record resource { arn = text } ≡ resource
own_text resource text is = ap (λ (t : List ℕ). record resource { arn = t }) (sym is)

-- who asks for it in the world that has it twice asks for it in the world
to_cell : (world : WorldValue) (p r : ℕ) (action text : List ℕ) (found : ResourceValue) (applicable : ApplicableValue) (access : AccessValue)
    → slice_get world.resources r ≡ Some found → found.arn ≡ text → IsUnnamedAccess world p (Like r) action text applicable access
    → IsAccessAt world p r applicable access
to_cell world p r action text found applicable access at arn (resource, (like, there, is), h) =
    let mine : h.resource ≡ resource =
    one_some (slice_get (world.resources ++ resource ∷ []) (length world.resources)) h.resource resource h.resource_is (last world.resources resource) in
    let its : like ≡ found = one_some (slice_get world.resources r) like found there at in
    let same : h.resource ≡ found = mine ∙ is ∙ ap (λ (x : ResourceValue). record x { arn = text }) its ∙ own_text found text arn in
    record {
      principal = h.principal;
      resource = found;
      derived = h.derived;
      principal_is = h.principal_is;
      resource_is = at;
      derived_is = subst (λ (x : ResourceValue). IsDerived world h.principal x h.derived) same h.derived_is;
      applicable_is = h.applicable_is ∙ ap (λ (x : ResourceValue). applicable_of world h.principal x) same;
      access_is = h.access_is ∙ ap (λ (x : ResourceValue). asks h.principal x.arn (context_of world h.principal x h.derived)) same;
    }

-- and the other way round
of_cell : (world : WorldValue) (p r : ℕ) (action text : List ℕ) (found : ResourceValue) (applicable : ApplicableValue) (access : AccessValue)
    → slice_get world.resources r ≡ Some found → found.arn ≡ text → IsAccessAt world p r applicable access
    → IsUnnamedAccess world p (Like r) action text applicable access
of_cell world p r action text found applicable access at arn h =
    let same : h.resource ≡ found = one_some (slice_get world.resources r) h.resource found h.resource_is at in (
      found,
      (found, at, sym (own_text found text arn)),
      record {
        principal = h.principal;
        resource = found;
        derived = h.derived;
        principal_is = h.principal_is;
        resource_is = last world.resources found;
        derived_is = subst (λ (x : ResourceValue). IsDerived world h.principal x h.derived) same h.derived_is;
        applicable_is = h.applicable_is ∙ ap (λ (x : ResourceValue). applicable_of world h.principal x) same;
        access_is = h.access_is ∙ ap (λ (x : ResourceValue). asks h.principal x.arn (context_of world h.principal x h.derived)) same;
      },
    )

-- an answer to the request of a cell
abbrev AnsweredAt : (ApplicableValue → RequestValue → Type 0) → WorldValue → ℕ → ℕ → ℕ → Type 0
AnsweredAt Is world p a r = (applicable : ApplicableValue) × (request : RequestValue) × IsRequestAt world p a r applicable request × Is applicable request

same_answers : (Is : ApplicableValue → RequestValue → Type 0) (world : WorldValue) (p a r : ℕ) (action text : List ℕ) → IsAction world a action
    → IsResource world r (λ resource. resource.arn ≡ text) → Answered Is world p (Like r) action text ↔ AnsweredAt Is world p a r
same_answers Is world p a r action text action_is (found, at, arn) = (
  λ told.
      let (applicable, access, h, is) = asked Is world p (Like r) action text told in
      (applicable, request_for access action, (access, action, to_cell world p r action text found applicable access at arn h, action_is, refl), is),
  λ (applicable, request, (access, act, h, act_is, request_is), is).
      let same : act ≡ action = one_some (slice_get world.actions a) act action act_is action_is in
      answered Is world p (Like r) action text applicable access (of_cell world p r action text found applicable access at arn h)
      (subst (Is applicable) (request_is ∙ ap (request_for access) same) is),
)

pub named_verdicts : NamedVerdictsAreOfCells
named_verdicts world p a r action text verdict = same_answers (λ applicable request. IsVerdict applicable request verdict) world p a r action text

pub named_decisions : NamedDecisionsAreOfCells
named_decisions world p a r action text decision = same_answers (λ applicable request. IsDecision applicable request decision) world p a r action text
