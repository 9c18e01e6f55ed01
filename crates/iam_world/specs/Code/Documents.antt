-- How the code reads the documents of a world one after another, beside `WorldFault`.
use Rattle.std.specs.Prelude.{◌≡◌, ℕ, ◌+◌, ◌<◌, List, MatchOption, map}
use Rattle.std.specs.List.{AllByRecursion, AllZip}
use Rattle.serde_json.specs.Data.{Data}
use Rattle.iam_policy.specs.Fault.{IsAccepted}
use Rattle.iam_policy.specs.Reading.{Reads}
use Rattle.iam_policy.specs.declared.fault.Kind.TheVariants as kind
use Rattle.iam_policy.specs.declared.fault.Refused.{Refused}
use Rattle.iam_world.specs.WorldFault.{Document, IsFirstRefused, statement_total}
use Rattle.iam_world.specs.declared.fault.WorldFault.{WorldFault}
use Rattle.iam_world.specs.declared.fault.WorldFault.TheVariants.{Policy}
use Rattle.iam_world.specs.declared.limits.Budget.{Budget}
use Rattle.iam_shape.specs.declared.path.Path.{Path}
use Rattle.iam_shape.specs.declared.path.Path.TheVariants.{Field, Entry, Leaf}
use Rattle.iam_shape.specs.declared.view.WorldView as lent
use Rattle.iam_shape.specs.Lent.{account_of, principal_of, resource_of}
use Rattle.iam_world.specs.Reads.{ReadsOptional}
use Rattle.iam_world.specs.declared.documents.Documents.{Documents}
use Rattle.iam_world.specs.declared.documents.Policies.{Policies}
use Rattle.iam_world.specs.declared.documents.Location.{Location}
use Rattle.iam_world.specs.declared.documents.Location.TheVariants.{Entries, Level, Alone}

abbrev pub IsNotAccepted : Document → Type 0
IsNotAccepted document = ¬ IsAccepted document.kind document.value

-- the first of the documents that is not accepted is refused by its least fault
abbrev pub IsRefusedAmong : List Document → WorldFault → Type 0
IsRefusedAmong ds fault = (path : Path) × (refused : Refused) × (fault ≡ Policy path refused) × IsFirstRefused ds path refused

-- so many statements were counted: what is left of 4,096 is known, or they are too many
abbrev pub Leaves : Budget → ℕ → Type 0
Leaves budget total = MatchOption budget.left (4096 < total) (λ left. left + total ≡ 4096)

-- the documents are accepted, and their statements are counted
pub record IsCleared (ds : List Document) (before after : Budget) : Type 0 where
  pub accepted : AllByRecursion (λ d. ¬ IsNotAccepted d) ds
  pub counted : (total : ℕ) → Leaves before total → Leaves after (total + statement_total ds)

-- the path of a document of a list
abbrev pub path_at : Location → ℕ → Path
path_at (Entries list i name) j = Entry list i name j
path_at (Level list i name level) j = Leaf list i name level j
path_at (Alone list i name) j = Field list i name

-- document j of a list
abbrev pub document_at : Documents → ℕ → Data → Document
document_at ds j value = record { path = path_at ds.place j; kind = ds.kind; value = value }

-- these are the policies of the documents, layer by layer
pub record HasPolicies (world : lent.WorldView) (policies : Policies) : Type 0 where
  pub org : AllZip (λ v levels. AllZip (AllZip (Reads kind.Org)) v.org (map (λ level. level.items) levels.items))
      (map account_of world.accounts.views.items) policies.org.items
  pub control : AllZip (λ v levels. AllZip (AllZip (Reads kind.Control)) v.control (map (λ level. level.items) levels.items))
      (map resource_of world.resources.items) policies.control.items
  pub resource : AllZip (λ v policy. ReadsOptional kind.Resource v.policy policy) (map resource_of world.resources.items)
      policies.resource.items
  pub identity : AllZip (λ v own. AllZip (Reads kind.Identity) v.identity own) (map principal_of world.principals.items)
      policies.identity.items
  pub boundary : AllZip (λ v policy. ReadsOptional kind.Identity v.boundary policy) (map principal_of world.principals.items)
      policies.boundary.items
  pub session : AllZip (λ v own. AllZip (Reads kind.Identity) v.session_policies own) (map principal_of world.principals.items)
      policies.session.items
