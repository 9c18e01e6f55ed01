-- What a policy is, and how an accepted document is read: AWS IAM User Guide, "IAM JSON policy elements
-- reference". LOGIC 6.9.
use Rattle.std.specs.Prelude.{◌≡◌, ℕ, List, [], Option, Some, None, codes}
use Rattle.std.specs.List.{AllZip}
use Rattle.serde_json.specs.Data.{Data}
use Rattle.serde_json.specs.Find.{get}
use Rattle.iam_text.specs.declared.version.Version.{Version}
use Rattle.iam_condition.specs.Condition.{ReadsCondition}
use Rattle.iam_condition.specs.Entry.{EntryValue}
use Rattle.iam_element.specs.Reading.{ActionElement, ResourceElement, PrincipalElement, ReadsAction, ReadsResourceElement, ReadsPrincipalElement}
use Rattle.iam_policy.specs.declared.effect.Effect.{Effect}
use Rattle.iam_policy.specs.declared.fault.Kind.{Kind}
use Rattle.iam_policy.specs.Fault.{IsAccepted, statements_in}
use Rattle.iam_policy.specs.Statement.{effect_of, sid_of}
use Rattle.iam_policy.specs.Version.{version_named}

-- a statement, element by element
pub record StatementValue : Type 0 where
  pub sid : Option (List ℕ)
  pub effect : Effect
  pub action : ActionElement
  pub resource : Option ResourceElement
  pub principal : Option PrincipalElement
  pub conditions : List EntryValue

-- a policy: the version of its document, and its statements, in order
pub record PolicyValue : Type 0 where
  pub version : Version
  pub statements : List StatementValue

-- an absent condition has no entries
abbrev pub ReadsConditions : Version → Option Data → List EntryValue → Type 0
ReadsConditions version None entries = entries ≡ []
ReadsConditions version (Some condition) entries = ReadsCondition version condition entries

-- a statement of a document of the version is read element by element
pub record ReadsStatement (version : Version) (s : Data) (r : StatementValue) : Type 0 where
  pub sid : r.sid ≡ sid_of s
  pub effect : effect_of s ≡ Some r.effect
  pub action : ReadsAction s r.action
  pub resource : ReadsResourceElement version s r.resource
  pub principal : ReadsPrincipalElement s r.principal
  pub conditions : ReadsConditions version (get (codes "Condition") s) r.conditions

-- the document is accepted, and read in its version, statement by statement
pub record Reads (kind : Kind) (d : Data) (policy : PolicyValue) : Type 0 where
  pub accepted : IsAccepted kind d
  pub version : version_named (get (codes "Version") d) ≡ Some policy.version
  pub statements : AllZip (ReadsStatement policy.version) (statements_in d) policy.statements
