-- What the elements of a statement are, and how they are read: AWS IAM User Guide, "IAM JSON policy elements
-- reference". LOGIC 6.9.
use Rattle.std.specs.Prelude.{◌≡◌, ℕ, List, [], ◌∷◌, Bool, true, false, Option, Some, None, IsSome, map, codes, option_map, if◌then◌else◌}
use Rattle.std.specs.List.{AllZip, flat_map}
use Rattle.std.specs.Str.{chars}
use Rattle.serde_json.specs.Data.{Data, string, object}
use Rattle.serde_json.specs.Find.{get}
use Rattle.iam_glob.specs.declared.sign.Sign.{Sign}
use Rattle.iam_glob.specs.Glob.{wild_sign}
use Rattle.iam_text.specs.declared.draft.Piece.{Piece}
use Rattle.iam_text.specs.declared.version.Version.{Version}
use Rattle.iam_text.specs.Draft.{IsDraftIn}
use Rattle.iam_element.specs.declared.principals.PrincipalKind.{PrincipalKind}
use Rattle.iam_element.specs.declared.principals.PrincipalKind.TheVariants.{Aws}
use Rattle.iam_element.specs.Element.{texts_of}
use Rattle.iam_element.specs.Principal.{kind_word, principal_kinds}

-- `Action`, or `NotAction` where negated, with its patterns
pub record ActionElement : Type 0 where
  pub negated : Bool
  pub patterns : List (List Sign)

-- `Resource`, or `NotResource` where negated, with its texts
pub record ResourceElement : Type 0 where
  pub negated : Bool
  pub texts : List (List Piece)

-- a text of a principal element, and the type that it stands under
pub record PrincipalText : Type 0 where
  pub kind : PrincipalKind
  pub text : List ℕ

-- `Principal`, or `NotPrincipal` where negated, with its texts
pub record PrincipalElement : Type 0 where
  pub negated : Bool
  pub names : List PrincipalText

-- the name of an element, by whether it is the negated one of the two
abbrev pub action_name : Bool → List ℕ
action_name negated = if negated then codes "NotAction" else codes "Action"

abbrev pub resource_name : Bool → List ℕ
resource_name negated = if negated then codes "NotResource" else codes "Resource"

abbrev pub principal_name : Bool → List ℕ
principal_name negated = if negated then codes "NotPrincipal" else codes "Principal"

-- the pattern of a text in which `*` and `?` are wildcards
abbrev pub pattern_of : List ℕ → List Sign
pattern_of text = map wild_sign (chars text)

-- the element stands there, and each of its texts is a pattern
pub record ReadsAction (s : Data) (r : ActionElement) : Type 0 where
  pub stands : IsSome (get (action_name r.negated) s)
  pub patterns : r.patterns ≡ map pattern_of (texts_of (get (action_name r.negated) s))

-- a text of a resource element is its draft, in which `*` and `?` are wildcards
abbrev pub ReadsText : Version → List ℕ → List Piece → Type 0
ReadsText version text pieces = IsDraftIn version true text pieces

-- neither element stands there, or the one does and each of its texts is read
abbrev pub ReadsResourceElement : Version → Data → Option ResourceElement → Type 0
ReadsResourceElement version s None = (get (resource_name false) s ≡ None) × (get (resource_name true) s ≡ None)
ReadsResourceElement version s (Some r) =
    IsSome (get (resource_name r.negated) s)
    × AllZip (ReadsText version) (texts_of (get (resource_name r.negated) s)) r.texts

-- texts under one type of principals
abbrev pub typed : PrincipalKind → List (List ℕ) → List PrincipalText
typed kind texts = map (λ t. record { kind = kind; text = t }) texts

-- the texts that an element has under a type
abbrev pub names_under : Data → PrincipalKind → List PrincipalText
names_under element kind = typed kind (texts_of (get (kind_word kind) element))

-- the names of a principal element; a text alone stands under `AWS`
abbrev pub names_of : Data → List PrincipalText
names_of (string text) = record { kind = Aws; text = text } ∷ []
names_of (object ms) = flat_map (names_under (object ms)) principal_kinds
names_of _ = []

-- neither element stands there, or the one does with these names
abbrev pub ReadsPrincipalElement : Data → Option PrincipalElement → Type 0
ReadsPrincipalElement s None = (get (principal_name false) s ≡ None) × (get (principal_name true) s ≡ None)
ReadsPrincipalElement s (Some r) = option_map names_of (get (principal_name r.negated) s) ≡ Some r.names
