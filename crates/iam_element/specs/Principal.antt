-- Principal elements: AWS IAM User Guide, "IAM JSON policy elements: Principal". LOGIC 6.6.
use Rattle.std.specs.Prelude.{ℕ, List, [], ◌∷◌, Bool, false, not, ◌&&◌, ◌||◌, codes, map, is_some}
use Rattle.std.specs.List.{list_any}
use Rattle.std.specs.Str.{bytes_eq}
use Rattle.serde_json.specs.Data.{Data}
use Rattle.serde_json.specs.Find.{get}
use Rattle.iam_json.specs.Look.{has_unknown}
use Rattle.iam_element.specs.declared.principals.PrincipalKind.{PrincipalKind}
use Rattle.iam_element.specs.declared.principals.PrincipalKind.TheVariants.{Aws, Service, Federated, CanonicalUser}
use Rattle.iam_element.specs.Element.{is_text, is_bad_list, is_too_long, listed}
use Rattle.iam_element.specs.Grammar.{is_aws_name, is_any_name}

-- the types of principals
abbrev pub principal_kinds : List PrincipalKind
principal_kinds = Aws ∷ (Service ∷ (Federated ∷ (CanonicalUser ∷ [])))

-- the name of a type in a document
abbrev pub kind_word : PrincipalKind → List ℕ
kind_word Aws = codes "AWS"
kind_word Service = codes "Service"
kind_word Federated = codes "Federated"
kind_word CanonicalUser = codes "CanonicalUser"

-- the grammar of the texts under a type
abbrev pub name_test : PrincipalKind → List ℕ → Bool
name_test Aws = is_aws_name
name_test _ = is_any_name

-- what stands under the type is no text and no list of at least one text, or a text of it is off the grammar
abbrev pub is_bad_kind : Data → PrincipalKind → Bool
is_bad_kind d kind = is_bad_list (name_test kind) (get (kind_word kind) d)

-- an object with at least one member, each of which is a type with its texts
abbrev pub has_principals : Data → Bool
has_principals d =
    list_any (λ kind. is_some (get (kind_word kind) d)) principal_kinds
    && not (has_unknown (map kind_word principal_kinds) d)
    && not (list_any (is_bad_kind d) principal_kinds)

-- the text `*`
abbrev pub is_star : Data → Bool
is_star d = is_text (λ text. bytes_eq text (codes "*")) d

-- the principal grammar: the text `*`, or such an object
abbrev pub is_principal : Data → Bool
is_principal d = is_star d || has_principals d

-- one value, which is the text `*`
abbrev pub is_single_star : List Data → Bool
is_single_star [] = false
is_single_star (d ∷ []) = is_star d
is_single_star (d ∷ e ∷ ds) = false

-- the text `*`, or an object whose only member is `AWS`, which holds `*` or a list of it alone
abbrev pub is_everyone : Data → Bool
is_everyone d = is_star d || (is_single_star (listed (get (codes "AWS") d)) && not (has_unknown (codes "AWS" ∷ []) d))

-- the list of texts of some type has over 4,096 members
abbrev pub has_long_kind : Data → Bool
has_long_kind d = list_any (λ kind. is_too_long (get (kind_word kind) d)) principal_kinds
