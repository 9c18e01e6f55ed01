-- The statements of the documents are those of the policies.
use Rattle.std.proofs.Common.{◌≡◌, ℕ, ◌+◌, List, [], ◌∷◌, ◌++◌, length, Option, refl, sym, ap, ◌∙◌}
use Rattle.std.specs.List.{AllZip, flat_map, sum_by}
use Rattle.std.specs.Option.{option_to_list}
use Rattle.std.proofs.lemmas.List.Sums.{sum_by-append, sum_by-cons}
use Rattle.serde_json.specs.Data.{Data}
use Rattle.iam_policy.specs.Fault.{statements_in}
use Rattle.iam_policy.specs.declared.fault.Kind.{Kind}
use Rattle.iam_policy.specs.declared.fault.Kind.TheVariants as kind
use Rattle.iam_policy.specs.Reading.{Reads, PolicyValue}
use Rattle.iam_shape.specs.Shape.{each}
use Rattle.iam_shape.specs.View.{WorldViewValue}
use Rattle.iam_shape.specs.declared.path.Name.{Name}
use Rattle.iam_shape.specs.declared.path.Name.TheVariants.{Accounts, Principals, Resources, Org, Identity, Boundary, SessionPolicies, Control}
use Rattle.iam_shape.specs.declared.path.Name.TheVariants as name
use Rattle.iam_shape.specs.declared.path.Path.{Path}
use Rattle.iam_shape.specs.declared.path.Path.TheVariants.{Field, Entry, Leaf}
use Rattle.iam_world.specs.Reads.{ReadsAccount, ReadsOptional, ReadsPrincipal, ReadsResource, ReadsWorld}
use Rattle.iam_world.specs.World.{AccountValue, PrincipalValue, ResourceValue, WorldValue, world_statements}
use Rattle.iam_world.specs.WorldFault.{Document, documents, numbered, boundary_documents, control_documents, identity_documents, level_documents, org_documents, resource_documents, session_documents, statement_total}
use Rattle.iam_world.proofs.Walks.{zip_length}

abbrev document_statements : Document → ℕ
document_statements document = length (statements_in document.value)

abbrev policy_statements : PolicyValue → ℕ
policy_statements policy = length policy.statements

-- how many statements these policies have
abbrev count_in : List PolicyValue → ℕ
count_in policies = sum_by policy_statements policies

of_two : (xs ys : List Document) (ps qs : List PolicyValue) → statement_total xs ≡ count_in ps → statement_total ys ≡ count_in qs
    → statement_total (xs ++ ys) ≡ count_in (ps ++ qs)
of_two xs ys ps qs one two =
    sum_by-append document_statements xs ys ∙ ap (λ n. n + statement_total ys) one ∙ ap (λ n. count_in ps + n) two ∙ sym (sum_by-append policy_statements ps qs)

of_list : (kind : Kind) (at : ℕ → Path) (i : ℕ) (ds : List Data) (policies : List PolicyValue) → AllZip (Reads kind) ds policies
    → statement_total (numbered kind at i ds) ≡ count_in policies
of_list kind at i [] [] zip = refl
of_list kind at i [] (p ∷ ps) zip = absurd zip
of_list kind at i (d ∷ ds) [] zip = absurd zip
of_list kind at i (d ∷ ds) (p ∷ ps) zip =
    let rest : List Document = numbered kind at (i + 1) ds in
    sum_by-cons document_statements (record { path = at i; kind = kind; value = d }) rest
    ∙ ap (λ n. n + statement_total rest) (zip_length _ _ p.statements zip.0.statements)
    ∙ ap (λ n. length p.statements + n) (of_list kind at (i + 1) ds ps zip.1)
    ∙ sym (sum_by-cons policy_statements p ps)

of_optional : (kind : Kind) (at : ℕ → Path) (d : Option Data) (policy : Option PolicyValue) → ReadsOptional kind d policy
    → statement_total (numbered kind at 0 (option_to_list d)) ≡ count_in (option_to_list policy)
of_optional kind at d policy reads = of_list kind at 0 (option_to_list d) (option_to_list policy) reads

-- of each member of a list
of_members : {X Y : Type 0} (docs : ℕ → X → List Document) (policies : Y → List PolicyValue) (R : X → Y → Type 0)
    → ((i : ℕ) (x : X) (y : Y) → R x y → statement_total (docs i x) ≡ count_in (policies y)) → (i : ℕ) (xs : List X) (ys : List Y) → AllZip R xs ys
    → statement_total (each docs i xs) ≡ count_in (flat_map policies ys)
of_members docs policies R step i [] [] zip = refl
of_members docs policies R step i [] (y ∷ ys) zip = absurd zip
of_members docs policies R step i (x ∷ xs) [] zip = absurd zip
of_members docs policies R step i (x ∷ xs) (y ∷ ys) zip =
    of_two (docs i x) (each docs (i + 1) xs) (policies y) (flat_map policies ys) (step i x y zip.0) (of_members docs policies R step (i + 1) xs ys zip.1)

-- of levels
of_levels : (kind : Kind) (list : Name) (i : ℕ) (name : Name) (levels : List (List Data)) (policies : List (List PolicyValue)) → AllZip (AllZip (Reads kind)) levels policies
    → statement_total (level_documents kind list i name levels) ≡ count_in (flat_map (λ (level : List PolicyValue). level) policies)
of_levels kind list i name levels policies zip =
    of_members (λ j ds. numbered kind (Leaf list i name j) 0 ds) (λ (level : List PolicyValue). level) (AllZip (Reads kind))
    (λ j ds ps reads. of_list kind (Leaf list i name j) 0 ds ps reads) 0 levels policies zip

pub statements_same : (view : WorldViewValue) (world : WorldValue) → ReadsWorld view world → statement_total (documents view) ≡ world_statements world
statements_same view world reads =
    let orgs = λ (a : AccountValue). flat_map (λ (level : List PolicyValue). level) a.org in
    let controls = λ (x : ResourceValue). flat_map (λ (level : List PolicyValue). level) x.control in
    let attached = λ (x : ResourceValue). option_to_list x.policy in
    let own = λ (p : PrincipalValue). p.identity in
    let boundary = λ (p : PrincipalValue). option_to_list p.boundary in
    let session = λ (p : PrincipalValue). p.session in
    let one = of_members org_documents orgs ReadsAccount (λ i v a r. of_levels kind.Org Accounts i Org v.org a.org r.org) 0 view.accounts world.accounts reads.accounts in
    let control = of_members control_documents controls ReadsResource (λ i v x r. of_levels kind.Control Resources i Control v.control x.control r.control) 0 view.resources
    world.resources reads.resources in
    let two = of_members resource_documents attached ReadsResource
    (λ i v x r. of_optional kind.Resource (λ j. Field Resources i name.Policy) v.policy x.policy r.policy) 0 view.resources world.resources reads.resources in
    let three = of_members identity_documents own ReadsPrincipal
    (λ i v p r. of_list kind.Identity (Entry Principals i Identity) 0 v.identity p.identity r.identity) 0 view.principals world.principals reads.principals in
    let four = of_members boundary_documents boundary ReadsPrincipal
    (λ i v p r. of_optional kind.Identity (λ j. Field Principals i Boundary) v.boundary p.boundary r.boundary) 0 view.principals world.principals reads.principals in
    let five = of_members session_documents session ReadsPrincipal
    (λ i v p r. of_list kind.Identity (Entry Principals i SessionPolicies) 0 v.session_policies p.session r.session) 0 view.principals world.principals reads.principals in
    let boundaries = each boundary_documents 0 view.principals in
    let sessions = each session_documents 0 view.principals in
    let identities = each identity_documents 0 view.principals in
    let sessions_of = flat_map session world.principals in
    let boundaries_of = flat_map boundary world.principals in
    let last = of_two boundaries sessions boundaries_of sessions_of four five in
    let principals = of_two identities (boundaries ++ sessions) (flat_map own world.principals) (boundaries_of ++ sessions_of) three last in
    let behind_control = of_two (each resource_documents 0 view.resources) (identities ++ (boundaries ++ sessions)) (flat_map attached world.resources)
    (flat_map own world.principals ++ (boundaries_of ++ sessions_of)) two principals in
    let behind_accounts = of_two (each control_documents 0 view.resources) (each resource_documents 0 view.resources ++ (identities ++ (boundaries ++ sessions)))
    (flat_map controls world.resources) (flat_map attached world.resources ++ (flat_map own world.principals ++ (boundaries_of ++ sessions_of))) control behind_control in
    of_two (each org_documents 0 view.accounts)
    (each control_documents 0 view.resources ++ (each resource_documents 0 view.resources ++ (identities ++ (boundaries ++ sessions)))) (flat_map orgs world.accounts)
    (flat_map controls world.resources ++ (flat_map attached world.resources ++ (flat_map own world.principals ++ (boundaries_of ++ sessions_of)))) one behind_accounts
