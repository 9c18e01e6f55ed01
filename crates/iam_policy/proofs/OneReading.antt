-- A document has one least fault, and is read as one policy.
use Rattle.std.proofs.Common.{◌≡◌, inl, inr, ℕ, suc, ◌≤◌, List, [], ◌∷◌, Bool, true, false, ◌&&◌, ◌||◌, Option, Some, None, IsSome, is_some, is_none, map, not, refl, sym, ap, ◌∙◌, subst, arith, codes}
use Rattle.std.specs.List.{AllZip, slice_get}
use Rattle.std.specs.Option.{option_map}
use Rattle.serde_json.specs.Data.{Data}
use Rattle.serde_json.specs.Find.{get}
use Rattle.iam_text.specs.declared.draft.Piece.{Piece}
use Rattle.iam_text.specs.declared.version.Version.{Version}
use Rattle.iam_text.specs.Draft.{IsDraftIn}
use Rattle.iam_condition.specs.Condition.{ReadsCondition}
use Rattle.iam_condition.specs.Entry.{EntryValue}
use Rattle.iam_policy.specs.declared.fault.Fault.{Fault}
use Rattle.iam_policy.specs.declared.fault.Fault.TheVariants.{ActionCount, BadPrincipal, PrincipalMisplaced, ResourceCount}
use Rattle.iam_policy.specs.declared.fault.Kind.{Kind}
use Rattle.iam_policy.specs.declared.fault.Kind.TheVariants.{Identity, Resource, Org, Control}
use Rattle.iam_element.specs.Element.{both, stands_as, texts_of}
use Rattle.iam_element.specs.Principal.{is_everyone}
use Rattle.iam_policy.specs.Fault.{IsAccepted, IsLeastFault, IsNotAfter, place_rank, statements_in}
use Rattle.iam_element.specs.Reading.{ActionElement, ResourceElement, PrincipalElement, PrincipalText, action_name, resource_name, principal_name, pattern_of, names_of, ReadsAction, ReadsText, ReadsResourceElement, ReadsPrincipalElement}
use Rattle.iam_policy.specs.Reading.{StatementValue, PolicyValue, ReadsConditions, ReadsStatement, Reads}
use Rattle.iam_policy.specs.Table.{number_of}
use Rattle.iam_policy.proofs.FaultLaws.{accepted_line}
use Rattle.iam_policy.proofs.TableLaws.{same_number}

same_rank : (place place' : Option ℕ) → place_rank place ≡ place_rank place' → place ≡ place'
same_rank None None e = refl
same_rank None (Some i) e = cc
same_rank (Some i) None e = cc
same_rank (Some i) (Some j) e = let same : i ≡ j = cc in ap (λ k. Some k) same

not_after_both : (place place' : Option ℕ) (fault fault' : Fault) → IsNotAfter place fault place' fault' → IsNotAfter place' fault' place fault
    → (place ≡ place') × (fault ≡ fault')
not_after_both place place' fault fault' (inl a) (inl b) = absurd (omega arith)
not_after_both place place' fault fault' (inl a) (inr b) = let same : place_rank place' ≡ place_rank place = b.0 in absurd (omega arith)
not_after_both place place' fault fault' (inr a) (inl b) = let same : place_rank place ≡ place_rank place' = a.0 in absurd (omega arith)
not_after_both place place' fault fault' (inr a) (inr b) =
    let low : number_of fault ≤ number_of fault' = a.1 in
    let high : number_of fault' ≤ number_of fault = b.1 in
    let same : number_of fault ≡ number_of fault' = omega arith in
    (same_rank place place' a.0, same_number fault fault' same)

pub least_is_one : (kind : Kind) (d : Data) (place place' : Option ℕ) (fault fault' : Fault) → IsLeastFault kind d place fault → IsLeastFault kind d place' fault'
    → (place ≡ place') × (fault ≡ fault')
least_is_one kind d place place' fault fault' a b =
    not_after_both place place' fault fault' (a.least place' fault' b.holds) (b.least place fault a.holds)

-- of two elements of which not both stand there, one stands there
same_element : (name : Bool → List ℕ) (s : Data) (x y : Bool) → both (get (name false) s) (get (name true) s) ≡ false
    → IsSome (get (name x) s) → IsSome (get (name y) s) → x ≡ y
same_element name s true true single a b = refl
same_element name s false false single a b = refl
same_element name s true false single a b = cc
same_element name s false true single a b = cc

-- neither stands there, and yet one does
none_stands : (name : Bool → List ℕ) (s : Data) (x : Bool) → get (name false) s ≡ None → get (name true) s ≡ None → IsSome (get (name x) s) → ⊥
none_stands name s true a b stands = cc
none_stands name s false a b stands = cc

action_is_one : (s : Data) (a b : ActionElement) → both (get (codes "Action") s) (get (codes "NotAction") s) ≡ false → ReadsAction s a → ReadsAction s b → a ≡ b
action_is_one s a b single p q =
    let same : a.negated ≡ b.negated = same_element action_name s a.negated b.negated single p.stands q.stands in
    let patterns : a.patterns ≡ b.patterns = p.patterns ∙ ap (λ n. map pattern_of (texts_of (get (action_name n) s))) same ∙ sym q.patterns in
    ap (λ n. record { negated = n; patterns = a.patterns }) same ∙ ap (λ ps. record { negated = b.negated; patterns = ps }) patterns

-- lists that are read element by element from one list
zip_is_one : {A B : Type 0} (R : A → B → Type 0) (xs : List A) (ys zs : List B)
    → ((i : ℕ) (x : A) → slice_get xs i ≡ Some x → (y z : B) → R x y → R x z → y ≡ z) → AllZip R xs ys → AllZip R xs zs → ys ≡ zs
zip_is_one R [] [] [] one p q = refl
zip_is_one R [] [] (z ∷ zs) one p q = absurd q
zip_is_one R [] (y ∷ ys) zs one p q = absurd p
zip_is_one R (x ∷ xs) [] zs one p q = absurd p
zip_is_one R (x ∷ xs) (y ∷ ys) [] one p q = absurd q
zip_is_one R (x ∷ xs) (y ∷ ys) (z ∷ zs) one p q =
    ap (λ w. w ∷ ys) (one 0 x refl y z p.0 q.0) ∙ ap (λ ws. z ∷ ws) (zip_is_one R xs ys zs (λ i v at. one (suc i) v at) p.1 q.1)

-- a text has at most one draft
abbrev OneDraft : Type 0
OneDraft = (version : Version) (wild : Bool) (text : List ℕ) (pieces other : List Piece) → IsDraftIn version wild text pieces → IsDraftIn version wild text other → pieces ≡ other

resource_is_one : OneDraft → (version : Version) (s : Data) (a b : Option ResourceElement) → both (get (codes "Resource") s) (get (codes "NotResource") s) ≡ false
    → ReadsResourceElement version s a → ReadsResourceElement version s b → a ≡ b
resource_is_one one version s None None single p q = refl
resource_is_one one version s None (Some b) single p q = absurd (none_stands resource_name s b.negated p.0 p.1 q.0)
resource_is_one one version s (Some a) None single p q = absurd (none_stands resource_name s a.negated q.0 q.1 p.0)
resource_is_one one version s (Some a) (Some b) single p q =
    let same : a.negated ≡ b.negated = same_element resource_name s a.negated b.negated single p.0 q.0 in
    let P : Bool → Type 0 = λ n. AllZip (ReadsText version) (texts_of (get (resource_name n) s)) a.texts in
    let texts : a.texts ≡ b.texts =
    zip_is_one (ReadsText version) (texts_of (get (resource_name b.negated) s)) a.texts b.texts (λ i t at x y. one version true t x y) (subst P same p.1) q.1 in
    ap (λ n. Some (record { negated = n; texts = a.texts })) same ∙ ap (λ ts. Some (record { negated = b.negated; texts = ts })) texts

stands : (o : Option Data) (names : List PrincipalText) → option_map names_of o ≡ Some names → IsSome o
stands None names e = cc
stands (Some d) names e = refl

principal_is_one : (s : Data) (a b : Option PrincipalElement) → both (get (codes "Principal") s) (get (codes "NotPrincipal") s) ≡ false
    → ReadsPrincipalElement s a → ReadsPrincipalElement s b → a ≡ b
principal_is_one s None None single p q = refl
principal_is_one s None (Some b) single p q = absurd (none_stands principal_name s b.negated p.0 p.1 (stands (get (principal_name b.negated) s) b.names q))
principal_is_one s (Some a) None single p q = absurd (none_stands principal_name s a.negated q.0 q.1 (stands (get (principal_name a.negated) s) a.names p))
principal_is_one s (Some a) (Some b) single p q =
    let same : a.negated ≡ b.negated =
    same_element principal_name s a.negated b.negated single (stands (get (principal_name a.negated) s) a.names p) (stands (get (principal_name b.negated) s) b.names q) in
    let found : Some a.names ≡ Some b.names = sym p ∙ ap (λ n. option_map names_of (get (principal_name n) s)) same ∙ q in
    let names : a.names ≡ b.names = cc in
    ap (λ n. Some (record { negated = n; names = a.names })) same ∙ ap (λ ns. Some (record { negated = b.negated; names = ns })) names

-- no element stands there beside its negated one
both_false : (a b : Bool) → (a || b) ≡ false → a ≡ false
both_false true b e = cc
both_false false b e = refl

neither_both : (a b : Bool) → (a || b) ≡ false → (a && b) ≡ false
neither_both true b e = cc
neither_both false b e = refl

-- `Principal` that is `*`, alone
alone : (p q : Option Data) → not (stands_as is_everyone p && is_none q) ≡ false → both p q ≡ false
alone None q e = refl
alone (Some p) None e = refl
alone (Some p) (Some q) e = go (is_everyone p) e
  where
    go : (b : Bool) → not (b && false) ≡ false → true ≡ false
    go true h = cc
    go false h = cc

single_principal : (kind : Kind) (d : Data) (i : ℕ) (s : Data) → IsAccepted kind d → slice_get (statements_in d) i ≡ Some s
    → both (get (codes "Principal") s) (get (codes "NotPrincipal") s) ≡ false
single_principal Identity d i s none at =
    neither_both (is_some (get (codes "Principal") s)) (is_some (get (codes "NotPrincipal") s)) (accepted_line Identity d i s PrincipalMisplaced none at)
single_principal Org d i s none at =
    neither_both (is_some (get (codes "Principal") s)) (is_some (get (codes "NotPrincipal") s)) (accepted_line Org d i s PrincipalMisplaced none at)
single_principal Resource d i s none at = both_false _ _ (both_false _ _ (accepted_line Resource d i s BadPrincipal none at))
single_principal Control d i s none at = alone (get (codes "Principal") s) (get (codes "NotPrincipal") s) (accepted_line Control d i s BadPrincipal none at)

-- a condition is read as at most one list of entries
abbrev OneCondition : Type 0
OneCondition = (version : Version) (condition : Data) (entries other : List EntryValue) → ReadsCondition version condition entries → ReadsCondition version condition other → entries ≡ other

conditions_are_one : OneCondition → (version : Version) (element : Option Data) (a b : List EntryValue) → ReadsConditions version element a → ReadsConditions version element b → a ≡ b
conditions_are_one one version None a b p q = p ∙ sym q
conditions_are_one one version (Some condition) a b p q = one version condition a b p q

statement_is_one : OneDraft → OneCondition → (kind : Kind) (d : Data) → IsAccepted kind d → (version : Version) (i : ℕ) (s : Data) → slice_get (statements_in d) i ≡ Some s
    → (a b : StatementValue) → ReadsStatement version s a → ReadsStatement version s b → a ≡ b
statement_is_one one entries kind d none version i s at a b p q =
    let sid : a.sid ≡ b.sid = p.sid ∙ sym q.sid in
    let found : Some a.effect ≡ Some b.effect = sym p.effect ∙ q.effect in
    let effect : a.effect ≡ b.effect = cc in
    let action : a.action ≡ b.action = action_is_one s a.action b.action (both_false _ _ (accepted_line kind d i s ActionCount none at)) p.action q.action in
    let resource : a.resource ≡ b.resource =
    resource_is_one one version s a.resource b.resource (both_false _ _ (accepted_line kind d i s ResourceCount none at)) p.resource q.resource in
    let principal : a.principal ≡ b.principal = principal_is_one s a.principal b.principal (single_principal kind d i s none at) p.principal q.principal in
    let conditions : a.conditions ≡ b.conditions = conditions_are_one entries version (get (codes "Condition") s) a.conditions b.conditions p.conditions q.conditions in
    ap (λ x. record a { sid = x }) sid
    ∙ ap (λ x. record a { sid = b.sid; effect = x }) effect
    ∙ ap (λ x. record b { action = x; resource = a.resource; principal = a.principal; conditions = a.conditions }) action
    ∙ ap (λ x. record b { resource = x; principal = a.principal; conditions = a.conditions }) resource
    ∙ ap (λ x. record b { principal = x; conditions = a.conditions }) principal
    ∙ ap (λ x. record b { conditions = x }) conditions

pub policy_is_one : OneDraft → OneCondition → (kind : Kind) (d : Data) (a b : PolicyValue) → Reads kind d a → Reads kind d b → a ≡ b
policy_is_one one entries kind d a b p q =
    let found : Some a.version ≡ Some b.version = sym p.version ∙ q.version in
    let version : a.version ≡ b.version = cc in
    let P : Version → Type 0 = λ v. AllZip (ReadsStatement v) (statements_in d) a.statements in
    let statements : a.statements ≡ b.statements =
    zip_is_one (ReadsStatement b.version) (statements_in d) a.statements b.statements (statement_is_one one entries kind d p.accepted b.version) (subst P version p.statements) q.statements in
    ap (λ v. record { version = v; statements = a.statements }) version ∙ ap (λ ss. record { version = b.version; statements = ss }) statements
