-- Bytes have one world at most, and one first fault.
use Rattle.std.proofs.Common.{◌≡◌, inl, inr, ℕ, List, Option, Some, None, true, false, refl, sym, ap, ◌∙◌, subst, arith}
use Rattle.std.specs.List.{AllZip}
use Rattle.serde_json.specs.Data.{Data}
use Rattle.iam_context.specs.Context.{ContextValue}
use Rattle.iam_context.specs.ContextFault.{IsPartFault}
use Rattle.iam_context.specs.declared.fault.ContextFault.{ContextFault}
use Rattle.iam_context.specs.declared.fault.ContextFault.TheVariants.{KeyTwice, DerivedKeyGiven}
use Rattle.iam_context.specs.declared.fault.ContextFault.TheVariants as context
use Rattle.iam_context.specs.Requester.{RequesterValue, IsRequesterOf}
use Rattle.iam_policy.specs.Fault.{IsLeastFault}
use Rattle.iam_policy.specs.Reading.{PolicyValue, Reads}
use Rattle.iam_policy.specs.declared.fault.Fault.{Fault}
use Rattle.iam_policy.specs.declared.fault.Kind.{Kind}
use Rattle.iam_policy.specs.declared.fault.Kind.TheVariants as kind
use Rattle.iam_policy.specs.declared.fault.Refused.{Refused}
use Rattle.iam_world.specs.Reads.{IsWorld, ReadsAccount, ReadsOptional, ReadsPrincipal, ReadsResource, ReadsWorld}
use Rattle.iam_shape.specs.Shape.{first_bad, shape_checks}
use Rattle.iam_shape.specs.View.{AccountViewValue, PrincipalViewValue, ResourceViewValue, WorldViewValue, IsView}
use Rattle.iam_world.specs.World.{AccountValue, PrincipalValue, ResourceValue, WorldValue}
use Rattle.iam_world_context.specs.Contexts.{Beside, IsFaulty, IsFirstFaulty, parts}
use Rattle.iam_world.specs.WorldFault.{Document, IsFirstRefused, IsFirstWorldFault, WorldHasFault, documents, world_number_of}
use Rattle.iam_world.specs.declared.fault.WorldFault.{WorldFault}
use Rattle.iam_world.specs.declared.fault.WorldFault.TheVariants.{NotJson, BadShape, BadRequester, BadAction, BadResourceArn, UnknownAccount, Context, Policy, TooLarge, OutOfMemory}
use Rattle.iam_shape.specs.declared.path.Path.{Path}
use Rattle.iam_world.specs.Code.Documents.{IsNotAccepted}
use Rattle.iam_world.proofs.FaultSet.{HasView, OneView, one_json, view_is}
use Rattle.iam_world.proofs.Firsts.{one_at, one_first}
use Rattle.iam_world.proofs.Walks.{zip_unique}

-- ---- one world

module _
    (one_view : OneView)
    (requester : (arn : List ℕ) (session : Option (List ℕ)) (r other : RequesterValue) → IsRequesterOf arn session r → IsRequesterOf arn session other → r ≡ other)
    (policy : (kind : Kind) (d : Data) (p q : PolicyValue) → Reads kind d p → Reads kind d q → p ≡ q)
  where
    one_list : (kind : Kind) (ds : List Data) (ps qs : List PolicyValue) → AllZip (Reads kind) ds ps → AllZip (Reads kind) ds qs → ps ≡ qs
    one_list kind ds ps qs one two = zip_unique (Reads kind) (policy kind) ds ps qs one two

    one_levels : (kind : Kind) (levels : List (List Data)) (ps qs : List (List PolicyValue)) → AllZip (AllZip (Reads kind)) levels ps → AllZip (AllZip (Reads kind)) levels qs → ps ≡ qs
    one_levels kind levels ps qs one two = zip_unique (AllZip (Reads kind)) (one_list kind) levels ps qs one two

    one_optional : (kind : Kind) (d : Option Data) (p q : Option PolicyValue) → ReadsOptional kind d p → ReadsOptional kind d q → p ≡ q
    one_optional kind None None None one two = refl
    one_optional kind None None (Some q) one two = absurd two
    one_optional kind None (Some p) q one two = absurd one
    one_optional kind (Some d) None q one two = absurd one
    one_optional kind (Some d) (Some p) None one two = absurd two
    one_optional kind (Some d) (Some p) (Some q) one two = ap Some (policy kind d p q one.0 two.0)

    one_account : (v : AccountViewValue) (a b : AccountValue) → ReadsAccount v a → ReadsAccount v b → a ≡ b
    one_account v a b one two =
        let id : a.id ≡ b.id = one.id ∙ sym two.id in
        let management : a.management ≡ b.management = one.management ∙ sym two.management in
        let org : a.org ≡ b.org = one_levels kind.Org v.org a.org b.org one.org two.org in
        λ i. record { id = id i; management = management i; org = org i }

    one_resource : (v : ResourceViewValue) (a b : ResourceValue) → ReadsResource v a → ReadsResource v b → a ≡ b
    one_resource v a b one two =
        let arn : a.arn ≡ b.arn = one.arn ∙ sym two.arn in
        let account : a.account ≡ b.account = one.account ∙ sym two.account in
        let attached : a.policy ≡ b.policy = one_optional kind.Resource v.policy a.policy b.policy one.policy two.policy in
        let sealed : a.sealed ≡ b.sealed = one.sealed ∙ sym two.sealed in
        let context : a.context ≡ b.context = one.context ∙ sym two.context in
        let control : a.control ≡ b.control = one_levels kind.Control v.control a.control b.control one.control two.control in
        λ i. record {
          arn = arn i;
          account = account i;
          policy = attached i;
          sealed = sealed i;
          context = context i;
          control = control i;
        }

    one_principal : (v : PrincipalViewValue) (p q : PrincipalValue) → ReadsPrincipal v p → ReadsPrincipal v q → p ≡ q
    one_principal v p q one two =
        let asker : p.requester ≡ q.requester = requester v.arn v.session_name p.requester q.requester one.requester two.requester in
        let identity : p.identity ≡ q.identity = one_list kind.Identity v.identity p.identity q.identity one.identity two.identity in
        let boundary : p.boundary ≡ q.boundary = one_optional kind.Identity v.boundary p.boundary q.boundary one.boundary two.boundary in
        let session : p.session ≡ q.session = one_list kind.Identity v.session_policies p.session q.session one.session two.session in
        let context : p.context ≡ q.context = one.context ∙ sym two.context in
        λ i. record { requester = asker i; identity = identity i; boundary = boundary i; session = session i; context = context i }

    one_reading : (view : WorldViewValue) (v w : WorldValue) → ReadsWorld view v → ReadsWorld view w → v ≡ w
    one_reading view v w one two =
        let moment : v.moment ≡ w.moment = one.moment ∙ sym two.moment in
        let accounts : v.accounts ≡ w.accounts = zip_unique ReadsAccount one_account view.accounts v.accounts w.accounts one.accounts two.accounts in
        let principals : v.principals ≡ w.principals =
        zip_unique ReadsPrincipal one_principal view.principals v.principals w.principals one.principals two.principals in
        let actions : v.actions ≡ w.actions = one.actions ∙ sym two.actions in
        let resources : v.resources ≡ w.resources = zip_unique ReadsResource one_resource view.resources v.resources w.resources one.resources two.resources in
        let context : v.context ≡ w.context = one.context ∙ sym two.context in
        λ i. record {
          moment = moment i;
          accounts = accounts i;
          principals = principals i;
          actions = actions i;
          resources = resources i;
          context = context i;
        }

    pub one_world : (bytes : List ℕ) (v w : WorldValue) → IsWorld bytes v → IsWorld bytes w → v ≡ w
    one_world bytes v w one two =
        let value : two.value ≡ one.value = one_json bytes two.value one.value two.json one.json in
        let view : two.view ≡ one.view = one_view one.value two.view one.view (subst (λ d. IsView d two.view) value two.says) one.says in
        one_reading one.view v w one.reads (subst (λ x. ReadsWorld x w) view two.reads)

-- ---- one first fault

-- two things that a view makes equal
same_view : (one_view : OneView) {A : Type 0} (bytes : List ℕ) (P Q : WorldViewValue → Type 0) (x y : A) → ((world : WorldViewValue) → P world → Q world → x ≡ y) → HasView bytes P → HasView bytes Q → x ≡ y
same_view one_view bytes P Q x y step one two = step one.2.0 one.2.2 (view_is one_view bytes one.0 one.2.0 one.1 one.2.1 Q two)

module _
    (one_view : OneView)
    (least : (kind : Kind) (d : Data) (place other : Option ℕ) (fault fault' : Fault) → IsLeastFault kind d place fault → IsLeastFault kind d other fault'
    → (place ≡ other) × (fault ≡ fault'))
  where
    one_refused : (ds : List Document) (p q : Path) (r s : Refused) → IsFirstRefused ds p r → IsFirstRefused ds q s → Policy p r ≡ Policy q s
    one_refused ds p q r s (x, first, at, one) (y, first', at', two) =
        let same : y ≡ x = one_first IsNotAccepted ds y x first' first in
        let path : p ≡ q = at ∙ sym (ap (λ (d : Document). d.path) same) ∙ sym at' in
        let faults = least x.kind x.value r.statement s.statement r.fault s.fault one (subst (λ (d : Document). IsLeastFault d.kind d.value s.statement s.fault) same two) in
        λ i. Policy (path i) (record { statement = faults.0 i; fault = faults.1 i })

    one_part : (others : List (List ℕ)) (part : ContextValue) (f g : ContextFault) → IsPartFault others part f → IsPartFault others part g → f ≡ g
    one_part others part KeyTwice KeyTwice one two = refl
    one_part others part KeyTwice DerivedKeyGiven one two = let wrong : true ≡ false = sym one.holds ∙ two.least refl in cc
    one_part others part DerivedKeyGiven KeyTwice one two = let wrong : true ≡ false = sym two.holds ∙ one.least refl in cc
    one_part others part DerivedKeyGiven DerivedKeyGiven one two = refl
    one_part others part context.OutOfMemory g one two = let wrong : false ≡ true = one.holds in cc
    one_part others part f context.OutOfMemory one two = let wrong : false ≡ true = two.holds in cc

    one_faulty : (ps : List (Path × Beside)) (p q : Path) (f g : ContextFault) → IsFirstFaulty ps p f → IsFirstFaulty ps q g → Context p f ≡ Context q g
    one_faulty ps p q f g (x, first, one) (y, first', two) =
        let same : (q, y) ≡ (p, x) = one_first (λ (z : Path × Beside). IsFaulty z.1) ps (q, y) (p, x) first' first in
        let path : p ≡ q = sym (ap (λ (z : Path × Beside). z.0) same) in
        let beside : y ≡ x = ap (λ (z : Path × Beside). z.1) same in
        let fault : f ≡ g = one_part x.others x.part f g one (subst (λ (b : Beside). IsPartFault b.others b.part g) beside two) in
        λ i. Context (path i) (fault i)

    -- the set has one member of a number
    one_of : (bytes : List ℕ) (fault other : WorldFault) → world_number_of fault ≡ world_number_of other → WorldHasFault bytes fault → WorldHasFault bytes other → fault ≡ other
    one_of bytes NotJson NotJson number one two = refl
    one_of bytes (BadShape p) (BadShape q) number (d, json, one) (e, json', two) =
        let there : first_bad (shape_checks d) ≡ Some q = subst (λ x. first_bad (shape_checks x) ≡ Some q) (one_json bytes e d json' json) two in
        let same : Some p ≡ Some q = sym one ∙ there in
        let path : p ≡ q = cc in
        ap BadShape path
    one_of bytes (BadRequester p) (BadRequester q) number one two = ap BadRequester (same_view one_view bytes _ _ p q (λ world h k. one_at _ _ p q h k) one two)
    one_of bytes (BadAction p) (BadAction q) number one two = ap BadAction (same_view one_view bytes _ _ p q (λ world h k. one_at _ _ p q h k) one two)
    one_of bytes (BadResourceArn p) (BadResourceArn q) number one two = ap BadResourceArn (same_view one_view bytes _ _ p q (λ world h k. one_at _ _ p q h k) one two)
    one_of bytes (UnknownAccount p) (UnknownAccount q) number one two = ap UnknownAccount (same_view one_view bytes _ _ p q (λ world h k. one_at _ _ p q h k) one two)
    one_of bytes (Context p f) (Context q g) number one two =
        same_view one_view bytes _ _ (Context p f) (Context q g) (λ world h k. one_faulty (parts world) p q f g h k) one two
    one_of bytes (Policy p r) (Policy q s) number one two = same_view one_view bytes _ _ (Policy p r) (Policy q s) (λ world h k. one_refused (documents world) p q r s h k) one two
    one_of bytes TooLarge TooLarge number one two = refl
    one_of bytes OutOfMemory other number one two = absurd one
    one_of bytes fault other number one two = absurd (omega arith)

    pub one_first_fault : (bytes : List ℕ) (fault other : WorldFault) → IsFirstWorldFault bytes fault → IsFirstWorldFault bytes other → fault ≡ other
    one_first_fault bytes fault other (inl one) (inl two) = one.1 ∙ sym two.1
    one_first_fault bytes fault other (inl one) (inr two) = let long = one.0 in let short = two.0 in absurd (omega arith)
    one_first_fault bytes fault other (inr one) (inl two) = let long = two.0 in let short = one.0 in absurd (omega arith)
    one_first_fault bytes fault other (inr one) (inr two) =
        let first = one.1.least other two.1.holds in
        let second = two.1.least fault one.1.holds in
        let number : world_number_of fault ≡ world_number_of other = omega arith in
        one_of bytes fault other number one.1.holds two.1.holds

-- ---- not both

pub not_both : (bytes : List ℕ) (world : WorldValue) (fault : WorldFault) → IsWorld bytes world → ¬ IsFirstWorldFault bytes fault
not_both bytes world fault is (inl long) = let short = is.acceptable.0 in let many = long.0 in omega arith
not_both bytes world fault is (inr first) = is.acceptable.1 fault first.1.holds
