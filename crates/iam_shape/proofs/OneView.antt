-- A document says one thing.
use Rattle.std.proofs.Common.{◌≡◌, inl, inr, ℕ, List, [], ◌∷◌, Option, Some, None, option_and_then, refl, sym, ap, ◌∙◌, subst}
use Rattle.std.specs.List.{AllZip}
use Rattle.serde_json.specs.Data.{Data}
use Rattle.serde_json.specs.Find.{as_str}
use Rattle.iam_json.specs.Look.{values}
use Rattle.iam_shape.specs.Code.Walk.{IsLevel}
use Rattle.iam_shape.specs.View.{AccountViewValue, PrincipalViewValue, ResourceViewValue, WorldViewValue, HasLevels, HasListOf, HasListOrNone, IsAccountView, IsGivenBy, IsPrincipalView, IsResourceView, IsView}
use Rattle.iam_shape.specs.declared.path.Name.{Name}
use Rattle.iam_shape.specs.declared.path.Name.TheVariants.{Accounts, Principals, Actions, Resources, Org, Identity, SessionPolicies, Control}

-- where each element has one reading, so has a list
zip_unique : {X Y : Type 0} (R : X → Y → Type 0) → ((x : X) (y z : Y) → R x y → R x z → y ≡ z) → (xs : List X) (ys zs : List Y) → AllZip R xs ys → AllZip R xs zs → ys ≡ zs
zip_unique R step [] [] [] one two = refl
zip_unique R step [] [] (z ∷ zs) one two = absurd two
zip_unique R step [] (y ∷ ys) zs one two = absurd one
zip_unique R step (x ∷ xs) [] zs one two = absurd one
zip_unique R step (x ∷ xs) (y ∷ ys) [] one two = absurd two
zip_unique R step (x ∷ xs) (y ∷ ys) (z ∷ zs) one two =
    ap (λ a. a ∷ ys) (step x y z one.0 two.0) ∙ ap (λ rest. z ∷ rest) (zip_unique R step xs ys zs one.1 two.1)

one_some : {A : Type 0} (o : Option A) (x y : A) → o ≡ Some x → o ≡ Some y → x ≡ y
one_some o x y one two = let same : Some x ≡ Some y = sym one ∙ two in cc

-- what is something is not nothing
not_none : {A : Type 0} {B : Type 0} (f : A → Option B) (o : Option A) (x : B) → option_and_then f o ≡ Some x → o ≡ None → ⊥
not_none f o x is none = let wrong : None ≡ Some x = sym (ap (option_and_then f) none) ∙ is in cc

one_list_of : {A : Type 0} (Says : Data → A → Type 0) → ((d : Data) (x y : A) → Says d x → Says d y → x ≡ y) → (name : Name) (d : Data) (xs ys : List A)
    → HasListOf Says name d xs → HasListOf Says name d ys → xs ≡ ys
one_list_of Says step name d xs ys (ds, at, one) (es, at', two) =
    zip_unique Says step ds xs ys one (subst (λ fs. AllZip Says fs ys) (one_some _ es ds at' at) two)

one_levels : (name : Name) (d : Data) (xs ys : List (List Data)) → HasLevels name d xs → HasLevels name d ys → xs ≡ ys
one_levels name d xs ys (inl one) (inl two) = one_list_of IsLevel (λ level x y. one_some (values level) x y) name d xs ys one two
one_levels name d xs ys (inl one) (inr two) = absurd (not_none values _ one.0 one.1 two.0)
one_levels name d xs ys (inr one) (inl two) = absurd (not_none values _ two.0 two.1 one.0)
one_levels name d xs ys (inr one) (inr two) = one.1 ∙ sym two.1

one_list_or_none : (name : Name) (d : Data) (xs ys : List Data) → HasListOrNone name d xs → HasListOrNone name d ys → xs ≡ ys
one_list_or_none name d xs ys (inl one) (inl two) = one_some _ xs ys one two
one_list_or_none name d xs ys (inl one) (inr two) = absurd (not_none values _ xs one two.0)
one_list_or_none name d xs ys (inr one) (inl two) = absurd (not_none values _ ys two one.0)
one_list_or_none name d xs ys (inr one) (inr two) = one.1 ∙ sym two.1

one_account : (d : Data) (a b : AccountViewValue) → IsAccountView d a → IsAccountView d b → a ≡ b
one_account d a b one two =
    let id : a.id ≡ b.id = one_some _ a.id b.id one.id two.id in
    let management : a.management ≡ b.management = one.management ∙ sym two.management in
    let org : a.org ≡ b.org = one_levels Org d a.org b.org one.org two.org in
    λ i. record { id = id i; management = management i; org = org i }

-- a principal is given in one way
one_arn : (d : Data) (arn other : List ℕ) (session last : Option (List ℕ)) → IsGivenBy d arn session → IsGivenBy d other last → arn ≡ other
one_arn d arn other session last (inl one) (inl two) = one_some _ arn other one.1 two.1
one_arn d arn other session last (inl one) (inr two) = absurd (not_none as_str _ arn one.1 two.0)
one_arn d arn other session last (inr one) (inl two) = absurd (not_none as_str _ other two.1 one.0)
one_arn d arn other session last (inr one) (inr two) = one_some _ arn other one.1 two.1

one_session : (d : Data) (arn other : List ℕ) (session last : Option (List ℕ)) → IsGivenBy d arn session → IsGivenBy d other last → session ≡ last
one_session d arn other session last (inl one) (inl two) = one.2 ∙ sym two.2
one_session d arn other session last (inl one) (inr two) = absurd (not_none as_str _ arn one.1 two.0)
one_session d arn other session last (inr one) (inl two) = absurd (not_none as_str _ other two.1 one.0)
one_session d arn other session last (inr one) (inr two) = one.2 ∙ sym two.2

one_principal : (d : Data) (p q : PrincipalViewValue) → IsPrincipalView d p → IsPrincipalView d q → p ≡ q
one_principal d p q one two =
    let arn : p.arn ≡ q.arn = one_arn d p.arn q.arn p.session_name q.session_name one.requester two.requester in
    let session : p.session_name ≡ q.session_name = one_session d p.arn q.arn p.session_name q.session_name one.requester two.requester in
    let identity : p.identity ≡ q.identity = one_list_or_none Identity d p.identity q.identity one.identity two.identity in
    let boundary : p.boundary ≡ q.boundary = one.boundary ∙ sym two.boundary in
    let policies : p.session_policies ≡ q.session_policies =
    one_list_or_none SessionPolicies d p.session_policies q.session_policies one.session_policies two.session_policies in
    let context : p.context ≡ q.context = one.context ∙ sym two.context in
    λ i. record {
      arn = arn i;
      session_name = session i;
      identity = identity i;
      boundary = boundary i;
      session_policies = policies i;
      context = context i;
    }

one_resource : (d : Data) (r s : ResourceViewValue) → IsResourceView d r → IsResourceView d s → r ≡ s
one_resource d r s one two =
    let arn : r.arn ≡ s.arn = one_some _ r.arn s.arn one.arn two.arn in
    let account : r.account ≡ s.account = one_some _ r.account s.account one.account two.account in
    let policy : r.policy ≡ s.policy = one.policy ∙ sym two.policy in
    let sealed : r.sealed ≡ s.sealed = one.sealed ∙ sym two.sealed in
    let context : r.context ≡ s.context = one.context ∙ sym two.context in
    let control : r.control ≡ s.control = one_levels Control d r.control s.control one.control two.control in
    λ i. record {
      arn = arn i;
      account = account i;
      policy = policy i;
      sealed = sealed i;
      context = context i;
      control = control i;
    }

pub one_view : (d : Data) (v w : WorldViewValue) → IsView d v → IsView d w → v ≡ w
one_view d v w one two =
    let moment : v.moment ≡ w.moment = one_some _ v.moment w.moment one.moment two.moment in
    let accounts : v.accounts ≡ w.accounts = one_list_of IsAccountView one_account Accounts d v.accounts w.accounts one.accounts two.accounts in
    let principals : v.principals ≡ w.principals = one_list_of IsPrincipalView one_principal Principals d v.principals w.principals one.principals two.principals in
    let actions : v.actions ≡ w.actions =
    one_list_of (λ action text. as_str action ≡ Some text) (λ action x y. one_some (as_str action) x y) Actions d v.actions w.actions one.actions two.actions in
    let resources : v.resources ≡ w.resources = one_list_of IsResourceView one_resource Resources d v.resources w.resources one.resources two.resources in
    let context : v.context ≡ w.context = one.context ∙ sym two.context in
    λ i. record {
      moment = moment i;
      accounts = accounts i;
      principals = principals i;
      actions = actions i;
      resources = resources i;
      context = context i;
    }
