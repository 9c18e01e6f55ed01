-- Levels that do not bind change nothing.
use Rattle.std.proofs.Common.{◌≡◌, ◌⊎◌, inl, inr, ℕ, suc, zero, Bool, List, [], ◌∷◌, Option, Some, true, false, cond, refl, sym, ap, ◌∙◌, subst}
use Rattle.std.specs.List.{AllZip, find, slice_get}
use Rattle.std.specs.Str.{bytes_eq}
use Rattle.iam_policy.specs.Reading.{PolicyValue}
use Rattle.iam_decision.specs.Applicable.{ApplicableValue}
use Rattle.iam_world.specs.World.{AccountValue, PrincipalValue, ResourceValue, WorldValue, account_with}
use Rattle.iam_layers.specs.Applicable.{applicable_of, levels_unless, manages, org_of}
use Rattle.iam_layers.specs.Cell.{IsAccessAt}
use Rattle.iam_layers.specs.Laws
use Rattle.iam_layers.specs.Laws.{IsSameButFreeControl, IsSameButFreeOrg}

-- the element at this place of the other list
zip_get : {X : Type 0} (R : X → X → Type 0) (xs ys : List X) (i : ℕ) (x : X) → AllZip R xs ys → slice_get xs i ≡ Some x
    → (y : X) × (slice_get ys i ≡ Some y) × R x y
zip_get R [] ys i x all is = absurd (let wrong : ⊥ = cc in wrong)
zip_get R (z ∷ xs) [] i x all is = absurd all
zip_get R (z ∷ xs) (y ∷ ys) zero x all is = let same : z ≡ x = cc in (y, refl, subst (λ w. R w y) same all.0)
zip_get R (z ∷ xs) (y ∷ ys) (suc i) x all is = zip_get R xs ys i x all.1 is

-- the levels that bind are the same
free_levels : (m : Bool) (levels others : List (List PolicyValue)) → (m ≡ true) ⊎ (others ≡ levels)
    → levels_unless m others ≡ levels_unless m levels
free_levels true levels others free = refl
free_levels false levels others (inl managing) = absurd (let wrong : ⊥ = cc in wrong)
free_levels false levels others (inr same) = same

-- what is looked up of an account
abbrev binding : Option AccountValue → List (List PolicyValue)
binding account = levels_unless (manages account) (org_of account)

-- the account with this id, of a list
abbrev look : List ℕ → List AccountValue → Option AccountValue
look id accounts = find (λ account. bytes_eq account.id id) accounts

-- both accounts manage their organisation or neither does, and the same levels bind
abbrev BindAlike : Option AccountValue → Option AccountValue → Type 0
BindAlike account other = (manages other ≡ manages account) × (binding other ≡ binding account)

in_one_account : (account other : AccountValue) → IsSameButFreeOrg account other → BindAlike (Some account) (Some other)
in_one_account account other same = (
  same.management,
  ap (λ m. levels_unless m other.org) same.management ∙ free_levels account.management account.org other.org same.org,
)

same_accounts : (id : List ℕ) (accounts others : List AccountValue) → AllZip IsSameButFreeOrg accounts others
    → BindAlike (look id accounts) (look id others)
same_accounts id [] [] all = (refl, refl)
same_accounts id [] (other ∷ others) all = absurd all
same_accounts id (account ∷ accounts) [] all = absurd all
same_accounts id (account ∷ accounts) (other ∷ others) all =
    by-test (bytes_eq account.id id) (bytes_eq other.id id) (ap (λ text. bytes_eq text id) all.0.id) (same_accounts id accounts others all.1)
  where
    by-test : (here there : Bool) → there ≡ here → BindAlike (look id accounts) (look id others)
        → BindAlike (cond here (Some account) (look id accounts)) (cond there (Some other) (look id others))
    by-test true true is rest = in_one_account account other all.0
    by-test false false is rest = rest
    by-test true false is rest = absurd (let wrong : ⊥ = cc in wrong)
    by-test false true is rest = absurd (let wrong : ⊥ = cc in wrong)

-- the same policies apply
applicable_same : (world : WorldValue) (accounts : List AccountValue) (resources : List ResourceValue) (principal : PrincipalValue)
    (resource : ResourceValue) (control : List (List PolicyValue)) → AllZip IsSameButFreeOrg world.accounts accounts
    → (manages (account_with resource.account world) ≡ true) ⊎ (control ≡ resource.control)
    → applicable_of (record world { accounts = accounts; resources = resources }) principal (record resource { control = control })
    ≡ applicable_of world principal resource
applicable_same world accounts resources principal resource control all free =
    let asks = same_accounts principal.requester.account world.accounts accounts all in
    let owns = same_accounts resource.account world.accounts accounts all in
    let A : List (List PolicyValue) → List (List PolicyValue) → ApplicableValue =
    λ org levels. record (applicable_of world principal resource) { org = org; control = levels } in
    let bound : levels_unless (manages (look resource.account accounts)) control
    ≡ levels_unless (manages (look resource.account world.accounts)) resource.control =
    ap (λ m. levels_unless m control) owns.0
    ∙ free_levels (manages (look resource.account world.accounts)) resource.control control free in
    ap (λ org. A org (levels_unless (manages (look resource.account accounts)) control)) asks.1
    ∙ ap (λ levels. A (binding (look principal.requester.account world.accounts)) levels) bound

pub management_is_not_bound : Laws.ManagementIsNotBound
management_is_not_bound world accounts resources p a r verdict all each (applicable, request, (access, action, at, is_action, request_is), is) =
    let found = zip_get (IsSameButFreeControl world) world.resources resources r at.resource each at.resource_is in
    let other : ResourceValue = record at.resource { control = found.0.control } in
    let there : IsAccessAt (record world { accounts = accounts; resources = resources }) p r applicable access = record {
      principal = at.principal;
      resource = other;
      derived = at.derived;
      principal_is = at.principal_is;
      resource_is = found.1 ∙ ap Some found.2.rest;
      derived_is = at.derived_is;
      applicable_is = at.applicable_is
          ∙ sym (applicable_same world accounts resources at.principal at.resource found.0.control all found.2.control);
      access_is = at.access_is;
    } in
    (applicable, request, (access, action, there, is_action, request_is), is)
