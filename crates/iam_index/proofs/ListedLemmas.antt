-- Lists of statements, one more at a time.
use Rattle.std.proofs.Common.{◌≡◌, ◌<◌, inl, inr, ℕ, List, [], ◌∷◌, ◌++◌, length, Some, ap, map, refl, sym, subst, arith, ◌∙◌}
use Rattle.std.proofs.lemmas.Option.{slice_get_within}
use Rattle.std.specs.List.{slice_get}
use Rattle.iam_decision.specs.Applicable.{ApplicableValue}
use Rattle.iam_decision.specs.Code.Scan.{placed_value, resource_placed}
use Rattle.iam_decision.specs.Living.{AreCandidates}
use Rattle.iam_decision.specs.Matched.{Placed, in_layer}
use Rattle.iam_decision.specs.declared.place.Layer.TheVariants as layer
use Rattle.iam_decision.specs.declared.scan.Standing.{Standing}
use Rattle.iam_policy.specs.Reading.{PolicyValue}
use Rattle.iam_world.specs.World.{WorldValue}
use Rattle.iam_layers.specs.Applicable.{applicable_of}
use Rattle.iam_layers.specs.Cell.{IsApplicableAt}
use Rattle.iam_layers.specs.Code.Statements.{HaveSameOrg}
use Rattle.iam_index.specs.Index.{AreListed, AreLists, AreOrgs, AreResourceLists, HasOrg, HaveOrgs, HasResourceList, IsListOf, IsOrg, ListsOrg, ListsRequester, ListsResource}
use Rattle.iam_index.specs.declared.lists.Listed.{Listed}
use Rattle.iam_index.specs.declared.lists.Org.{Org}
use Rattle.iam_index.proofs.ListLemmas.{get_back, get_more, get_within}

pub lists_more : (P : ℕ → List Standing → Type 0) (lists : List Listed) (listed : Listed) → P (length lists) listed.statements.items → AreLists P lists
    → AreLists P (lists ++ listed ∷ [])
lists_more P lists listed is all i other at =
    elim (get_back lists listed i other at) [
      | inl before ↦ all i other before
      | inr (last, same) ↦
          let Q : ℕ → Type 0 = λ k. P k listed.statements.items in
          let R : Listed → Type 0 = λ l. P i l.statements.items in
          subst R (sym same) (subst Q (sym last) is)
    ]

-- a list with the statements of that of a resource
pub has_same_list : (world : WorldValue) (lists : List Listed) (r n : ℕ) (statements : List Standing) → IsListOf lists n (map placed_value statements)
    → ListsResource world r statements → HasResourceList world lists r n
has_same_list world lists r n statements (listed, at, same) is =
    (listed, at, λ p a there. let P : List Placed → Type 0 = AreCandidates world.actions (resource_placed a) in subst P (sym same) (is p a there))

list_grows : (world : WorldValue) (lists more : List Listed) (r n : ℕ) → HasResourceList world lists r n → HasResourceList world (lists ++ more) r n
list_grows world lists more r n (listed, at, is) = (listed, get_more lists more n listed at, is)

pub resource_lists_more : (world : WorldValue) (lists more : List Listed) (numbers : List ℕ) (number : ℕ)
    → HasResourceList world (lists ++ more) (length numbers) number → AreResourceLists world lists numbers
    → AreResourceLists world (lists ++ more) (numbers ++ number ∷ [])
resource_lists_more world lists more numbers number has all r other at =
    elim (get_back numbers number r other at) [
      | inl before ↦ list_grows world lists more r other (all r other before)
      | inr (last, same) ↦
          let Q : ℕ → Type 0 = λ k. HasResourceList world (lists ++ more) k number in
          let R : ℕ → Type 0 = λ o. HasResourceList world (lists ++ more) r o in
          subst R (sym same) (subst Q (sym last) has)
    ]

pub orgs_more : (world : WorldValue) (orgs : List Org) (org : Org) → IsOrg world org.principal org → AreOrgs world orgs
    → AreOrgs world (orgs ++ org ∷ [])
orgs_more world orgs org is all n other at =
    elim (get_back orgs org n other at) [
      | inl before ↦ all n other before
      | inr (last, same) ↦ let R : Org → Type 0 = λ o. IsOrg world o.principal o in subst R (sym same) is
    ]

has_org_grows : (world : WorldValue) (orgs more : List Org) (p n : ℕ) → HasOrg world orgs p n → HasOrg world (orgs ++ more) p n
has_org_grows world orgs more p n (org, at, is) = (org, get_more orgs more n org at, is)

pub have_orgs_more : (world : WorldValue) (orgs more : List Org) (numbers : List ℕ) (number : ℕ)
    → HasOrg world (orgs ++ more) (length numbers) number → HaveOrgs world orgs numbers → HaveOrgs world (orgs ++ more) (numbers ++ number ∷ [])
have_orgs_more world orgs more numbers number has all p other at =
    elim (get_back numbers number p other at) [
      | inl before ↦ has_org_grows world orgs more p other (all p other before)
      | inr (last, same) ↦
          let Q : ℕ → Type 0 = λ k. HasOrg world (orgs ++ more) k number in
          let R : ℕ → Type 0 = λ o. HasOrg world (orgs ++ more) p o in
          subst R (sym same) (subst Q (sym last) has)
    ]

-- the organisation of a principal is that of another whom the same one binds
pub same_is_org : (world : WorldValue) (p q : ℕ) (org : Org) → q < length world.principals → HaveSameOrg world p q → IsOrg world q org
    → IsOrg world p org
same_is_org world p q org below same is =
    let as_other : (r : ℕ) (a : ApplicableValue) → IsApplicableAt world p r a
    → (b : ApplicableValue) × IsApplicableAt world q r b × (b.org ≡ a.org) =
    λ r a (principal, p_at, (resource, r_at, e)).
    let (other, q_at) = get_within world.principals q below in
    let b = applicable_of world other resource in
    let there : IsApplicableAt world q r b = (other, q_at, (resource, r_at, refl)) in
    (b, there, sym (same r r a b (principal, p_at, (resource, r_at, e)) there)) in
    record {
      levels = λ r a at. let (b, there, orgs) = as_other r a at in is.levels r b there ∙ ap (λ (levels : List (List PolicyValue)). length levels) orgs;
      lists = λ r a at.
          let (b, there, orgs) = as_other r a at in
          let P : List (List PolicyValue) → Type 0 = λ levels. AreListed world (in_layer layer.Org levels) org.statements.items in
          subst P orgs (is.lists r b there);
    }

no_place : {X : Type 0} (xs : List X) (i : ℕ) (x : X) → length xs ≡ 0 → slice_get xs i ≡ Some x → ⊥
no_place xs i x none at = let within = slice_get_within xs i x at in omega (arith, within, none)

-- where there are no resources, or no principals, anything will do
pub no_resources_org : (world : WorldValue) (p : ℕ) (listed : List Standing) → length world.resources ≡ 0 → ListsOrg world p listed
no_resources_org world p listed none r a (principal, p_at, (resource, r_at, is)) = absurd (no_place world.resources r resource none r_at)

pub no_resources_own : (world : WorldValue) (p : ℕ) (listed : List Standing) → length world.resources ≡ 0 → ListsRequester world p listed
no_resources_own world p listed none r a (principal, p_at, (resource, r_at, is)) = absurd (no_place world.resources r resource none r_at)

pub no_principals : (world : WorldValue) (r : ℕ) (listed : List Standing) → length world.principals ≡ 0 → ListsResource world r listed
no_principals world r listed none p a (principal, p_at, (resource, r_at, is)) = absurd (no_place world.principals p principal none p_at)
