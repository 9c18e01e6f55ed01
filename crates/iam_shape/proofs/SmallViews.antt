-- The lists of a small document are short.
use Rattle.std.proofs.Common.{◌≡◌, inl, inr, ℕ, suc, zero, ◌<◌, ◌≤◌, ◌^◌, List, [], ◌∷◌, length, Option, Some, None, option_and_then, refl, ap, arith}
use Rattle.std.specs.List.{AllByRecursion, AllZip, slice_get}
use Rattle.serde_json.specs.Data.{Data}
use Rattle.serde_json.specs.Find.{get}
use Rattle.serde_json.specs.Read.{read}
use Rattle.iam_json.specs.Look.{values}
use Rattle.iam_json.specs.Size.{size}
use Rattle.iam_shape.specs.Few.{HasFewDocuments, HasFewLevels, HasFewLists}
use Rattle.iam_shape.specs.Path.{name_text}
use Rattle.iam_shape.specs.Shape.{list_at, member}
use Rattle.iam_shape.specs.Code.Walk.{IsLevel}
use Rattle.iam_shape.specs.View.{PrincipalViewValue, WorldViewValue, IsAccountView, IsPrincipalView, IsResourceView, IsView, HasLevels, HasListOf, HasListOrNone}
use Rattle.iam_shape.specs.declared.path.Name.{Name}
use Rattle.iam_shape.specs.declared.path.Name.TheVariants.{Accounts, Principals, Resources, Org, Identity, SessionPolicies, Control}

module _
    (of_read : (bytes : List ℕ) (d : Data) → read bytes ≡ Some d → size d ≤ length bytes)
    (of_list : (d : Data) (list : List Data) → values d ≡ Some list → length list < size d)
    (of_member : (name : List ℕ) (d value : Data) → get name d ≡ Some value → size value ≤ size d)
    (of_item : (d value : Data) (list : List Data) (i : ℕ) → values d ≡ Some list → slice_get list i ≡ Some value → size value < size d)
  where
    -- a list that stands under a name is the list of a value that is no larger
    list_in : (name : Name) (d : Data) (list : List Data) → list_at name d ≡ Some list → (value : Data) × (size value ≤ size d) × (values value ≡ Some list)
    list_in name d list at = go (member name d) refl at
      where
        go : (o : Option Data) → member name d ≡ o → option_and_then values o ≡ Some list → (value : Data) × (size value ≤ size d) × (values value ≡ Some list)
        go None is at = cc
        go (Some value) is at = (value, of_member (name_text name) d value is, at)

    -- its items are no larger either
    item_in : (name : Name) (d : Data) (list : List Data) → list_at name d ≡ Some list → (i : ℕ) (value : Data) → slice_get list i ≡ Some value → size value ≤ size d
    item_in name d list at i value here = let found = list_in name d list at in omega (arith, of_item found.0 value list i found.2 here, found.1)

    short_list : (name : Name) (d : Data) (list : List Data) → list_at name d ≡ Some list → length list ≤ size d
    short_list name d list at = let found = list_in name d list at in omega (arith, of_list found.0 list found.2, found.1)

    short : (name : Name) (d : Data) (list : List Data) → HasListOrNone name d list → length list ≤ size d
    short name d list (inl at) = short_list name d list at
    short name d list (inr none) = let same : length list ≡ 0 = ap length none.1 in omega arith

    -- what each value of a list says is few, where that of each value of at most n values is
    each_few : {A : Type 0} (Says : Data → A → Type 0) (Few : A → Type 0) (n : ℕ) → ((d : Data) (x : A) → size d ≤ n → Says d x → Few x) → (ds : List Data)
        → ((i : ℕ) (value : Data) → slice_get ds i ≡ Some value → size value ≤ n) → (xs : List A) → AllZip Says ds xs → AllByRecursion Few xs
    each_few Says Few n one [] within [] zip = tt
    each_few Says Few n one [] within (x ∷ xs) zip = absurd zip
    each_few Says Few n one (d ∷ ds) within [] zip = absurd zip
    each_few Says Few n one (d ∷ ds) within (x ∷ xs) zip =
        (one d x (within zero d refl) zip.0, each_few Says Few n one ds (λ i value at. within (suc i) value at) xs zip.1)

    list_few : {A : Type 0} (Says : Data → A → Type 0) (Few : A → Type 0) (n : ℕ) → ((d : Data) (x : A) → size d ≤ n → Says d x → Few x) → (name : Name) (d : Data)
        → size d ≤ n → (xs : List A) → HasListOf Says name d xs → AllByRecursion Few xs
    list_few Says Few n one name d small xs (ds, at, zip) =
        each_few Says Few n one ds (λ i value here. let within : size value ≤ size d = item_in name d ds at i value here in omega arith) xs zip

    few_documents : (n : ℕ) → n < 2 ^ 32 → (d : Data) (p : PrincipalViewValue) → size d ≤ n → IsPrincipalView d p → HasFewDocuments p
    few_documents n small d p within says =
        let identity : length p.identity ≤ size d = short Identity d p.identity says.identity in
        let session : length p.session_policies ≤ size d = short SessionPolicies d p.session_policies says.session_policies in
        record { identity = omega arith; session = omega arith }

    few_policies : (n : ℕ) → n < 2 ^ 32 → (d : Data) (list : List Data) → size d ≤ n → values d ≡ Some list → length list < 2 ^ 32
    few_policies n small d list within is = omega (arith, of_list d list is)

    same_length : {A : Type 0} (Says : Data → A → Type 0) (ds : List Data) (xs : List A) → AllZip Says ds xs → length xs ≡ length ds
    same_length Says [] [] zip = refl
    same_length Says [] (x ∷ xs) zip = absurd zip
    same_length Says (d ∷ ds) [] zip = absurd zip
    same_length Says (d ∷ ds) (x ∷ xs) zip = let rest : length xs ≡ length ds = same_length Says ds xs zip.1 in omega arith

    few_levels : (n : ℕ) → n < 2 ^ 32 → (name : Name) (d : Data) (levels : List (List Data)) → size d ≤ n → HasLevels name d levels → HasFewLevels levels
    few_levels n small name d levels within (inl (ds, at, zip)) =
        let long : length ds ≤ size d = short_list name d ds at in
        let same : length levels ≡ length ds = same_length IsLevel ds levels zip in
        record {
          levels_few = omega arith;
          policies_few = list_few IsLevel (λ level. length level < 2 ^ 32) n (few_policies n small) name d within levels (ds, at, zip);
        }
    few_levels n small name d [] within (inr none) = record { levels_few = omega arith; policies_few = tt }
    few_levels n small name d (level ∷ levels) within (inr none) = let wrong : level ∷ levels ≡ [] = none.1 in cc

    pub few : (bytes : List ℕ) (d : Data) (world : WorldViewValue) → length bytes ≤ 8388608 → read bytes ≡ Some d → IsView d world → HasFewLists world
    few bytes d world short is says =
        let whole : size d ≤ length bytes = of_read bytes d is in
        let small : size d < 2 ^ 32 = omega arith in
        let same : size d ≤ size d = omega arith in
        record {
          principals = list_few IsPrincipalView HasFewDocuments (size d) (few_documents (size d) small) Principals d same world.principals says.principals;
          accounts =
              list_few IsAccountView (λ account. HasFewLevels account.org) (size d) (λ e account within is. few_levels (size d) small Org e account.org within is.org) Accounts d same
              world.accounts says.accounts;
          resources =
              list_few IsResourceView (λ resource. HasFewLevels resource.control) (size d)
              (λ e resource within is. few_levels (size d) small Control e resource.control within is.control) Resources d same world.resources says.resources;
        }
