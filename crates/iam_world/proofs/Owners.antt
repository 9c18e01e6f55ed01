-- The first principal or resource of an account that the world does not have.
use Rattle.std.proofs.Common.{◌≡◌, ℕ, List, [], ◌∷◌, map, Bool, true, false, not, Option, Some, None, is_some, option_map, refl, sym, ap, ◌∙◌, subst}
use Rattle.std.specs.List.{AllByRecursion, AllZip, position_from}
use Rattle.std.specs.Prelude.{IsTrue}
use Rattle.iam_json.specs.Look.{is_one_of}
use Rattle.iam_context.specs.Requester.{RequesterValue, IsRequesterOf}
use Rattle.iam_world.specs.Code.ViewFault.{FindsFirst}
use Rattle.iam_shape.specs.Texts.{AreFirstPlaces, Places, has_text}
use Rattle.iam_shape.specs.View.{PrincipalViewValue, ResourceViewValue, WorldViewValue}
use Rattle.iam_shape.specs.First.{IsFirstAt, with_paths}
use Rattle.iam_world.specs.WorldFault.{IsOfUnknownAccount, IsRequesterAt, Owner, of_principal, of_resource, owners}
use Rattle.iam_shape.specs.declared.path.Name.TheVariants.{Principals, Resources}
use Rattle.iam_shape.specs.declared.path.Path.{Path}
use Rattle.iam_shape.specs.declared.path.Path.TheVariants.{Item}
use Rattle.std.specs.Str.{bytes_eq}
use Rattle.iam_world.proofs.Numbers.{has_place}
use Rattle.iam_world.proofs.Firsts.{first_here, first_later, found_by, none_append}

-- the world has an account of this id
abbrev has_account : WorldViewValue → List ℕ → Bool
has_account world id = is_one_of (map (λ account. account.id) world.accounts) id

not_true : (b : Bool) → not b ≡ true → b ≡ false
not_true true e = cc
not_true false e = refl

not_false : (b : Bool) → not b ≡ false → b ≡ true
not_false true e = refl
not_false false e = cc

module _ (world : WorldViewValue) (ids : Places) (has : AreFirstPlaces ids (map (λ account. account.id) world.accounts)) where
  told : (id : List ℕ) → has_text ids id ≡ has_account world id
  told id = ap is_some (has id) ∙ has_place (bytes_eq id) 0 (map (λ account. account.id) world.accounts)

  unknown : (id : List ℕ) → not (has_text ids id) ≡ true → ¬ IsTrue (has_account world id)
  unknown id e known = let wrong : false ≡ true = sym (not_true (has_text ids id) e) ∙ told id ∙ known in cc

  known : (id : List ℕ) → not (has_text ids id) ≡ false → IsTrue (has_account world id)
  known id e = sym (told id) ∙ not_false (has_text ids id) e

  abbrev User : Owner → RequesterValue → Type 0
  User owner r = (principal : PrincipalViewValue) × (owner ≡ of_principal principal) × IsRequesterAt principal r

  users : (ps : List PrincipalViewValue) (rs : List RequesterValue) → AllZip IsRequesterAt ps rs → AllZip User (map of_principal ps) rs
  users [] [] zip = zip
  users [] (r ∷ rs) zip = zip
  users (p ∷ ps) [] zip = zip
  users (p ∷ ps) (r ∷ rs) zip = ((p, refl, zip.0), users ps rs zip.1)

  -- the first requester of an unknown account
  pub first_user : ((arn : List ℕ) (session : Option (List ℕ)) (r other : RequesterValue) → IsRequesterOf arn session r → IsRequesterOf arn session other → r ≡ other)
      → (rs : List RequesterValue) → AllZip IsRequesterAt world.principals rs
      → FindsFirst (IsOfUnknownAccount world) (with_paths (Item Principals) 0 (map of_principal world.principals))
      (option_map (Item Principals) (position_from (λ r. not (has_text ids r.account)) 0 rs))
  first_user one rs zip =
      found_by User (IsOfUnknownAccount world) (λ r. not (has_text ids r.account)) holds fails (Item Principals) 0 (map of_principal world.principals) rs
      (users world.principals rs zip)
    where
      holds : (owner : Owner) (r : RequesterValue) → User owner r → not (has_text ids r.account) ≡ true → IsOfUnknownAccount world owner
      holds owner r (p, is, at) e = subst (IsOfUnknownAccount world) (sym is) (r.account, (r, at, refl), unknown r.account e)

      fails : (owner : Owner) (r : RequesterValue) → User owner r → not (has_text ids r.account) ≡ false → ¬ IsOfUnknownAccount world owner
      fails owner r (p, is, at) e off =
          let at_p = subst (IsOfUnknownAccount world) is off in
          let same : at_p.1.0 ≡ r = one p.arn p.session_name at_p.1.0 r at_p.1.1 at in
          let account : r.account ≡ at_p.0 = sym (at_p.1.2 ∙ ap (λ (x : RequesterValue). x.account) same) in
          at_p.2 (subst (λ id. IsTrue (has_account world id)) account (known r.account e))

  -- the first resource of an unknown account, where the code holds the resources as `vs`
  pub first_resource : {V : Type 0} (f : V → ResourceViewValue) (vs : List V) → map f vs ≡ world.resources
      → FindsFirst (IsOfUnknownAccount world) (with_paths (Item Resources) 0 (map of_resource world.resources))
      (option_map (Item Resources) (position_from (λ v. not (has_text ids (f v).account)) 0 vs))
  first_resource {V} f vs are =
      subst (λ rs. FindsFirst (IsOfUnknownAccount world) (with_paths (Item Resources) 0 (map of_resource rs)) (option_map (Item Resources) (position_from (λ v. not (has_text ids (f v).account)) 0 vs))) are
      (found_by (λ owner v. owner ≡ of_resource (f v)) (IsOfUnknownAccount world) (λ v. not (has_text ids (f v).account)) holds fails (Item Resources) 0
      (map of_resource (map f vs)) vs (each vs))
    where
      each : (vs : List V) → AllZip (λ owner v. owner ≡ of_resource (f v)) (map of_resource (map f vs)) vs
      each [] = tt
      each (v ∷ vs) = (refl, each vs)

      holds : (owner : Owner) (v : V) → owner ≡ of_resource (f v) → not (has_text ids (f v).account) ≡ true → IsOfUnknownAccount world owner
      holds owner v is e = subst (IsOfUnknownAccount world) (sym is) ((f v).account, refl, unknown (f v).account e)

      fails : (owner : Owner) (v : V) → owner ≡ of_resource (f v) → not (has_text ids (f v).account) ≡ false → ¬ IsOfUnknownAccount world owner
      fails owner v is e off =
          let at_v = subst (IsOfUnknownAccount world) is off in
          at_v.2 (subst (λ id. IsTrue (has_account world id)) (sym at_v.1) (known (f v).account e))

  -- an unknown account of a principal comes first
  pub in_users : (path : Path) → IsFirstAt (IsOfUnknownAccount world) (with_paths (Item Principals) 0 (map of_principal world.principals)) path
      → IsFirstAt (IsOfUnknownAccount world) (owners world) path
  in_users path (x, first) =
      (x, first_here (λ (y : Path × Owner). IsOfUnknownAccount world y.1) (with_paths (Item Principals) 0 (map of_principal world.principals)) (with_paths (Item Resources) 0 (map of_resource world.resources)) (path, x) first)

  -- where there is none, the resources decide
  pub in_resources : (found : Option Path) → AllByRecursion (λ (y : Path × Owner). ¬ IsOfUnknownAccount world y.1) (with_paths (Item Principals) 0 (map of_principal world.principals))
      → FindsFirst (IsOfUnknownAccount world) (with_paths (Item Resources) 0 (map of_resource world.resources)) found
      → FindsFirst (IsOfUnknownAccount world) (owners world) found
  in_resources None none rest =
      none_append (λ (y : Path × Owner). ¬ IsOfUnknownAccount world y.1) (with_paths (Item Principals) 0 (map of_principal world.principals)) (with_paths (Item Resources) 0 (map of_resource world.resources)) none rest
  in_resources (Some path) none (x, first) =
      (x, first_later (λ (y : Path × Owner). IsOfUnknownAccount world y.1) (with_paths (Item Principals) 0 (map of_principal world.principals)) (with_paths (Item Resources) 0 (map of_resource world.resources)) (path, x) none first)
