-- What a world keeps of the document that it is read from.
use Rattle.std.proofs.Common.{◌≡◌, inl, inr, ℕ, ◌*◌, ◌<◌, ◌≤◌, ◌^◌, List, [], ◌∷◌, ◌++◌, map, length, Bool, true, false, cond, Option, Some, None, option_map, IfSome, refl, sym, ap, ◌∙◌, subst, arith}
use Rattle.std.specs.List.{AllByRecursion, AllZip, find, flat_map, zip}
use Rattle.std.proofs.lemmas.List.Folds.{flat_map-map}
use Rattle.serde_json.specs.Data.{Data}
use Rattle.iam_context.specs.Context.{ContextValue, keys_of}
use Rattle.iam_context.specs.ContextFault.{IsClean}
use Rattle.iam_context.specs.Requester.{RequesterValue}
use Rattle.iam_policy.specs.declared.fault.Kind.{Kind}
use Rattle.iam_policy.specs.declared.fault.Kind.TheVariants as kind
use Rattle.iam_policy.specs.Reading.{Reads, PolicyValue}
use Rattle.iam_shape.specs.Texts.{AreFirstPlaces, Places}
use Rattle.iam_shape.specs.Few.{HasFewDocuments, HasFewLevels, HasFewLists}
use Rattle.iam_shape.specs.View.{AccountViewValue, PrincipalViewValue, ResourceViewValue, WorldViewValue}
use Rattle.iam_world_context.specs.Clean.{AllClean, AreClean}
use Rattle.iam_world.specs.Invariants.{CanJoin, HasFewPolicies, IsSized}
use Rattle.iam_world.specs.Code.Made.{made_account, made_principal, made_resource}
use Rattle.iam_world_context.specs.Part.{part_of}
use Rattle.iam_world.specs.Reads.{ReadsAccount, ReadsOptional, ReadsPrincipal, ReadsResource, ReadsWorld}
use Rattle.iam_world.specs.World.{AccountValue, PrincipalValue, ResourceValue, WorldValue, world_cells}
use Rattle.iam_world_context.specs.Contexts.{principal_parts, resource_parts}
use Rattle.iam_world.specs.WorldFault.{IsOverLimits, IsRequesterAt, cell_count, documents, statement_total}
use Rattle.iam_world.proofs.Counts.{statements_same}
use Rattle.iam_world.proofs.Walks.{zip_length}

-- ---- putting together

pub reads_accounts : {Y : Type 0} (g : Y → List (List PolicyValue)) (vs : List AccountViewValue) (org : List Y) → AllZip (λ v o. AllZip (AllZip (Reads kind.Org)) v.org (g o)) vs org
    → AllZip ReadsAccount vs (map (λ p. made_account (p.0, g p.1)) (zip vs org))
reads_accounts g [] [] zip = tt
reads_accounts g [] (o ∷ org) zip = absurd zip
reads_accounts g (v ∷ vs) [] zip = absurd zip
reads_accounts g (v ∷ vs) (o ∷ org) zip = (record { id = refl; management = refl; org = zip.0 }, reads_accounts g vs org zip.1)

pub reads_resources : {X Y : Type 0} (f : X → List (List PolicyValue)) (g : Y → ContextValue) (vs : List ResourceViewValue) (ps : List (Option PolicyValue)) (ls : List X) (cs : List Y)
    → AllZip (λ v p. ReadsOptional kind.Resource v.policy p) vs ps → AllZip (λ v l. AllZip (AllZip (Reads kind.Control)) v.control (f l)) vs ls
    → map g cs ≡ map (λ v. part_of v.context) vs
    → AllZip ReadsResource vs (map (λ p. made_resource ((p.0.0, f p.0.1), g p.1)) (zip (zip (zip vs ps) ls) cs))
reads_resources f g [] [] [] cs p l same = tt
reads_resources f g [] (x ∷ ps) ls cs p l same = absurd p
reads_resources f g [] [] (x ∷ ls) cs p l same = absurd l
reads_resources f g (v ∷ vs) [] ls cs p l same = absurd p
reads_resources f g (v ∷ vs) (x ∷ ps) [] cs p l same = absurd l
reads_resources f g (v ∷ vs) (x ∷ ps) (y ∷ ls) [] p l same = cc
reads_resources f g (v ∷ vs) (x ∷ ps) (y ∷ ls) (c ∷ cs) p l same =
    let here : g c ≡ part_of v.context = cc in
    let rest : map g cs ≡ map (λ v. part_of v.context) vs = cc in
    (record { arn = refl; account = refl; policy = p.0; sealed = refl; context = here; control = l.0 }, reads_resources f g vs ps ls cs p.1 l.1 rest)

pub reads_principals : {Y : Type 0} (g : Y → ContextValue) (vs : List PrincipalViewValue) (rs : List RequesterValue) (identity : List (List PolicyValue))
    (boundary : List (Option PolicyValue)) (session : List (List PolicyValue)) (cs : List Y)
    → AllZip IsRequesterAt vs rs → AllZip (λ v own. AllZip (Reads kind.Identity) v.identity own) vs identity
    → AllZip (λ v p. ReadsOptional kind.Identity v.boundary p) vs boundary → AllZip (λ v own. AllZip (Reads kind.Identity) v.session_policies own) vs session
    → map g cs ≡ map (λ v. part_of v.context) vs
    → AllZip ReadsPrincipal vs (map (λ p. made_principal (p.0, g p.1)) (zip (zip (zip (zip rs identity) boundary) session) cs))
reads_principals g [] [] [] [] [] cs r i b s same = tt
reads_principals g [] (x ∷ rs) is bs ss cs r i b s same = absurd r
reads_principals g [] [] (x ∷ is) bs ss cs r i b s same = absurd i
reads_principals g [] [] [] (x ∷ bs) ss cs r i b s same = absurd b
reads_principals g [] [] [] [] (x ∷ ss) cs r i b s same = absurd s
reads_principals g (v ∷ vs) [] is bs ss cs r i b s same = absurd r
reads_principals g (v ∷ vs) (x ∷ rs) [] bs ss cs r i b s same = absurd i
reads_principals g (v ∷ vs) (x ∷ rs) (y ∷ is) [] ss cs r i b s same = absurd b
reads_principals g (v ∷ vs) (x ∷ rs) (y ∷ is) (z ∷ bs) [] cs r i b s same = absurd s
reads_principals g (v ∷ vs) (x ∷ rs) (y ∷ is) (z ∷ bs) (w ∷ ss) [] r i b s same = cc
reads_principals g (v ∷ vs) (x ∷ rs) (y ∷ is) (z ∷ bs) (w ∷ ss) (c ∷ cs) r i b s same =
    let here : g c ≡ part_of v.context = cc in
    let rest : map g cs ≡ map (λ v. part_of v.context) vs = cc in
    (record { requester = r.0; identity = i.0; boundary = b.0; session = s.0; context = here }, reads_principals g vs rs is bs ss cs r.1 i.1 b.1 s.1 rest)

-- ---- sizes

cells_same : (view : WorldViewValue) (world : WorldValue) → ReadsWorld view world → cell_count view ≡ world_cells world
cells_same view world reads =
    ap (λ n. n * length view.actions * length view.resources) (zip_length ReadsPrincipal view.principals world.principals reads.principals)
    ∙ ap (λ n. length world.principals * n * length view.resources) (ap length (sym reads.actions))
    ∙ ap (λ n. length world.principals * length world.actions * n) (zip_length ReadsResource view.resources world.resources reads.resources)

few : (vs : List PrincipalViewValue) (principals : List PrincipalValue) → AllByRecursion HasFewDocuments vs → AllZip ReadsPrincipal vs principals → AllByRecursion HasFewPolicies principals
few [] [] small zip = tt
few [] (p ∷ rest) small zip = absurd zip
few (v ∷ vs) [] small zip = absurd zip
few (v ∷ vs) (p ∷ rest) small zip =
    let identity : length v.identity ≡ length p.identity = zip_length (Reads kind.Identity) v.identity p.identity zip.0.identity in
    let session : length v.session_policies ≡ length p.session = zip_length (Reads kind.Identity) v.session_policies p.session zip.0.session in
    (record { identity = omega (arith, small.0.identity, identity); session = omega (arith, small.0.session, session) }, few vs rest small.1 zip.1)

few_in : (kind : Kind) (levels : List (List Data)) (policies : List (List PolicyValue)) → AllByRecursion (λ level. length level < 2 ^ 32) levels
    → AllZip (AllZip (Reads kind)) levels policies → AllByRecursion (λ level. length level < 2 ^ 32) policies
few_in kind [] [] small zip = tt
few_in kind [] (p ∷ policies) small zip = absurd zip
few_in kind (l ∷ levels) [] small zip = absurd zip
few_in kind (l ∷ levels) (p ∷ policies) small zip =
    let same : length l ≡ length p = zip_length (Reads kind) l p zip.0 in (omega (arith, small.0, same), few_in kind levels policies small.1 zip.1)

-- what is read of few levels is few
few_levels : {V X : Type 0} (kind : Kind) (f : V → List (List Data)) (g : X → List (List PolicyValue)) (R : V → X → Type 0)
    → ((v : V) (x : X) → R v x → AllZip (AllZip (Reads kind)) (f v) (g x)) → (vs : List V) (xs : List X) → AllByRecursion (λ v. HasFewLevels (f v)) vs → AllZip R vs xs
    → AllByRecursion (λ x. HasFewLevels (g x)) xs
few_levels kind f g R step [] [] small zip = tt
few_levels kind f g R step [] (x ∷ xs) small zip = absurd zip
few_levels kind f g R step (v ∷ vs) [] small zip = absurd zip
few_levels kind f g R step (v ∷ vs) (x ∷ xs) small zip =
    let read = step v x zip.0 in
    let same : length (f v) ≡ length (g x) = zip_length (AllZip (Reads kind)) (f v) (g x) read in (
      record { levels_few = omega (arith, small.0.levels_few, same); policies_few = few_in kind (f v) (g x) small.0.policies_few read },
      few_levels kind f g R step vs xs small.1 zip.1,
    )

-- what holds of each element holds of one that is found
holds_found : {X : Type 0} (P : X → Type 0) (p : X → Bool) (xs : List X) → AllByRecursion P xs → IfSome (find p xs) P
holds_found P p [] all = tt
holds_found P p (x ∷ xs) all = go (p x) all.0 (holds_found P p xs all.1)
  where
    go : (b : Bool) → P x → IfSome (find p xs) P → IfSome (cond b (Some x) (find p xs)) P
    go true here later = here
    go false here later = later

some_of_map : {V X : Type 0} (P : X → Type 0) (f : V → X) (found : Option V) → IfSome (option_map f found) P → IfSome found (λ v. P (f v))
some_of_map P f None all = all
some_of_map P f (Some v) all = all

-- and so of what is lent
pub found_holds : {V X : Type 0} (P : X → Type 0) (f : V → X) (p : X → Bool) (xs : List X) (found : Option V) → option_map f found ≡ find p xs → AllByRecursion P xs
    → IfSome found (λ v. P (f v))
found_holds P f p xs found is all =
    some_of_map P f found (subst (λ o. IfSome o P) (sym is) (holds_found P p xs all))

-- ---- contexts

same_parts : {V X : Type 0} (R : V → X → Type 0) (f : V → ContextValue) (g : X → ContextValue) → ((v : V) (x : X) → R v x → g x ≡ f v) → (vs : List V) (xs : List X) → AllZip R vs xs
    → map g xs ≡ map f vs
same_parts R f g step [] [] zip = refl
same_parts R f g step [] (x ∷ xs) zip = absurd zip
same_parts R f g step (v ∷ vs) [] zip = absurd zip
same_parts R f g step (v ∷ vs) (x ∷ xs) zip = ap (λ c. c ∷ map g xs) (step v x zip.0) ∙ ap (λ rest. f v ∷ rest) (same_parts R f g step vs xs zip.1)

of_map : {X Y : Type 0} (P : Y → Type 0) (g : X → Y) (xs : List X) → AllByRecursion P (map g xs) → AllByRecursion (λ x. P (g x)) xs
of_map P g [] all = tt
of_map P g (x ∷ xs) all = (all.0, of_map P g xs all.1)

can_join : (view : WorldViewValue) (world : WorldValue) → ReadsWorld view world → AllClean (part_of view.context) (principal_parts view) (resource_parts view) → CanJoin world
can_join view world reads clean =
    let own = clean.own in
    let ps = clean.principals_clean in
    let rs = clean.resources_clean in
    let principals : map (λ (p : PrincipalValue). p.context) world.principals ≡ principal_parts view =
    same_parts ReadsPrincipal (λ v. part_of v.context) (λ p. p.context) (λ v p r. r.context) view.principals world.principals reads.principals in
    let resources : map (λ (r : ResourceValue). r.context) world.resources ≡ resource_parts view =
    same_parts ReadsResource (λ v. part_of v.context) (λ r. r.context) (λ v x r. r.context) view.resources world.resources reads.resources in
    let keys : keys_of (part_of view.context) ≡ keys_of world.context = ap keys_of (sym reads.context) in
    let all : keys_of (part_of view.context) ++ flat_map keys_of (principal_parts view) ≡ keys_of world.context ++ flat_map (λ (p : PrincipalValue). keys_of p.context) world.principals =
    ap (λ ks. ks ++ flat_map keys_of (principal_parts view)) keys
    ∙ ap (λ parts. keys_of world.context ++ flat_map keys_of parts) (sym principals)
    ∙ ap (λ ks. keys_of world.context ++ ks) (flat_map-map keys_of (λ (p : PrincipalValue). p.context) world.principals) in
    record {
      own = subst (IsClean []) (sym reads.context) own;
      principals =
          of_map (IsClean (keys_of world.context)) (λ (p : PrincipalValue). p.context) world.principals
          (subst (AreClean (keys_of world.context)) (sym principals) (subst (λ ks. AreClean ks (principal_parts view)) keys ps));
      resources =
          of_map (IsClean (keys_of world.context ++ flat_map (λ (p : PrincipalValue). keys_of p.context) world.principals)) (λ (r : ResourceValue). r.context) world.resources
          (subst (AreClean (keys_of world.context ++ flat_map (λ (p : PrincipalValue). keys_of p.context) world.principals)) (sym resources)
          (subst (λ ks. AreClean ks (resource_parts view)) all rs));
    }

-- ---- the whole

same_ids : (vs : List AccountViewValue) (accounts : List AccountValue) → AllZip ReadsAccount vs accounts → map (λ account. account.id) accounts ≡ map (λ account. account.id) vs
same_ids [] [] zip = refl
same_ids [] (a ∷ accounts) zip = absurd zip
same_ids (v ∷ vs) [] zip = absurd zip
same_ids (v ∷ vs) (a ∷ accounts) zip = ap (λ id. id ∷ map (λ (account : AccountValue). account.id) accounts) zip.0.id ∙ ap (λ rest. v.id ∷ rest) (same_ids vs accounts zip.1)

-- a world that is read of a document within the limits is within them
pub sized : (view : WorldViewValue) (world : WorldValue) (cells statements : ℕ) (numbers : Places) → ReadsWorld view world → HasFewLists view → view.moment ≤ 253402300799
    → cells ≡ cell_count view → statements ≡ statement_total (documents view) → (¬ IsOverLimits view)
    → AllClean (part_of view.context) (principal_parts view) (resource_parts view) → AreFirstPlaces numbers (map (λ account. account.id) view.accounts)
    → IsSized world cells statements numbers
sized view world cells statements numbers reads small moment cells_is statements_is within clean numbered = record {
  cells_are = cells_is ∙ cells_same view world reads;
  statements_are = statements_is ∙ statements_same view world reads;
  few_cells = at_most cells 16777216 (λ many. within (inl (subst (λ n. 16777216 < n) cells_is many)));
  few_statements = at_most statements 4096 (λ many. within (inr (subst (λ n. 4096 < n) statements_is many)));
  policies = few view.principals world.principals small.principals reads.principals;
  orgs = few_levels kind.Org (λ v. v.org) (λ a. a.org) ReadsAccount (λ v a read. read.org) view.accounts world.accounts small.accounts reads.accounts;
  controls =
      few_levels kind.Control (λ v. v.control) (λ r. r.control) ReadsResource (λ v r read. read.control) view.resources world.resources small.resources reads.resources;
  moment = subst (λ n. n ≤ 253402300799) (sym reads.moment) moment;
  contexts = can_join view world reads clean;
  numbered = subst (AreFirstPlaces numbers) (sym (same_ids view.accounts world.accounts reads.accounts)) numbered;
}
  where
    at_most : (n m : ℕ) → (¬ (m < n)) → n ≤ m
    at_most n m not = omega (arith, not)
