-- The keys that resources give, and conditions that ask for none of them.
use Rattle.std.proofs.Common.{◌≡◌, ◌↔◌, ◌∙◌, ℕ, zero, suc, ◌+◌, Bor, List, [], ◌∷◌, ◌++◌, All, false, IfSome, Option, None, Some, arith, take, sym, ap, subst}
use Rattle.std.proofs.lemmas.List.{append-nil, take_more}
use Rattle.std.proofs.lemmas.List.Concat.{flat_map-append}
use Rattle.std.proofs.lemmas.List.Folds.{list_any-append}
use Rattle.std.proofs.lemmas.Option.{get_or_from_slice_get, slice_get_within}
use Rattle.std.specs.List.{flat_map, slice_get}
use Rattle.std.specs.Option.{option_copied}
use Rattle.iam_context.specs.Context.{ContextValue, has_key, is_same_key, keys_of}
use Rattle.iam_policy.specs.Reading.{StatementValue}
use Rattle.iam_match.specs.Entry.{EntryHolds}
use Rattle.iam_unasked.specs.Asks.{AgreeBut}
use Rattle.iam_unasked.proofs.AgreeLemmas.{all_same, contexts_agree, neither}
use Rattle.iam_world.specs.World.{PrincipalValue, ResourceValue, WorldValue}
use Rattle.iam_layers.specs.Cell.{IsContextAt}
use Rattle.iam_layers.specs.Derived.{context_of}
use Rattle.iam_index.specs.Given.{IsFree, given_keys}
use Rattle.iam_index.proofs.ListLemmas.{some_same}

abbrev own_keys : ResourceValue → List (List ℕ)
own_keys resource = keys_of resource.context

-- the keys of one resource more
pub given_more : (resources : List ResourceValue) (r : ℕ) (resource : ResourceValue) → slice_get resources r ≡ Some resource
    → flat_map own_keys (take (r + 1) resources) ≡ flat_map own_keys (take r resources) ++ keys_of resource.context
given_more resources r resource at =
    ap (flat_map own_keys) (
    take_more resources r resource (slice_get_within resources r resource at)
    ∙ ap (λ (x : ResourceValue). take r resources ++ (x ∷ [])) (get_or_from_slice_get resources r resource resource at)
    )
    ∙ flat_map-append own_keys (take r resources) (resource ∷ [])
    ∙ ap (λ (l : List (List ℕ)). flat_map own_keys (take r resources) ++ l) (append-nil (keys_of resource.context))

-- a key that no resource gives is not given by this one
not_given : (resources : List ResourceValue) (r : ℕ) (resource : ResourceValue) (key : List ℕ) → slice_get resources r ≡ Some resource
    → has_key (flat_map own_keys resources) key ≡ false → has_key (keys_of resource.context) key ≡ false
not_given [] r resource key at free = let within = slice_get_within [] r resource at in absurd (omega (arith, within))
not_given (x ∷ xs) zero resource key at free =
    let both =
    neither (has_key (own_keys x) key) (has_key (flat_map own_keys xs) key)
    (sym (list_any-append (λ (k : List ℕ). is_same_key k key) (own_keys x) (flat_map own_keys xs)) ∙ free) in
    subst (λ (y : ResourceValue). has_key (keys_of y.context) key ≡ false) (some_same x resource at) both.0
not_given (x ∷ xs) (suc r) resource key at free =
    let both =
    neither (has_key (own_keys x) key) (has_key (flat_map own_keys xs) key)
    (sym (list_any-append (λ (k : List ℕ). is_same_key k key) (own_keys x) (flat_map own_keys xs)) ∙ free) in
    not_given xs r resource key at both.1

-- conditions that ask for none hold in both of two contexts of a principal that have the same derived keys, or in neither
pub held_alike : (world : WorldValue) (p r other : ℕ) (derived one two : ContextValue) (s : StatementValue) → IsFree world s
    → IsContextAt world p r derived one → IsContextAt world p other derived two
    → All (EntryHolds one) s.conditions ↔ All (EntryHolds two) s.conditions
held_alike world p r other derived one two s free (principal, at, (resource, there, is)) (also, at_also, (another, there_too, is_too)) =
    let same : also ≡ principal = some_same also principal (sym at_also ∙ at) in
    let agree =
    contexts_agree (given_keys world) world.context principal.context resource.context another.context derived
    (λ key unasked. (not_given world.resources r resource key there unasked, not_given world.resources other another key there_too unasked)) in
    let is_two : context_of world principal another derived ≡ two =
    sym (is_too ∙ ap (λ (x : PrincipalValue). context_of world x another derived) same) in
    let A : ContextValue → Type 0 = λ c. AgreeBut (given_keys world) c two in
    let B : ContextValue → Type 0 = λ c. AgreeBut (given_keys world) (context_of world principal resource derived) c in
    all_same (given_keys world) one two s.conditions (subst A (sym is) (subst B is_two agree)) free

-- what is lent has a property of what it is lent from
pub if_lent : {X : Type 0} (P : X → Type 0) (lent : Option (Bor X)) (own : Option X) → option_copied lent ≡ own → IfSome own P
    → IfSome lent (λ x. P x.now)
if_lent P None own same is = tt
if_lent P (Some x) own same is = subst (λ o. IfSome o P) (sym same) is
