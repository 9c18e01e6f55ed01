-- Which principals, actions and resources are meant, and which requests are selected.
use Rattle.std.proofs.Common.{◌≡◌, ◌↔◌, ℕ, zero, suc, ◌+◌, ◌*◌, ◌<◌, ◌||◌, Bool, true, false, IsTrue, List, [], ◌∷◌, ◌++◌, Some, chars, get_or, length, length-append, refl, sym, ap, subst, ◌∙◌, ⊎_elim, arith}
use Rattle.std.specs.List.{list_any, slice_get}
use Rattle.std.proofs.lemmas.Bool.{cases_lt}
use Rattle.std.proofs.lemmas.Option.{slice_get-get_or, slice_get_within}
use Rattle.iam_glob.specs.Glob.{Matches, MatchesFold}
use Rattle.iam_glob.specs.declared.sign.Sign.{Sign}
use Rattle.iam_layers.specs.Cell.{IsAction, IsCell, IsPrincipal, IsResource, principal_text}
use Rattle.iam_layers.specs.Laws.{OneTriple}
use Rattle.iam_world.specs.World.{ResourceValue, WorldValue}
use Rattle.iam_row.specs.Report.{HasTexts}
use Rattle.iam_selection.specs.Selection.{IsMeant, IsSelected, SelectionValue, SelectsSome}
use Rattle.iam_selection.specs.Code.Listing.{AreFlags, IsActionMeant, IsPrincipalMeant, IsResourceMeant}

pub no_flags : (P : ℕ → Type 0) → AreFlags P 0 []
no_flags P = record { count_is = refl; each = λ i flag at. absurd (let wrong : ⊥ = cc in wrong) }

-- what stands in a list with one more item
get_before : (xs ys : List Bool) (i : ℕ) → i < length xs → slice_get (xs ++ ys) i ≡ slice_get xs i
get_before [] ys i h = absurd (omega arith)
get_before (x ∷ xs) ys zero h = refl
get_before (x ∷ xs) ys (suc i) h = get_before xs ys i (omega arith)

get_last : (xs : List Bool) (x : Bool) (i : ℕ) → i ≡ length xs → slice_get (xs ++ x ∷ []) i ≡ Some x
get_last [] x zero e = refl
get_last [] x (suc i) e = absurd (omega (arith, e))
get_last (y ∷ xs) x zero e = absurd (omega (arith, e))
get_last (y ∷ xs) x (suc i) e = get_last xs x i (omega (arith, e))

-- one more flag
pub more_flags : (P : ℕ → Type 0) (n : ℕ) (flags more : List Bool) (flag : Bool) → more ≡ flags ++ flag ∷ [] → AreFlags P n flags → (IsTrue flag ↔ P n) → AreFlags P (n + 1) more
more_flags P n flags more flag e are is = record {
  count_is = let both = length-append flags (flag ∷ []) in omega (arith, ap (λ (xs : List Bool). length xs) e, both, are.count_is);
  each = λ i other at.
      let there : slice_get (flags ++ flag ∷ []) i ≡ Some other = subst (λ (xs : List Bool). slice_get xs i ≡ Some other) e at in
      let inside = slice_get_within (flags ++ flag ∷ []) i other there in
      let both = length-append flags (flag ∷ []) in
      ⊎_elim (λ before. are.each i other (sym (get_before flags (flag ∷ []) i before) ∙ there))
      (λ past.
      let last : i ≡ length flags = omega (arith, past, inside, both) in
      let same : Some flag ≡ Some other = sym (get_last flags flag i last) ∙ there in
      let one : flag ≡ other = cc in
      let here : n ≡ i = omega (arith, last, are.count_is) in
      subst (λ k. IsTrue other ↔ P k) here (subst (λ b. IsTrue b ↔ P n) one is))
      (cases_lt i (length flags));
}

-- a principal is meant where its text is, and so are an action and a resource
pub principal_meant : (world : WorldValue) (patterns : List (List Sign)) (p : ℕ) (text : List ℕ) → IsPrincipal world p (λ principal. text ≡ principal_text principal) → (flag : Bool)
    → (IsTrue flag ↔ IsMeant (λ pattern. Matches pattern (chars text)) patterns)
    → IsTrue flag ↔ IsPrincipal world p (λ principal. IsMeant (λ pattern. Matches pattern (chars (principal_text principal))) patterns)
principal_meant world patterns p text (principal, at, e) flag is =
    let M : List ℕ → Type 0 = λ t. IsMeant (λ pattern. Matches pattern (chars t)) patterns in (
      λ h. (principal, at, subst M e (is.0 h)),
      λ other. let same : principal ≡ other.0 = cc in is.1 (subst M (sym (e ∙ ap principal_text same)) other.2),
    )

pub action_meant : (world : WorldValue) (patterns : List (List Sign)) (a : ℕ) (text : List ℕ) → IsAction world a text → (flag : Bool)
    → (IsTrue flag ↔ IsMeant (λ pattern. MatchesFold pattern (chars text)) patterns)
    → IsTrue flag ↔ ((t : List ℕ) × IsAction world a t × IsMeant (λ pattern. MatchesFold pattern (chars t)) patterns)
action_meant world patterns a text at flag is =
    let M : List ℕ → Type 0 = λ t. IsMeant (λ pattern. MatchesFold pattern (chars t)) patterns in (
      λ h. (text, at, is.0 h),
      λ other. let same : text ≡ other.0 = cc in is.1 (subst M (sym same) other.2),
    )

pub resource_meant : (world : WorldValue) (patterns : List (List Sign)) (r : ℕ) (text : List ℕ) → IsResource world r (λ resource. text ≡ resource.arn) → (flag : Bool)
    → (IsTrue flag ↔ IsMeant (λ pattern. Matches pattern (chars text)) patterns)
    → IsTrue flag ↔ IsResource world r (λ resource. IsMeant (λ pattern. Matches pattern (chars resource.arn)) patterns)
resource_meant world patterns r text (resource, at, e) flag is =
    let M : List ℕ → Type 0 = λ t. IsMeant (λ pattern. Matches pattern (chars t)) patterns in (
      λ h. (resource, at, subst M e (is.0 h)),
      λ other. let same : resource ≡ other.0 = cc in is.1 (subst M (sym (e ∙ ap (λ (x : ResourceValue). x.arn) same)) other.2),
    )

-- all three are meant
pub record AreMeant (selection : SelectionValue) (world : WorldValue) (p a r : ℕ) : Type 0 where
  pub principal : IsPrincipalMeant selection world p
  pub action : IsActionMeant selection world a
  pub resource : IsResourceMeant selection world r

-- a request is selected where all three are meant
pub selected_meant : OneTriple → (selection : SelectionValue) (world : WorldValue) (cell p a r : ℕ) → IsCell world cell p a r → IsSelected selection world cell
    → AreMeant selection world p a r
selected_meant triples selection world cell p a r is (texts, (q, b, s, there, has), asks) =
    let same = triples world cell q b s p a r there is in
    let here : HasTexts world p a r texts =
    subst (λ x. HasTexts world p a x texts) same.2 (subst (λ x. HasTexts world p x s texts) same.1 (subst (λ x. HasTexts world x b s texts) same.0 has)) in
    let M : List (List Sign) → List ℕ → Type 0 = λ patterns t. IsMeant (λ pattern. Matches pattern (chars t)) patterns in
    record {
      principal = (here.principal.0, here.principal.1, subst (M selection.principals) here.principal.2 asks.principal);
      action = (texts.action, here.action, asks.action);
      resource = (here.resource.0, here.resource.1, subst (M selection.resources) here.resource.2 asks.resource);
    }

pub meant_selected : (selection : SelectionValue) (world : WorldValue) (cell p a r : ℕ) → IsCell world cell p a r → AreMeant selection world p a r → IsSelected selection world cell
meant_selected selection world cell p a r is meant =
    let (principal, p_at, p_is) = meant.principal in
    let (action, a_at, a_is) = meant.action in
    let (resource, r_at, r_is) = meant.resource in (
      record { principal = principal_text principal; action = action; resource = resource.arn },
      (p, a, r, is, record { principal = (principal, p_at, refl); action = a_at; resource = (resource, r_at, refl) }),
      record { principal = p_is; action = a_is; resource = r_is },
    )

-- a flag by its place
some_at : (flags : List Bool) (i : ℕ) (flag : Bool) → i < length flags → flag ≡ get_or flags i flag → slice_get flags i ≡ Some flag
some_at [] i flag h e = absurd (omega (arith, h))
some_at (x ∷ flags) zero flag h e = ap Some (sym e)
some_at (x ∷ flags) (suc i) flag h e = some_at flags i flag (omega (arith, h)) e

pub flag_is : (P : ℕ → Type 0) (n : ℕ) (flags : List Bool) (i : ℕ) (flag : Bool) → AreFlags P n flags → i < n → flag ≡ get_or flags i flag → IsTrue flag ↔ P i
flag_is P n flags i flag are below e = are.each i flag (some_at flags i flag (omega (arith, below, are.count_is)) e)

-- one of the flags is set, at a place
some_set : (flags : List Bool) → IsTrue (list_any (λ flag. flag) flags) → (i : ℕ) × (slice_get flags i ≡ Some true)
some_set [] h = absurd (let wrong : ⊥ = cc in wrong)
some_set (true ∷ flags) h = (0, refl)
some_set (false ∷ flags) h = let (i, at) = some_set flags h in (suc i, at)

set_some : (flags : List Bool) (i : ℕ) (flag : Bool) → slice_get flags i ≡ Some flag → IsTrue flag → IsTrue (list_any (λ f. f) flags)
set_some [] i flag at h = absurd (let wrong : ⊥ = cc in wrong)
set_some (true ∷ flags) i flag at h = refl
set_some (false ∷ flags) zero flag at h = absurd (let same : Some false ≡ Some flag = at in let wrong : ⊥ = cc in wrong)
set_some (false ∷ flags) (suc i) flag at h = set_some flags i flag at h

-- something is meant where one of the flags is set
pub meant_of_flags : (P : ℕ → Type 0) (n : ℕ) (flags : List Bool) → AreFlags P n flags → IsTrue (list_any (λ flag. flag) flags) → (i : ℕ) × (i < n) × P i
meant_of_flags P n flags are h =
    let (i, at) = some_set flags h in
    let inside = slice_get_within flags i true at in (i, omega (arith, inside, are.count_is), (are.each i true at).0 refl)

pub flags_of_meant : (P : ℕ → Type 0) (n : ℕ) (flags : List Bool) (i : ℕ) → AreFlags P n flags → i < n → P i → IsTrue (list_any (λ flag. flag) flags)
flags_of_meant P n flags i are below holds =
    let flag = get_or flags i false in
    let at : slice_get flags i ≡ Some flag = slice_get-get_or flags i false (omega (arith, below, are.count_is)) in
    set_some flags i flag at ((are.each i flag at).1 holds)

-- some request is selected where of each one is meant
pub some_selected : (selection : SelectionValue) (world : WorldValue) (p a r : ℕ) → p < length world.principals → a < length world.actions
    → r < length world.resources → AreMeant selection world p a r → SelectsSome selection world
some_selected selection world p a r principal action resource meant =
    let cell = (p * length world.actions + a) * length world.resources + r in
    (cell, meant_selected selection world cell p a r (record { principal = principal; action = action; resource = resource; number = refl }) meant)
