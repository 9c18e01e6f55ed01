-- The places of texts among others, and the requests of a world among those of another.
use Rattle.std.proofs.Common.{◌≡◌, ℕ, zero, suc, ◌+◌, ◌*◌, ◌<◌, get_or, length, take, cond, Bool, true, false, Contains, List, [], ◌∷◌, ◌++◌, Option, Some, None, refl, sym, ap, subst, ◌∙◌, ⊎_elim, arith}
use Rattle.std.specs.List.{AllZip, list_all, slice_get}
use Rattle.std.specs.Option.{is_some}
use Rattle.std.specs.Str.{bytes_eq}
use Rattle.std.proofs.lemmas.List.{length-map, length-take, take_more}
use Rattle.std.proofs.lemmas.List.Elements.{Contains-push_cases}
use Rattle.std.proofs.lemmas.Option.{get_or_from_slice_get, slice_get-map, slice_get_within}
use Rattle.std.proofs.lemmas.Slice.Eq.{bytes_eq-Decides}
use Rattle.std.proofs.lemmas.Slice.Zip.{AllZip-long}
use Rattle.std.specs.Option.{option_map}
use Rattle.iam_layers.specs.Cell.{IsCell, principal_text}
use Rattle.iam_layers.specs.Laws.{OneTriple}
use Rattle.iam_world.specs.World.{ResourceValue, WorldValue}
use Rattle.iam_row.specs.Report.{CellTexts, HasTexts, IsCellTexts}
use Rattle.iam_changes.specs.Code.Found.{IsNumberIn}
use Rattle.iam_changes.specs.Requests.{Has}
use Rattle.iam_changes.specs.Twice.{axis_texts}
use Rattle.iam_changes.specs.declared.twice.Axis.TheVariants.{Principals, Actions, Resources}
use Rattle.iam_changes.proofs.TwiceTexts.{contains_at, image_at}

-- ---- the place of a text

get_before : (xs ys : List (List ℕ)) (i : ℕ) (x : List ℕ) → slice_get xs i ≡ Some x → slice_get (xs ++ ys) i ≡ Some x
get_before [] ys i x at = absurd (let wrong : ⊥ = cc in wrong)
get_before (y ∷ xs) ys zero x at = at
get_before (y ∷ xs) ys (suc i) x at = get_before xs ys i x at

get_last : (xs : List (List ℕ)) (x : List ℕ) (i : ℕ) → i ≡ length xs → slice_get (xs ++ x ∷ []) i ≡ Some x
get_last [] x zero e = refl
get_last [] x (suc i) e = absurd (omega (arith, e))
get_last (y ∷ xs) x zero e = absurd (omega (arith, e))
get_last (y ∷ xs) x (suc i) e = get_last xs x i (omega (arith, e))

number_more : (others : List (List ℕ)) (key q : List ℕ) (o : Option ℕ) → IsNumberIn others q o → bytes_eq key q ≡ false → IsNumberIn (others ++ key ∷ []) q o
number_more others key q None not off = λ there.
    ⊎_elim not (λ same. let on = (bytes_eq-Decides key q).1 same in let wrong : ⊥ = cc in wrong) (Contains-push_cases others key q there)
number_more others key q (Some n) at off = get_before others (key ∷ []) n q at

-- one more text has its place
pub number_put : (others : List (List ℕ)) (i : ℕ) (key : List ℕ) (old new : List ℕ → Option ℕ) → i < length others → key ≡ get_or others i key
    → ((q : List ℕ) → IsNumberIn (take i others) q (old q)) → ((q : List ℕ) → new q ≡ cond (bytes_eq key q) (Some i) (old q))
    → (q : List ℕ) → IsNumberIn (take (i + 1) others) q (new q)
number_put others i key old new below is before put q =
    let next : take i others ++ key ∷ [] ≡ take (i + 1) others = ap (λ x. take i others ++ x ∷ []) is ∙ sym (take_more others i key below) in
    subst (λ xs. IsNumberIn xs q (new q)) next (subst (IsNumberIn (take i others ++ key ∷ []) q) (sym (put q)) (by (bytes_eq key q) refl))
  where
    few : length (take i others) ≡ i
    few = omega (arith, length-take i others, below)

    by : (b : Bool) → bytes_eq key q ≡ b → IsNumberIn (take i others ++ key ∷ []) q (cond b (Some i) (old q))
    by true e = subst (λ x. slice_get (take i others ++ key ∷ []) i ≡ Some x) ((bytes_eq-Decides key q).0 e) (get_last (take i others) key i (sym few))
    by false e = number_more (take i others) key q (old q) (before q) e

pub nothing_yet : (q : List ℕ) → IsNumberIn [] q None
nothing_yet q = λ there. absurd (let below = there.1 in omega (arith, below))

-- ---- what stands beside a text

pub zipped_at : {A B : Type 0} (R : A → B → Type 0) (xs : List A) (ys : List B) (i : ℕ) (x : A) (y : B) → AllZip R xs ys → slice_get xs i ≡ Some x → y ≡ get_or ys i y → R x y
zipped_at R [] [] i x y all at is = absurd (let wrong : ⊥ = cc in wrong)
zipped_at R [] (b ∷ ys) i x y all at is = absurd (let wrong : ⊥ = cc in wrong)
zipped_at R (a ∷ xs) [] i x y all at is = absurd all
zipped_at R (a ∷ xs) (b ∷ ys) zero x y all at is = let same : a ≡ x = cc in subst (λ z. R z y) same (subst (R a) (sym is) all.0)
zipped_at R (a ∷ xs) (b ∷ ys) (suc i) x y all at is = zipped_at R xs ys i x y all.1 at is

-- each has its place where none lacks one
pub number_there : (others texts : List (List ℕ)) (numbers : List (Option ℕ)) (i : ℕ) (text : List ℕ) → AllZip (IsNumberIn others) texts numbers
    → slice_get texts i ≡ Some text → ¬ (slice_get numbers i ≡ Some None) → (n : ℕ) × (slice_get others n ≡ Some text)
number_there others [] numbers i text all at some = absurd (let wrong : ⊥ = cc in wrong)
number_there others (x ∷ texts) [] i text all at some = absurd all
number_there others (x ∷ texts) (None ∷ numbers) zero text all at some = absurd (some refl)
number_there others (x ∷ texts) (Some n ∷ numbers) zero text all at some = (n, all.0 ∙ at)
number_there others (x ∷ texts) (number ∷ numbers) (suc i) text all at some = number_there others texts numbers i text all.1 at some

pub all_some : (numbers : List (Option ℕ)) → list_all is_some numbers ≡ true → (i : ℕ) → ¬ (slice_get numbers i ≡ Some None)
all_some [] h i at = let wrong : ⊥ = cc in wrong
all_some (None ∷ numbers) h i at = let wrong : ⊥ = cc in wrong
all_some (Some n ∷ numbers) h zero at = let wrong : ⊥ = cc in wrong
all_some (Some n ∷ numbers) h (suc i) at = all_some numbers h i at

-- a number that is there
pub some_at : (numbers : List (Option ℕ)) (i : ℕ) (number : Option ℕ) → number ≡ get_or numbers i number → is_some number ≡ true → ¬ (slice_get numbers i ≡ Some None)
some_at numbers i number is on at =
    let none = is ∙ get_or_from_slice_get numbers i None number at in
    let off : is_some number ≡ false = ap is_some none in
    let wrong : ⊥ = cc in wrong

-- ---- requests

-- the texts of a request, by the numbers of its cell
pub texts_there : OneTriple → (world : WorldValue) (cell p a r : ℕ) (texts : CellTexts) → IsCell world cell p a r → IsCellTexts world cell texts → HasTexts world p a r texts
texts_there triples world cell p a r texts is (q, b, s, there, has) =
    let same = triples world cell q b s p a r there is in
    subst (λ x. HasTexts world p a x texts) same.2 (subst (λ x. HasTexts world p x s texts) same.1 (subst (λ x. HasTexts world x b s texts) same.0 has))

-- a text of a request among those of its world
pub principal_there : (world : WorldValue) (p a r : ℕ) (texts : CellTexts) → HasTexts world p a r texts → slice_get (axis_texts Principals world) p ≡ Some texts.principal
principal_there world p a r texts has =
    let (principal, at, e) = has.principal in
    slice_get-map principal_text world.principals p ∙ ap (option_map principal_text) at ∙ ap Some (sym e)

pub resource_there : (world : WorldValue) (p a r : ℕ) (texts : CellTexts) → HasTexts world p a r texts → slice_get (axis_texts Resources world) r ≡ Some texts.resource
resource_there world p a r texts has =
    let (resource, at, e) = has.resource in
    slice_get-map (λ (x : ResourceValue). x.arn) world.resources r ∙ ap (option_map (λ (x : ResourceValue). x.arn)) at ∙ ap Some (sym e)

-- and back
pub texts_found : (world : WorldValue) (p a r : ℕ) (texts : CellTexts) → slice_get (axis_texts Principals world) p ≡ Some texts.principal
    → slice_get (axis_texts Actions world) a ≡ Some texts.action → slice_get (axis_texts Resources world) r ≡ Some texts.resource → HasTexts world p a r texts
texts_found world p a r texts principal action resource = record {
  principal = image_at principal_text world.principals p texts.principal principal;
  action = action;
  resource = image_at (λ (x : ResourceValue). x.arn) world.resources r texts.resource resource;
}

-- a world has the request of texts that it has
pub has_found : (world : WorldValue) (p a r : ℕ) (texts : CellTexts) → HasTexts world p a r texts → Has world texts
has_found world p a r texts has =
    let (principal, p_at, p_is) = has.principal in
    let (resource, r_at, r_is) = has.resource in (
      (p * length world.actions + a) * length world.resources + r,
      (
        p,
        a,
        r,
        record {
          principal = slice_get_within world.principals p principal p_at;
          action = slice_get_within world.actions a texts.action has.action;
          resource = slice_get_within world.resources r resource r_at;
          number = refl;
        },
        has,
      ),
    )

-- the texts of a request are among those of a world that has it
pub has_principal : (world : WorldValue) (texts : CellTexts) → Has world texts → Contains (axis_texts Principals world) texts.principal
has_principal world texts (cell, (p, a, r, is, has)) = contains_at (axis_texts Principals world) p texts.principal (principal_there world p a r texts has)

pub has_action : (world : WorldValue) (texts : CellTexts) → Has world texts → Contains (axis_texts Actions world) texts.action
has_action world texts (cell, (p, a, r, is, has)) = contains_at (axis_texts Actions world) a texts.action has.action

pub has_resource : (world : WorldValue) (texts : CellTexts) → Has world texts → Contains (axis_texts Resources world) texts.resource
has_resource world texts (cell, (p, a, r, is, has)) = contains_at (axis_texts Resources world) r texts.resource (resource_there world p a r texts has)

-- there are as many numbers as texts
pub count_principals : (world : WorldValue) (R : List ℕ → Option ℕ → Type 0) (numbers : List (Option ℕ)) → AllZip R (axis_texts Principals world) numbers → length numbers ≡ length world.principals
count_principals world R numbers all = AllZip-long R (axis_texts Principals world) numbers all ∙ length-map world.principals principal_text

pub count_resources : (world : WorldValue) (R : List ℕ → Option ℕ → Type 0) (numbers : List (Option ℕ)) → AllZip R (axis_texts Resources world) numbers → length numbers ≡ length world.resources
count_resources world R numbers all = AllZip-long R (axis_texts Resources world) numbers all ∙ length-map world.resources (λ (x : ResourceValue). x.arn)
