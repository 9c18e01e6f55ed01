-- Elements that are read text by text.
use Rattle.std.proofs.Common.{◌≡◌, ℕ, suc, ◌+◌, ◌<◌, List, [], ◌∷◌, ◌++◌, Bool, true, false, if◌then◌else◌, Option, Some, None, is_some, IsSome, take, length, get_or, sym, ap, ◌∙◌, subst, drop, add-one, append_assoc}
use Rattle.std.proofs.Math.Seq.{drop-cons}
use Rattle.std.proofs.lemmas.List.{append-nil}
use Rattle.std.specs.Borrow.{Bor}
use Rattle.std.specs.List.{AllZip, filter_map, flat_map, slice_get}
use Rattle.std.specs.Option.{option_to_list}
use Rattle.serde_json.specs.Data.{Data}
use Rattle.serde_json.specs.Find.{get}
use Rattle.serde_json.specs.declared.value.Value.{Value}
use Rattle.iam_text.specs.declared.version.Version.{Version}
use Rattle.iam_text.specs.Draft.{IsDraftIn}
use Rattle.iam_element.specs.Element.{texts_of}
use Rattle.iam_element.specs.Code.Members.{data_of}
use Rattle.iam_element.specs.Reading.{ResourceElement, ReadsResourceElement, ReadsText, resource_name}
use Rattle.iam_element.proofs.ElementLemmas.{filter_map_next}

zip_push : {A B : Type 0} (R : A → B → Type 0) (xs : List A) (ys : List B) (x : A) (y : B) → AllZip R xs ys → R x y → AllZip R (xs ++ (x ∷ [])) (ys ++ (y ∷ []))
zip_push R [] [] x y zip here = (here, tt)
zip_push R [] (b ∷ ys) x y zip here = absurd zip
zip_push R (a ∷ xs) [] x y zip here = absurd zip
zip_push R (a ∷ xs) (b ∷ ys) x y zip here = (zip.0, zip_push R xs ys x y zip.1 here)

-- one more element: it has something to read, or not
pub zip_some : {D A B : Type 0} (R : A → B → Type 0) (h : D → Option A) (xs : List D) (i : ℕ) (x : D) (ys : List B) (a : A) (y : B) → slice_get xs i ≡ Some x
    → h x ≡ Some a → AllZip R (filter_map h (take i xs)) ys → R a y → AllZip R (filter_map h (take (i + 1) xs)) (ys ++ (y ∷ []))
zip_some {D} {A} {B} R h xs i x ys a y at is zip here =
    let P : List A → Type 0 = λ front. AllZip R front (ys ++ (y ∷ [])) in
    subst P (sym (filter_map_next h xs i x at ∙ ap (λ o. filter_map h (take i xs) ++ option_to_list o) is)) (zip_push R (filter_map h (take i xs)) ys a y zip here)

pub zip_none : {D A B : Type 0} (R : A → B → Type 0) (h : D → Option A) (xs : List D) (i : ℕ) (x : D) (ys : List B) → slice_get xs i ≡ Some x
    → h x ≡ None → AllZip R (filter_map h (take i xs)) ys → AllZip R (filter_map h (take (i + 1) xs)) ys
zip_none {D} {A} {B} R h xs i x ys at is zip =
    let P : List A → Type 0 = λ front. AllZip R front ys in
    subst P (sym (filter_map_next h xs i x at ∙ ap (λ o. filter_map h (take i xs) ++ option_to_list o) is ∙ append-nil (filter_map h (take i xs)))) zip

-- the items of one more element of a list
pub flat_map_next : {K N : Type 0} (f : K → List N) (ks : List K) (i : ℕ) (d : K) (whole done next here : List N) → i < length ks
    → whole ≡ done ++ flat_map f (drop i ks) → next ≡ done ++ here → here ≡ f (get_or ks i d) → whole ≡ next ++ flat_map f (drop (i + 1) ks)
flat_map_next {K} {N} f ks i d whole done next here below all more is =
    let step : drop i ks ≡ get_or ks i d ∷ drop (suc i) ks = drop-cons ks i d below in
    let one : i + 1 ≡ suc i = add-one i in
    let rest : flat_map f (drop i ks) ≡ f (get_or ks i d) ++ flat_map f (drop (i + 1) ks) =
    ap (flat_map f) step ∙ ap (λ n. f (get_or ks i d) ++ flat_map f (drop n ks)) (sym one) in
    let apart : (done ++ f (get_or ks i d)) ++ flat_map f (drop (i + 1) ks) ≡ done ++ (f (get_or ks i d) ++ flat_map f (drop (i + 1) ks)) =
    append_assoc done (f (get_or ks i d)) (flat_map f (drop (i + 1) ks)) in
    let now : next ≡ done ++ f (get_or ks i d) = more ∙ ap (λ xs. done ++ xs) is in
    all ∙ ap (λ xs. done ++ xs) rest ∙ sym apart ∙ ap (λ xs. xs ++ flat_map f (drop (i + 1) ks)) (sym now)

-- what was found under one of the two names
pub resource_stands : (s : Data) (negated : Bool) (one other : Option (Bor Value)) → data_of one ≡ get (resource_name false) s → data_of other ≡ get (resource_name true) s
    → get (resource_name negated) s ≡ data_of (if negated then other else one)
resource_stands s false one other one_is other_is = sym one_is
resource_stands s true one other one_is other_is = sym other_is

-- the resource element that stands in a statement
pub resource_read : (version : Version) (s : Data) (r : ResourceElement) (negated : Bool) (value : Data) → get (resource_name negated) s ≡ Some value → r.negated ≡ negated
    → AllZip (IsDraftIn version true) (texts_of (Some value)) r.texts → ReadsResourceElement version s (Some r)
resource_read version s r negated value stands same texts =
    let P : Bool → Type 0 = λ n. IsSome (get (resource_name n) s) × AllZip (ReadsText version) (texts_of (get (resource_name n) s)) r.texts in
    let Q : Option Data → Type 0 = λ o. AllZip (ReadsText version) (texts_of o) r.texts in
    subst P (sym same) (ap is_some stands, subst Q (sym stands) texts)
