-- Statements and texts are walked one at a time.
use Rattle.std.proofs.Common.{◌≡◌, ◌+◌, ◌<◌, inl, inr, ℕ, List, [], ◌∷◌, ◌++◌, Option, None, Some, length, get_or, map, take, option_map, refl, sym, ap, ◌∙◌, subst}
use Rattle.std.proofs.lemmas.List.{append-nil, get_or-map, take_more}
use Rattle.std.proofs.lemmas.List.Elements.{filter_map-append}
use Rattle.std.specs.List.{cons_option, filter_map}
use Rattle.iam_glob.specs.declared.sign.Sign.{Sign}
use Rattle.iam_text.specs.Draft.{plain_draft}
use Rattle.iam_context.specs.Context.{ContextValue}
use Rattle.iam_context.specs.Resolve.{resolved}
use Rattle.iam_decision.specs.Matched.{Selects}

-- a text without variables becomes its pattern
pub plain_resolved : (context : ContextValue) (signs : List Sign) → resolved context (plain_draft signs) ≡ Some signs
plain_resolved context [] = refl
plain_resolved context (sign ∷ signs) = ap (λ rest. option_map (λ more. (sign ∷ []) ++ more) rest) (plain_resolved context signs)

-- an element of a mapped list
pub at_map : {V D : Type 0} (f : V → D) (vs : List V) (i : ℕ) (v : V) → i < length vs → v ≡ get_or vs i v → f v ≡ get_or (map f vs) i (f v)
at_map f vs i v below is = ap f is ∙ sym (get_or-map f vs i v (f v) below)

-- the first elements and one more
pub taken_more : {X : Type 0} (xs : List X) (i : ℕ) (x : X) → i < length xs → x ≡ get_or xs i x → take (i + 1) xs ≡ take i xs ++ (x ∷ [])
taken_more {X} xs i x below is = take_more xs i x below ∙ ap (λ (y : X). take i xs ++ (y ∷ [])) (sym is)

-- what is chosen of two lists is chosen of the one after the other
selects_append : {X : Type 0} (P : X → Type 0) (xs ys a b : List X) → Selects P xs a → Selects P ys b → Selects P (xs ++ ys) (a ++ b)
selects_append P [] ys a b h k = let Q : List _ → Type 0 = λ z. Selects P ys (z ++ b) in subst Q (sym h) k
selects_append P (x ∷ xs) ys a b (inl h) k =
    let Q : List _ → Type 0 = λ z. Selects P (x ∷ (xs ++ ys)) (z ++ b) in
    subst Q (sym h.1.1) (inl (h.0, (h.1.0 ++ b, refl, selects_append P xs ys h.1.0 b h.1.2 k)))
selects_append P (x ∷ xs) ys a b (inr h) k = inr (h.0, selects_append P xs ys a b h.1 k)

pub select_push : {X : Type 0} (P : X → Type 0) (xs : List X) (x : X) (chosen : List X) → Selects P xs chosen → P x
    → Selects P (xs ++ (x ∷ [])) (chosen ++ (x ∷ []))
select_push P xs x chosen before p = selects_append P xs (x ∷ []) chosen (x ∷ []) before (inl (p, ([], refl, refl)))

pub select_pass : {X : Type 0} (P : X → Type 0) (xs : List X) (x : X) (chosen : List X) → Selects P xs chosen → ¬ P x
    → Selects P (xs ++ (x ∷ [])) chosen
select_pass {X} P xs x chosen before not =
    let R : List X → Type 0 = λ z. Selects P (xs ++ (x ∷ [])) z in
    subst R (append-nil chosen) (selects_append P xs (x ∷ []) chosen [] before (inr (not, refl)))

-- one more element that is chosen, or is not
pub select_more : {X : Type 0} (P : X → Type 0) (xs : List X) (i : ℕ) (x : X) (chosen : List X) → i < length xs → x ≡ get_or xs i x
    → Selects P (take i xs) chosen → P x → Selects P (take (i + 1) xs) (chosen ++ (x ∷ []))
select_more {X} P xs i x chosen below is before p =
    let Q : List X → Type 0 = λ z. Selects P z (chosen ++ (x ∷ [])) in
    subst Q (sym (taken_more xs i x below is)) (select_push P (take i xs) x chosen before p)

pub select_skip : {X : Type 0} (P : X → Type 0) (xs : List X) (i : ℕ) (x : X) (chosen : List X) → i < length xs → x ≡ get_or xs i x
    → Selects P (take i xs) chosen → ¬ P x → Selects P (take (i + 1) xs) chosen
select_skip {X} P xs i x chosen below is before not =
    let Q : List X → Type 0 = λ z. Selects P z chosen in
    subst Q (sym (taken_more xs i x below is)) (select_pass P (take i xs) x chosen before not)

-- what h gives of the first elements, and of one more that it gives nothing of, or something
pub given_skip : {X Y : Type 0} (h : X → Option Y) (xs : List X) (i : ℕ) (x : X) → i < length xs → x ≡ get_or xs i x → h x ≡ None
    → filter_map h (take (i + 1) xs) ≡ filter_map h (take i xs)
given_skip {X} {Y} h xs i x below is none =
    ap (filter_map h) (taken_more xs i x below is) ∙ filter_map-append h (take i xs) (x ∷ [])
    ∙ ap (λ (y : Option Y). filter_map h (take i xs) ++ cons_option y []) none ∙ append-nil (filter_map h (take i xs))

pub given_more : {X Y : Type 0} (h : X → Option Y) (xs : List X) (i : ℕ) (x : X) (y : Y) → i < length xs → x ≡ get_or xs i x → h x ≡ Some y
    → filter_map h (take (i + 1) xs) ≡ filter_map h (take i xs) ++ (y ∷ [])
given_more {X} {Y} h xs i x y below is some =
    ap (filter_map h) (taken_more xs i x below is) ∙ filter_map-append h (take i xs) (x ∷ [])
    ∙ ap (λ (y : Option Y). filter_map h (take i xs) ++ cons_option y []) some
