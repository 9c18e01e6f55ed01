-- The documents of a world, one list behind the other, and the first that is refused.
use Rattle.std.proofs.Common.{◌≡◌, ℕ, suc, zero, ◌+◌, ◌<◌, List, [], ◌∷◌, ◌++◌, map, length, take, drop, get_or, refl, sym, ap, ◌∙◌, subst, arith}
use Rattle.std.specs.List.{AllByRecursion}
use Rattle.std.proofs.lemmas.List.{append_assoc, append-nil, take-append-drop}
use Rattle.std.proofs.lemmas.List.Sums.{sum_by-append}
use Rattle.serde_json.specs.Data.{Data}
use Rattle.iam_policy.specs.Fault.{statements_in}
use Rattle.iam_shape.specs.Shape.{each}
use Rattle.iam_world.specs.Code.Documents.{IsCleared, IsNotAccepted, IsRefusedAmong, Leaves, document_at, path_at}
use Rattle.iam_world.specs.WorldFault.{Document, numbered, statement_total}
use Rattle.iam_world.specs.declared.documents.Documents.{Documents}
use Rattle.iam_world.specs.declared.fault.WorldFault.{WorldFault}
use Rattle.iam_world.specs.declared.limits.Budget.{Budget}
use Rattle.iam_world.proofs.Firsts.{first_here, first_later, none_append}

-- ---- the first refused of two lists is that of the first, or else that of the second

pub refused_here : (front back : List Document) (fault : WorldFault) → IsRefusedAmong front fault → IsRefusedAmong (front ++ back) fault
refused_here front back fault (path, refused, is, (document, first, at, least)) =
    (path, refused, is, (document, first_here IsNotAccepted front back document first, at, least))

pub refused_later : (front back : List Document) (fault : WorldFault) → AllByRecursion (λ d. ¬ IsNotAccepted d) front → IsRefusedAmong back fault
    → IsRefusedAmong (front ++ back) fault
refused_later front back fault accepted (path, refused, is, (document, first, at, least)) =
    (path, refused, is, (document, first_later IsNotAccepted front back document accepted first, at, least))

-- ---- documents that are cleared

pub cleared_nil : (b : Budget) → IsCleared [] b b
cleared_nil b = record { accepted = tt; counted = λ total leaves. subst (Leaves b) (omega arith) leaves }

pub cleared_append : (xs ys : List Document) (a b c : Budget) → IsCleared xs a b → IsCleared ys b c → IsCleared (xs ++ ys) a c
cleared_append xs ys a b c one two = record {
  accepted = none_append (λ d. ¬ IsNotAccepted d) xs ys one.accepted two.accepted;
  counted = λ total leaves.
      subst (Leaves c) (sums total) (two.counted (total + statement_total xs) (one.counted total leaves));
}
  where
    sums : (total : ℕ) → total + statement_total xs + statement_total ys ≡ total + statement_total (xs ++ ys)
    sums total =
        let whole : statement_total (xs ++ ys) ≡ statement_total xs + statement_total ys = sum_by-append (λ (d : Document). length (statements_in d.value)) xs ys in
        omega (arith, whole)

-- ---- the documents of each member of a list

each_append : {X : Type 0} (docs : ℕ → X → List Document) (k : ℕ) (xs ys : List X) → each docs k (xs ++ ys) ≡ each docs k xs ++ each docs (k + length xs) ys
each_append docs k [] ys = ap (λ n. each docs n ys) (omega arith)
each_append docs k (x ∷ xs) ys =
    let number : k + 1 + length xs ≡ k + suc (length xs) = omega arith in
    ap (λ ds. docs k x ++ ds) (each_append docs (k + 1) xs ys)
    ∙ sym (append_assoc (docs k x) (each docs (k + 1) xs) (each docs (k + 1 + length xs) ys))
    ∙ ap (λ n. (docs k x ++ each docs (k + 1) xs) ++ each docs n ys) number

-- those of the members before i + 1
each_take : {X : Type 0} (docs : ℕ → X → List Document) (k : ℕ) (xs : List X) (i : ℕ) (x : X) → i < length xs → x ≡ get_or xs i x
    → each docs k (take (i + 1) xs) ≡ each docs k (take i xs) ++ docs (k + i) x
each_take docs k [] i x below is = absurd (omega arith)
each_take docs k (y ∷ xs) zero x below is =
    let number : k ≡ k + 0 = omega arith in
    append-nil (docs k y) ∙ ap (docs k) (sym is) ∙ ap (λ n. docs n x) number
each_take docs k (y ∷ xs) (suc i) x below is =
    let rest : i < length xs = omega arith in
    let number : k + 1 + i ≡ k + suc i = omega arith in
    let next : suc i + 1 ≡ suc (i + 1) = omega arith in
    ap (λ n. each docs k (take n (y ∷ xs))) next
    ∙ ap (λ ds. docs k y ++ ds) (each_take docs (k + 1) xs i x rest is)
    ∙ sym (append_assoc (docs k y) (each docs (k + 1) (take i xs)) (docs (k + 1 + i) x))
    ∙ ap (λ n. (docs k y ++ each docs (k + 1) (take i xs)) ++ docs n x) number

pub each_next : {X : Type 0} (docs : ℕ → X → List Document) (xs : List X) (i : ℕ) (x : X) → i < length xs → x ≡ get_or xs i x
    → each docs 0 (take (i + 1) xs) ≡ each docs 0 (take i xs) ++ docs i x
each_next docs xs i x below is = let number : 0 + i ≡ i = omega arith in each_take docs 0 xs i x below is ∙ ap (λ n. each docs 0 (take i xs) ++ docs n x) number

-- a document of member i is the first that is refused
pub each_refused : {X : Type 0} (docs : ℕ → X → List Document) (xs : List X) (i : ℕ) (x : X) (fault : WorldFault) → i < length xs → x ≡ get_or xs i x
    → AllByRecursion (λ d. ¬ IsNotAccepted d) (each docs 0 (take i xs)) → IsRefusedAmong (docs i x) fault → IsRefusedAmong (each docs 0 xs) fault
each_refused docs xs i x fault below is accepted refused =
    let front = take (i + 1) xs in
    let back = drop (i + 1) xs in
    subst (λ ds. IsRefusedAmong ds fault) (sym (each_append docs 0 front back) ∙ ap (each docs 0) (take-append-drop (i + 1) xs))
    (refused_here (each docs 0 front) (each docs (0 + length front) back) fault
    (subst (λ ds. IsRefusedAmong ds fault) (sym (each_next docs xs i x below is))
    (refused_later (each docs 0 (take i xs)) (docs i x) fault accepted refused)))

-- the documents of what lent members say
pub each_map : {V X : Type 0} (docs : ℕ → X → List Document) (f : V → X) (k : ℕ) (vs : List V) → each (λ i v. docs i (f v)) k vs ≡ each docs k (map f vs)
each_map docs f k [] = refl
each_map docs f k (v ∷ vs) = ap (λ ds. docs k (f v) ++ ds) (each_map docs f (k + 1) vs)

-- one document each
pub each_one : {V : Type 0} (f : V → Data) (ds : Documents) (k : ℕ) (vs : List V) → each (λ j v. document_at ds j (f v) ∷ []) k vs ≡ numbered ds.kind (path_at ds.place) k (map f vs)
each_one f ds k [] = refl
each_one f ds k (v ∷ vs) = ap (λ rest. document_at ds k (f v) ∷ rest) (each_one f ds (k + 1) vs)

-- ---- a layer, as the code holds it and as its documents

pub cleared_lent : {V X : Type 0} (docs : ℕ → X → List Document) (f : V → X) (vs ws : List V) (a b : Budget) → vs ≡ ws
    → IsCleared (each (λ i v. docs i (f v)) 0 vs) a b → IsCleared (each docs 0 (map f ws)) a b
cleared_lent docs f vs ws a b same cleared =
    subst (λ xs. IsCleared (each docs 0 (map f xs)) a b) same (subst (λ ds. IsCleared ds a b) (each_map docs f 0 vs) cleared)

pub refused_lent : {V X : Type 0} (docs : ℕ → X → List Document) (f : V → X) (vs ws : List V) (fault : WorldFault) → vs ≡ ws
    → IsRefusedAmong (each (λ i v. docs i (f v)) 0 vs) fault → IsRefusedAmong (each docs 0 (map f ws)) fault
refused_lent docs f vs ws fault same refused =
    subst (λ xs. IsRefusedAmong (each docs 0 (map f xs)) fault) same (subst (λ ds. IsRefusedAmong ds fault) (each_map docs f 0 vs) refused)
