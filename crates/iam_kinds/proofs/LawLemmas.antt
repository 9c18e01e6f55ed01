-- A question has one list of texts.
use Rattle.std.proofs.Common.{◌≡◌, inl, inr, ℕ, List, [], ◌∷◌, map, refl, sym, ap, ◌∙◌, subst}
use Rattle.iam_glob.specs.Glob.{folded}
use Rattle.iam_kinds.specs.Kinds.{Agree, AgreeFold, IsBefore, Question}
use Rattle.iam_kinds.specs.Laws.{OneListOfKinds, OneListOfKindsFold}
use Rattle.iam_kinds.specs.Shown.{AreKinds, AreKindsFold}
use Rattle.iam_kinds.proofs.CasedLemmas.{one_cased}
use Rattle.iam_kinds.proofs.FewerLemmas.{ApartBy, apart_by}
use Rattle.iam_kinds.proofs.Members.{In, in_of, of_in}
use Rattle.iam_kinds.proofs.OrderLemmas.{before_not, before_trans, neither_before}

-- lists in such an order are one where they have the same elements
pub one_order : {A : Type 0} (R : A → A → Type 0) → ((a : A) → ¬ R a a) → ((a b : A) → R a b → ¬ R b a) → (xs ys : List A) → ApartBy R xs
    → ApartBy R ys
    → ((x : A) → In x xs → In x ys) → ((y : A) → In y ys → In y xs) → xs ≡ ys
one_order R never one_way [] [] apart others to from = refl
one_order R never one_way [] (y ∷ ys) apart others to from = absurd (from y (inl refl))
one_order R never one_way (x ∷ xs) [] apart others to from = absurd (to x (inl refl))
one_order {A} R never one_way (x ∷ xs) (y ∷ ys) apart others to from =
    let first : x ≡ y = elim (to x (inl refl)) [
      | inl e ↦ sym e
      | inr h ↦ elim (from y (inl refl)) [
        | inl e ↦ e
        | inr k ↦ absurd (one_way y x (others.0 x h) (apart.0 y k))
      ]
    ] in
    let P : A → Type 0 = λ a. R a x in
    let tail_to : (z : A) → In z xs → In z ys =
    λ z h. elim (to z (inr h)) [
      | inl e ↦ absurd (never x (let Q : A → Type 0 = λ a. R x a in subst Q (sym e ∙ sym first) (apart.0 z h)))
      | inr k ↦ k
    ] in
    let tail_from : (z : A) → In z ys → In z xs =
    λ z h. elim (from z (inr h)) [
      | inl e ↦ absurd (never y (let Q : A → Type 0 = λ a. R y a in subst Q (sym e ∙ first) (others.0 z h)))
      | inr k ↦ k
    ] in
    ap (λ a. a ∷ xs) first ∙ ap (λ l. y ∷ l) (one_order R never one_way xs ys apart.1 others.1 tail_to tail_from)

pub before_once : (a b : List ℕ) → IsBefore a b → ¬ IsBefore b a
before_once a b less more = before_not a (before_trans a b a less more)

pub agree_turned : (question : Question) (one other : List ℕ) → Agree question one other → Agree question other one
agree_turned question one other agrees = λ group h. ((agrees group h).1, (agrees group h).0)

pub agree_fold_turned : (question : Question) (one other : List ℕ) → AgreeFold question one other → AgreeFold question other one
agree_fold_turned question one other agrees = λ group h. ((agrees group h).1, (agrees group h).0)

-- each text of one list is one of the other
pub in_other : (question : Question) (texts others : List (List ℕ)) → AreKinds question texts → AreKinds question others → (text : List ℕ)
    → In text texts → In text others
in_other question texts others are are' text h =
    let here = of_in texts text h in
    let r = are'.whole text (are.characters text here) (are.meant text here) in
    let same : text ≡ r.0 =
    neither_before text r.0 (are'.least r.0 text r.1 (are.characters text here) (are.meant text here) (are.spelled text here) r.2)
    (are.least text r.0 here (are'.characters r.0 r.1) (are'.meant r.0 r.1) (are'.spelled r.0 r.1) (agree_turned question r.0 text r.2)) in
    subst (λ (t : List ℕ). In t others) (sym same) (in_of others r.0 r.1)

pub one_list : OneListOfKinds
one_list = λ question texts others are are'.
    one_order IsBefore before_not before_once texts others (apart_by IsBefore texts are.order) (apart_by IsBefore others are'.order)
    (in_other question texts others are are') (in_other question others texts are' are)

pub in_other_fold : (question : Question) (texts others : List (List ℕ)) → AreKindsFold question texts → AreKindsFold question others
    → (text : List ℕ) → In text texts → In text others
in_other_fold question texts others are are' text h =
    let here = of_in texts text h in
    let r = are'.whole text (are.characters text here) (are.meant text here) in
    let same : map folded text ≡ map folded r.0 =
    neither_before (map folded text) (map folded r.0)
    (are'.least r.0 text r.1 (are.characters text here) (are.meant text here) (are.spelled text here) r.2)
    (are.least text r.0 here (are'.characters r.0 r.1) (are'.meant r.0 r.1) (are'.spelled r.0 r.1)
    (agree_fold_turned question r.0 text r.2)) in
    let one = one_cased question [] text r.0 (are.cased text here) (are'.cased r.0 r.1) same in
    subst (λ (t : List ℕ). In t others) (sym one) (in_of others r.0 r.1)

abbrev pub FoldedBefore : List ℕ → List ℕ → Type 0
FoldedBefore one other = IsBefore (map folded one) (map folded other)

pub one_list_fold : OneListOfKindsFold
one_list_fold = λ question texts others are are'.
    one_order FoldedBefore (λ a. before_not (map folded a)) (λ a b. before_once (map folded a) (map folded b)) texts others
    (apart_by FoldedBefore texts are.order) (apart_by FoldedBefore others are'.order)
    (in_other_fold question texts others are are') (in_other_fold question others texts are' are)
