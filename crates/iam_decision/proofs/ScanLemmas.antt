-- The statements are walked one statement, one policy and one level at a time.
use Rattle.std.proofs.Common.{◌≡◌, inl, inr, ℕ, suc, zero, ◌+◌, ◌<◌, List, [], ◌∷◌, ◌++◌, map, take, length, get_or, refl, sym, ap, ◌∙◌, subst, arith, append_assoc}
use Rattle.std.proofs.lemmas.List.{take_more, map-append, append-nil, get_or-map}
use Rattle.std.specs.List.{AllByRecursion, enumerate_from, flat_map}
use Rattle.iam_match.specs.Statement.{AccessValue}
use Rattle.iam_decision.specs.Living.{Acts, AreActing, AreLiving, Lives, LivingValue, living_of}
use Rattle.iam_decision.specs.Matched.{Placed, Selects}
use Rattle.iam_decision.specs.declared.living.Matched.{Matched}

-- what is chosen of two lists is chosen of the one after the other
pub selects_append : {X : Type 0} (P : X → Type 0) (xs ys a b : List X) → Selects P xs a → Selects P ys b → Selects P (xs ++ ys) (a ++ b)
selects_append P [] ys a b h k = let Q : List _ → Type 0 = λ z. Selects P ys (z ++ b) in subst Q (sym h) k
selects_append P (x ∷ xs) ys a b (inl h) k =
    let Q : List _ → Type 0 = λ z. Selects P (x ∷ (xs ++ ys)) (z ++ b) in
    subst Q (sym h.1.1) (inl (h.0, (h.1.0 ++ b, refl, selects_append P xs ys h.1.0 b h.1.2 k)))
selects_append P (x ∷ xs) ys a b (inr h) k = inr (h.0, selects_append P xs ys a b h.1 k)

numbered_suc : {X Y : Type 0} (f : ℕ × X → List Y) (n : ℕ) (xs : List X) (i : ℕ) (x : X) → i < length xs → x ≡ get_or xs i x
    → flat_map f (enumerate_from n (take (suc i) xs)) ≡ flat_map f (enumerate_from n (take i xs)) ++ f (n + i, x)
numbered_suc f n [] i x below is = absurd (omega arith)
numbered_suc f n (y ∷ xs) zero x below is =
    let number : n ≡ n + 0 = omega arith in
    append-nil (f (n, y)) ∙ ap (λ z. f (n, z)) (sym is) ∙ ap (λ k. f (k, x)) number
numbered_suc f n (y ∷ xs) (suc i) x below is =
    let rest : i < length xs = omega arith in
    let number : (n + 1) + i ≡ n + suc i = omega arith in
    ap (λ z. f (n, y) ++ z) (numbered_suc f (n + 1) xs i x rest is ∙ ap (λ k. flat_map f (enumerate_from (n + 1) (take i xs)) ++ f (k, x)) number)
    ∙ sym (append_assoc (f (n, y)) (flat_map f (enumerate_from (n + 1) (take i xs))) (f (n + suc i, x)))

-- one more element with its number
pub numbered_more : {X Y : Type 0} (f : ℕ × X → List Y) (xs : List X) (i : ℕ) (x : X) → i < length xs → x ≡ get_or xs i x
    → flat_map f (enumerate_from 0 (take (i + 1) xs)) ≡ flat_map f (enumerate_from 0 (take i xs)) ++ f (i, x)
numbered_more f xs i x below is =
    let next : i + 1 ≡ suc i = omega arith in
    let number : 0 + i ≡ i = omega arith in
    ap (λ k. flat_map f (enumerate_from 0 (take k xs))) next ∙ numbered_suc f 0 xs i x below is
    ∙ ap (λ k. flat_map f (enumerate_from 0 (take i xs)) ++ f (k, x)) number

-- what was added of the first elements, and what is added of one more
pub added_more : {X : Type 0} (f : ℕ × X → List Placed) (xs : List X) (i : ℕ) (x : X) (old mid new : List Placed) → i < length xs → x ≡ get_or xs i x
    → mid ≡ old ++ flat_map f (enumerate_from 0 (take i xs)) → new ≡ mid ++ f (i, x)
    → new ≡ old ++ flat_map f (enumerate_from 0 (take (i + 1) xs))
added_more f xs i x old mid new below is before now =
    now ∙ ap (λ z. z ++ f (i, x)) before ∙ append_assoc old (flat_map f (enumerate_from 0 (take i xs))) (f (i, x))
    ∙ ap (λ z. old ++ z) (sym (numbered_more f xs i x below is))

-- one more statement that lives, or does not
pub living_more : (q : AccessValue) (before : List Placed) (s : Placed) (old new : List LivingValue) → Lives q s
    → new ≡ old ++ (living_of q.requester s ∷ []) → AreLiving q before old → AreLiving q (before ++ (s ∷ [])) new
living_more q before s old new lives is (chosen, selected, old_is) = (
  chosen ++ (s ∷ []),
  selects_append (Lives q) before (s ∷ []) chosen (s ∷ []) selected (inl (lives, ([], refl, refl))),
  is ∙ ap (λ z. z ++ (living_of q.requester s ∷ [])) old_is ∙ sym (map-append (living_of q.requester) chosen (s ∷ [])),
)

pub living_skip : (q : AccessValue) (before : List Placed) (s : Placed) (old : List LivingValue) → ¬ Lives q s → AreLiving q before old
    → AreLiving q (before ++ (s ∷ [])) old
living_skip q before s old dead (chosen, selected, old_is) =
    let P : List Placed → Type 0 = λ z. Selects (Lives q) (before ++ (s ∷ [])) z in
    (chosen, subst P (append-nil chosen) (selects_append (Lives q) before (s ∷ []) chosen [] selected (inr (dead, refl))), old_is)

-- what holds of each holds of the one at i
pub all_at : {V D : Type 0} (P : D → Type 0) (f : V → D) (vs : List V) (i : ℕ) (v : V) → i < length vs → v ≡ get_or vs i v → AllByRecursion P (map f vs) → P (f v)
all_at P f [] i v below is all = absurd (omega arith)
all_at P f (x ∷ vs) zero v below is all = subst (λ z. P (f z)) (sym is) all.0
all_at P f (x ∷ vs) (suc i) v below is all = let rest : i < length vs = omega arith in all_at P f vs i v rest is all.1

-- an element of a mapped list
pub at_map : {V D : Type 0} (f : V → D) (vs : List V) (i : ℕ) (v : V) → i < length vs → v ≡ get_or vs i v → f v ≡ get_or (map f vs) i (f v)
at_map f vs i v below is = ap f is ∙ sym (get_or-map f vs i v (f v) below)

-- one more element that is chosen, or is not
pub select_more : {X : Type 0} (P : X → Type 0) (xs : List X) (i : ℕ) (d : X) (chosen : List X) → i < length xs
    → Selects P (take i xs) chosen → P (get_or xs i d) → Selects P (take (i + 1) xs) (chosen ++ (get_or xs i d ∷ []))
select_more {X} P xs i d chosen below h p =
    let Q : List X → Type 0 = λ z. Selects P z (chosen ++ (get_or xs i d ∷ [])) in
    subst Q (sym (take_more xs i d below)) (selects_append P (take i xs) (get_or xs i d ∷ []) chosen (get_or xs i d ∷ []) h (inl (p, ([], refl, refl))))

pub select_skip : {X : Type 0} (P : X → Type 0) (xs : List X) (i : ℕ) (d : X) (chosen : List X) → i < length xs
    → Selects P (take i xs) chosen → ¬ P (get_or xs i d) → Selects P (take (i + 1) xs) chosen
select_skip {X} P xs i d chosen below h p =
    let Q : List X → Type 0 = λ z. Selects P z chosen in
    let R : List X → Type 0 = λ z. Selects P (take i xs ++ (get_or xs i d ∷ [])) z in
    subst Q (sym (take_more xs i d below)) (subst R (append-nil chosen) (selects_append P (take i xs) (get_or xs i d ∷ []) chosen [] h (inr (p, refl))))

-- one more living statement, whose action element matches or does not
pub acting_more : (action : List ℕ) (xs : List LivingValue) (i : ℕ) (x : LivingValue) (found : List Matched) → i < length xs → x ≡ get_or xs i x
    → AreActing action (take i xs) found → Acts action x → AreActing action (take (i + 1) xs) (found ++ (x.matched ∷ []))
acting_more action xs i x found below is (kept, selected, found_is) acts =
    let more = select_more (Acts action) xs i x kept below selected (subst (Acts action) is acts) in
    let Q : LivingValue → Type 0 = λ z. Selects (Acts action) (take (i + 1) xs) (kept ++ (z ∷ [])) in (
      kept ++ (x ∷ []),
      subst Q (sym is) more,
      ap (λ z. z ++ (x.matched ∷ [])) found_is ∙ sym (map-append (λ (l : LivingValue). l.matched) kept (x ∷ [])),
    )

pub acting_skip : (action : List ℕ) (xs : List LivingValue) (i : ℕ) (x : LivingValue) (found : List Matched) → i < length xs → x ≡ get_or xs i x
    → AreActing action (take i xs) found → ¬ Acts action x → AreActing action (take (i + 1) xs) found
acting_skip action xs i x found below is (kept, selected, found_is) idle =
    (kept, select_skip (Acts action) xs i x kept below selected (λ acts. idle (subst (Acts action) (sym is) acts)), found_is)
