-- The colons of a text.
use Rattle.std.proofs.Common.{◌≡◌, ◌≢◌, ℕ, ◌+◌, ◌<◌, ◌≤◌, suc, zero, take, List, [], ◌∷◌, ◌++◌, ◌==◌, Bool, true, false, cond, length, get_or, refl, sym, ap, ◌∙◌, arith, MatchOption, IfNone, eqb-true, Bor}
use Rattle.std.proofs.lemmas.List.Recursion.{is_count_by}
use Rattle.std.proofs.lemmas.Str.Pattern.{IsSplitOnceResult, split_parts}
use Rattle.std.specs.declared.option.Option.{Option}
use Rattle.std.specs.Prelude.{Some, None}
use Rattle.std.specs.List.{AllByRecursion, join_with_byte}
use Rattle.iam_text.specs.Arn.{colons, colon, HasNoColon, IsArn}
use Rattle.iam_text.specs.Code.Cut.{IsCutFirst}

-- the colons, counted from the front
abbrev count : List ℕ → ℕ
count [] = 0
count (b ∷ text) = cond (b == colon) (1 + count text) (count text)

count_is : (text : List ℕ) → count text ≡ colons text
count_is text = is_count_by count (λ b. b == colon) refl (λ b rest. refl) text

count_append : (front back : List ℕ) → count (front ++ back) ≡ count front + count back
count_append [] back = sym (omega arith)
count_append (b ∷ front) back = at_byte (b == colon) (count (front ++ back)) (count front) (count back) (count_append front back)
  where
    at_byte : (is : Bool) (n m k : ℕ) → n ≡ m + k → cond is (1 + n) n ≡ cond is (1 + m) m + k
    at_byte true n m k e = omega arith
    at_byte false n m k e = e

count_none : (text : List ℕ) → ((i : ℕ) → i < length text → get_or text i 0 ≢ 58) → count text ≡ 0
count_none [] none = refl
count_none (b ∷ text) none =
    at_byte (b == colon) b (count text) refl (none 0 (omega arith))
    (count_none text (λ i below. none (suc i) (omega arith)))
  where
    at_byte : (is : Bool) (b n : ℕ) → (b == colon) ≡ is → b ≢ 58 → n ≡ 0 → cond is (1 + n) n ≡ 0
    at_byte true b n e not_colon none = absurd (not_colon (eqb-true b colon e))
    at_byte false b n e not_colon none = none

-- `split_once` at a colon cuts at the first one
pub cuts_first : (text : List ℕ) (r : Option (Bor (List ℕ) × Bor (List ℕ))) → IsSplitOnceResult 58 text r
    → MatchOption r (colons text ≡ 0) (λ p. IsCutFirst text p.0.now p.1.now)
cuts_first text None split = sym (count_is text) ∙ count_none text (split_parts 58 text None split (omega arith))
cuts_first text (Some p) split =
    let parts = split_parts 58 text (Some p) split (omega arith) in
    let plain : count p.0.now ≡ 0 = count_none p.0.now parts.1 in
    let joined : text ≡ p.0.now ++ (colon ∷ p.1.now) = parts.0 in (
      sym (count_is p.0.now) ∙ plain,
      joined,
      (
          let all : count text ≡ count p.0.now + (1 + count p.1.now) = ap count joined ∙ count_append p.0.now (colon ∷ p.1.now) in
          let text_is : count text ≡ colons text = count_is text in
          let back_is : count p.1.now ≡ colons p.1.now = count_is p.1.now in
          omega arith
          ),
    )

-- a text is cut at its first colon in one way
cut_unique : (front front' back back' : List ℕ) → count front ≡ 0 → count front' ≡ 0 → front ++ (colon ∷ back) ≡ front' ++ (colon ∷ back')
    → (front ≡ front') × (back ≡ back')
cut_unique [] [] back back' plain plain' e = (refl, (let same : back ≡ back' = cc in same))
cut_unique [] (b ∷ front') back back' plain plain' e = absurd (no_first b front' (let same : b ≡ colon = cc in same) plain')
  where
    no_first : (b : ℕ) (front : List ℕ) → b ≡ colon → count (b ∷ front) ≡ 0 → ⊥
    no_first b front same plain =
        let counted : count (colon ∷ front) ≡ count (b ∷ front) = ap (λ z. count (z ∷ front)) (sym same) in
        let one : 1 + count front ≡ 0 = counted ∙ plain in
        omega arith
cut_unique (b ∷ front) [] back back' plain plain' e = absurd (no_first b front (let same : b ≡ colon = cc in same) plain)
  where
    no_first : (b : ℕ) (front : List ℕ) → b ≡ colon → count (b ∷ front) ≡ 0 → ⊥
    no_first b front same plain =
        let counted : count (colon ∷ front) ≡ count (b ∷ front) = ap (λ z. count (z ∷ front)) (sym same) in
        let one : 1 + count front ≡ 0 = counted ∙ plain in
        omega arith
cut_unique (b ∷ front) (d ∷ front') back back' plain plain' e =
    let rest = cut_unique front front' back back' (count-tail b front plain) (count-tail d front' plain') (let tails : front ++ (colon ∷ back) ≡ front' ++ (colon ∷ back') = cc in tails) in
    let heads : b ≡ d = cc in
    let fronts : front ≡ front' = rest.0 in
    ((let same : b ∷ front ≡ d ∷ front' = cc in same), rest.1)
  where
    count-tail : (b : ℕ) (front : List ℕ) → count (b ∷ front) ≡ 0 → count front ≡ 0
    count-tail b front e = go (b == colon) e
      where
        go : (is : Bool) → cond is (1 + count front) (count front) ≡ 0 → count front ≡ 0
        go true e = absurd (omega arith)
        go false e = e

-- parts that join to one text are the same parts
join_unique : (n : ℕ) (ps qs : List (List ℕ)) → length ps ≡ suc n → length qs ≡ suc n → AllByRecursion HasNoColon (take n ps)
    → AllByRecursion HasNoColon (take n qs) → join_with_byte colon ps ≡ join_with_byte colon qs → ps ≡ qs
join_unique n [] qs long long' plain plain' e = absurd (omega arith)
join_unique n (x ∷ ps) [] long long' plain plain' e = absurd (omega arith)
join_unique zero (x ∷ []) (y ∷ []) long long' plain plain' e = ap (λ z. z ∷ []) e
join_unique zero (x ∷ x' ∷ ps) (y ∷ qs) long long' plain plain' e = absurd (omega arith)
join_unique zero (x ∷ []) (y ∷ y' ∷ qs) long long' plain plain' e = absurd (omega arith)
join_unique (suc n) (x ∷ []) (y ∷ qs) long long' plain plain' e = absurd (omega arith)
join_unique (suc n) (x ∷ x' ∷ ps) (y ∷ []) long long' plain plain' e = absurd (omega arith)
join_unique (suc n) (x ∷ x' ∷ ps) (y ∷ y' ∷ qs) long long' plain plain' e =
    let cut = cut_unique x y (join_with_byte colon (x' ∷ ps)) (join_with_byte colon (y' ∷ qs)) (count_is x ∙ plain.0) (count_is y ∙ plain'.0) e in
    let heads : x ≡ y = cut.0 in
    let tails : x' ∷ ps ≡ y' ∷ qs = join_unique n (x' ∷ ps) (y' ∷ qs) (omega arith) (omega arith) plain.1 plain'.1 cut.1 in
    cc

-- a text has one list of six parts at most
pub arn_unique : (ps qs : List (List ℕ)) (text : List ℕ) → IsArn ps text → IsArn qs text → ps ≡ qs
arn_unique ps qs text p q = join_unique 5 ps qs p.0 q.0 p.1 q.1 (p.2 ∙ sym q.2)

join_colons : (n : ℕ) (ps : List (List ℕ)) → length ps ≡ suc n → n ≤ count (join_with_byte colon ps)
join_colons n [] long = absurd (omega arith)
join_colons zero (x ∷ ps) long = omega arith
join_colons (suc n) (x ∷ []) long = absurd (omega arith)
join_colons (suc n) (x ∷ x' ∷ ps) long =
    let rest : n ≤ count (join_with_byte colon (x' ∷ ps)) = join_colons n (x' ∷ ps) (omega arith) in
    let all : count (x ++ (colon ∷ join_with_byte colon (x' ∷ ps))) ≡ count x + (1 + count (join_with_byte colon (x' ∷ ps))) =
    count_append x (colon ∷ join_with_byte colon (x' ∷ ps)) in
    omega arith

-- six parts want five colons
pub few_colons : (ps : List (List ℕ)) (text : List ℕ) → colons text < 5 → ¬ IsArn ps text
few_colons ps text few p =
    let five : 5 ≤ count (join_with_byte colon ps) = join_colons 5 ps p.0 in
    let same : count (join_with_byte colon ps) ≡ count text = ap count p.2 in
    let counted : count text ≡ colons text = count_is text in
    omega arith

pub few_parts : {X : Type 0} (r : Option X) (text : List ℕ) → colons text < 5 → IfNone r ((parts : List (List ℕ)) → ¬ IsArn parts text)
few_parts None text few = λ parts. few_colons parts text few
few_parts (Some x) text few = tt

-- five cuts give six parts
pub five_cuts : (text r₁ r₂ r₃ r₄ a b c d e f : List ℕ) → IsCutFirst text a r₁ → IsCutFirst r₁ b r₂ → IsCutFirst r₂ c r₃ → IsCutFirst r₃ d r₄
    → IsCutFirst r₄ e f → IsArn (a ∷ (b ∷ (c ∷ (d ∷ (e ∷ (f ∷ [])))))) text
five_cuts text r₁ r₂ r₃ r₄ a b c d e f p q r s t = (
  refl,
  (p.0, (q.0, (r.0, (s.0, (t.0, tt))))),
  sym (
      p.1 ∙ ap (λ x. a ++ (colon ∷ x)) (q.1 ∙ ap (λ x. b ++ (colon ∷ x)) (r.1 ∙ ap (λ x. c ++ (colon ∷ x)) (s.1 ∙ ap (λ x. d ++ (colon ∷ x)) t.1)))
      ),
)
