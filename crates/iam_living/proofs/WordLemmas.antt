-- Words of statements, one more statement at a time.
use Rattle.std.proofs.Common.{◌≡◌, ◌/◌, ◌%◌, inl, inr, ℕ, Bool, IsTrue, false, List, [], ◌∷◌, ◌++◌, length, map, refl, sym, ap, ◌∙◌, subst, append_assoc, arith}
use Rattle.std.proofs.lemmas.List.{append-nil, map-append}
use Rattle.iam_match.specs.Requester.{RequesterValue}
use Rattle.iam_match.specs.Statement.{AccessValue}
use Rattle.iam_decision.specs.Living.{AreLiving, Lives, LivingValue, living_of}
use Rattle.iam_decision.specs.Matched.{Placed, Selects}
use Rattle.iam_living.specs.Word.{AreBits, TakesBits}

-- what is chosen of two lists is chosen of the one after the other
selects_append : {X : Type 0} (P : X → Type 0) (xs ys a b : List X) → Selects P xs a → Selects P ys b → Selects P (xs ++ ys) (a ++ b)
selects_append P [] ys a b h k = let Q : List _ → Type 0 = λ z. Selects P ys (z ++ b) in subst Q (sym h) k
selects_append P (x ∷ xs) ys a b (inl (is, (rest, begins, more))) k =
    let Q : List _ → Type 0 = λ z. Selects P (x ∷ (xs ++ ys)) (z ++ b) in
    subst Q (sym begins) (inl (is, (rest ++ b, refl, selects_append P xs ys rest b more k)))
selects_append P (x ∷ xs) ys a b (inr (not, more)) k = inr (not, selects_append P xs ys a b more k)

-- an answer is not both
pub not_both : (b : Bool) → b ≡ false → IsTrue b → ⊥
not_both b is_false is_true = let wrong : ⊥ = cc in wrong

-- one more statement that lives, or does not
pub living_more : (access : AccessValue) (before : List Placed) (s : Placed) (old new : List LivingValue) → Lives access s
    → new ≡ old ++ (living_of access.requester s ∷ []) → AreLiving access before old → AreLiving access (before ++ (s ∷ [])) new
living_more access before s old new lives is (chosen, selected, old_is) = (
  chosen ++ (s ∷ []),
  selects_append (Lives access) before (s ∷ []) chosen (s ∷ []) selected (inl (lives, ([], refl, refl))),
  is ∙ ap (λ z. z ++ (living_of access.requester s ∷ [])) old_is ∙ sym (map-append (living_of access.requester) chosen (s ∷ [])),
)

pub living_skip : (access : AccessValue) (before : List Placed) (s : Placed) (old : List LivingValue) → ¬ Lives access s → AreLiving access before old
    → AreLiving access (before ++ (s ∷ [])) old
living_skip access before s old dead (chosen, selected, old_is) =
    let P : List Placed → Type 0 = λ z. Selects (Lives access) (before ++ (s ∷ [])) z in
    (chosen, subst P (append-nil chosen) (selects_append (Lives access) before (s ∷ []) chosen [] selected (inr (dead, refl))), old_is)

-- the living ones of statements that stand one behind the other
pub living_append : (access : AccessValue) (before behind : List Placed) (one other : List LivingValue) → AreLiving access before one
    → AreLiving access behind other → AreLiving access (before ++ behind) (one ++ other)
living_append access before behind one other (chosen, selected, one_is) (further, more, other_is) = (
  chosen ++ further,
  selects_append (Lives access) before behind chosen further selected more,
  ap (λ z. z ++ other) one_is ∙ ap (λ z. map (living_of access.requester) chosen ++ z) other_is
      ∙ sym (map-append (living_of access.requester) chosen further),
)

-- what is chosen of two lists is chosen where a list stands between them of which nothing is
selects_around : {X : Type 0} (P : X → Type 0) (xs ys zs chosen : List X) → Selects P ys [] → Selects P (xs ++ zs) chosen
    → Selects P (xs ++ (ys ++ zs)) chosen
selects_around P [] ys zs chosen none all = selects_append P ys zs [] chosen none all
selects_around P (x ∷ xs) ys zs chosen none (inl (is, (rest, begins, more))) = inl (is, (rest, begins, selects_around P xs ys zs rest none more))
selects_around P (x ∷ xs) ys zs chosen none (inr (not, more)) = inr (not, selects_around P xs ys zs chosen none more)

none_chosen : {X Y : Type 0} (f : X → Y) (chosen : List X) → [] ≡ map f chosen → chosen ≡ []
none_chosen f [] is = refl
none_chosen f (x ∷ xs) is = absurd (omega (arith, ap length is))

-- and so the living ones of statements are those where others stand between them, of which none lives
pub living_around : (access : AccessValue) (org listed own : List Placed) (living : List LivingValue) → AreLiving access listed []
    → AreLiving access (org ++ own) living → AreLiving access (org ++ (listed ++ own)) living
living_around access org listed own living (few, none, empty) (chosen, selected, is) =
    let S : List Placed → Type 0 = Selects (Lives access) listed in
    let nothing = subst S (none_chosen (living_of access.requester) few empty) none in
    (chosen, selects_around (Lives access) org listed own chosen nothing selected, is)

-- one more statement, whose bit is taken off the word: it is set, or is not
pub takes_set : (requester : RequesterValue) (statements : List Placed) (s : Placed) (word : ℕ) (old now new : List LivingValue) (bits : ℕ)
    → bits % 2 ≡ 1 → new ≡ now ++ (living_of requester s ∷ []) → TakesBits requester statements word old now bits
    → TakesBits requester (statements ++ (s ∷ [])) word old new (bits / 2)
takes_set requester statements s word old now new bits set is takes access before others asks are living =
    let all : AreBits access (statements ++ (s ∷ others)) word = subst (λ z. AreBits access z word) (append_assoc statements (s ∷ []) others) are in
    let (first, (bit, left)) = takes access before (s ∷ others) asks all living in
    let pushed : new ≡ now ++ (living_of access.requester s ∷ []) = is ∙ ap (λ z. now ++ (living_of z s ∷ [])) (sym asks) in
    let P : List Placed → Type 0 = λ z. AreLiving access z new in
    (subst P (append_assoc before statements (s ∷ [])) (living_more access (before ++ statements) s now new (bit.0 set) pushed first), left)

pub takes_unset : (requester : RequesterValue) (statements : List Placed) (s : Placed) (word : ℕ) (old now new : List LivingValue) (bits : ℕ)
    → ¬ (bits % 2 ≡ 1) → new ≡ now → TakesBits requester statements word old now bits
    → TakesBits requester (statements ++ (s ∷ [])) word old new (bits / 2)
takes_unset requester statements s word old now new bits unset same takes access before others asks are living =
    let all : AreBits access (statements ++ (s ∷ others)) word = subst (λ z. AreBits access z word) (append_assoc statements (s ∷ []) others) are in
    let (first, (bit, left)) = takes access before (s ∷ others) asks all living in
    let P : List Placed → Type 0 = λ z. AreLiving access z new in
    let Q : List LivingValue → Type 0 = λ z. AreLiving access ((before ++ statements) ++ (s ∷ [])) z in
    let skipped = living_skip access (before ++ statements) s now (λ lives. unset (bit.1 lives)) first in
    (subst P (append_assoc before statements (s ∷ [])) (subst Q (sym same) skipped), left)

-- where no bit is set, none of the statements lives
none_selected : (access : AccessValue) (statements : List Placed) (word : ℕ) → word ≡ 0 → AreBits access statements word
    → Selects (Lives access) statements []
none_selected access [] word unset bits = refl
none_selected access (s ∷ statements) word unset (bit, bits) =
    inr ((λ lives. let set = bit.1 lives in omega (arith, set, unset)), none_selected access statements (word / 2) (omega (arith, unset)) bits)

pub none_lives : (access : AccessValue) (statements : List Placed) (word : ℕ) → word ≡ 0 → AreBits access statements word
    → AreLiving access statements []
none_lives access statements word unset bits = ([], none_selected access statements word unset bits, refl)
