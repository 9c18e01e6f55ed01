-- What is kept under a signature is right for each action that has it.
use Rattle.std.proofs.Common.{◌≡◌, inl, inr, ℕ, zero, suc, ◌/◌, List, [], ◌∷◌, ◌++◌, Option, None, Some, IfSome, subst, sym, ◌∙◌, arith}
use Rattle.std.specs.List.{slice_get}
use Rattle.iam_decision.specs.Living.{Acts, AreActing, LivingValue}
use Rattle.iam_decision.specs.Matched.{Selects}
use Rattle.iam_decision.specs.Ruling.{RulingValue}
use Rattle.iam_decision.specs.declared.living.Matched.{Matched}
use Rattle.iam_layers.specs.Cell.{IsAction}
use Rattle.iam_world.specs.World.{WorldValue}
use Rattle.iam_index.specs.Elements.{ActAlike, AreActs}
use Rattle.iam_index.specs.Signs.{GainsSign, HasSign}
use Rattle.iam_index.specs.declared.signs.Sign.{Sign}
use Rattle.iam_classes.specs.Memo.{AreSigns, HasNumber, HasSigned, IsSign}
use Rattle.iam_classes.specs.declared.memo.Class.{Class}
use Rattle.iam_index.proofs.ListLemmas.{get_more, some_same}
use Rattle.iam_columns.proofs.SlotLemmas.{all_weaker}

-- the same statements act on two actions of one signature
pub alike_signed : (one other : List ℕ) (living : List LivingValue) (word : ℕ) → AreActs one living word → AreActs other living word
    → ActAlike one other living
alike_signed one other [] word bits others k d below = absurd (omega (arith, below))
alike_signed one other (s ∷ living) word (bit, bits) (same, others) zero d below = ((λ acts. same.0 (bit.1 acts)), (λ acts. bit.0 (same.1 acts)))
alike_signed one other (s ∷ living) word (bit, bits) (same, others) (suc k) d below =
    alike_signed one other living (word / 2) bits others k d (omega (arith, below))

-- and on an action of the world and itself
pub alike_named : (world : WorldValue) (a : ℕ) (one other : List ℕ) (living : List LivingValue) → IsAction world a one → IsAction world a other
    → ActAlike one other living
alike_named world a one other living named asked =
    let A : List ℕ → Type 0 = λ text. ActAlike one text living in
    subst A (some_same one other (sym named ∙ asked)) (λ k d below. ((λ acts. acts), (λ acts. acts)))

same_selected : (one other : List ℕ) (living kept : List LivingValue) → ActAlike one other living → Selects (Acts one) living kept
    → Selects (Acts other) living kept
same_selected one other [] kept alike none = none
same_selected one other (s ∷ living) kept alike (inl (acts, (rest, is, more))) =
    inl ((alike zero s (omega arith)).0 acts, (rest, is, same_selected one other living rest (λ k d below. alike (suc k) d (omega (arith, below))) more))
same_selected one other (s ∷ living) kept alike (inr (idle, more)) =
    inr
    ((λ acts. idle ((alike zero s (omega arith)).1 acts)), same_selected one other living kept (λ k d below. alike (suc k) d (omega (arith, below))) more)

-- where the same statements act, those that act on the one act on the other
pub same_acting : (one other : List ℕ) (living : List LivingValue) (found : List Matched) → ActAlike one other living → AreActing one living found
    → AreActing other living found
same_acting one other living found alike (kept, selected, is) = (kept, same_selected one other living kept alike selected, is)

-- with more classes a signature is that of an action in the same class
pub signs_more : (world : WorldValue) (classes more : List Class) (rulings : List RulingValue) (signs : List (Option Sign))
    → AreSigns world classes rulings signs → AreSigns world (classes ++ more) rulings signs
signs_more world classes more rulings signs all =
    all_weaker (λ (s : Sign). HasSigned world classes rulings s.class s.word s.number)
    (λ (s : Sign). HasSigned world (classes ++ more) rulings s.class s.word s.number) signs
    (λ s signed a is.
    let (class, at, number) = signed a (λ other text there asked. is other text (get_more classes more s.class other there) asked) in
    (class, get_more classes more s.class class at, number)) all

pub signs_behind : (world : WorldValue) (classes : List Class) (rulings more : List RulingValue) (signs : List (Option Sign))
    → AreSigns world classes rulings signs → AreSigns world classes (rulings ++ more) signs
signs_behind world classes rulings more signs all =
    all_weaker (λ (s : Sign). HasSigned world classes rulings s.class s.word s.number)
    (λ (s : Sign). HasSigned world classes (rulings ++ more) s.class s.word s.number) signs
    (λ s signed a is.
    let (class, at, (ruling, here, verdict)) = signed a is in
    (class, at, (ruling, get_more rulings more s.number ruling here, verdict))) all

-- one more number under a signature, if there is one
pub signs_gained : (world : WorldValue) (classes : List Class) (rulings : List RulingValue) (old new : List (Option Sign)) (n number : ℕ)
    (word : Option ℕ) → GainsSign old new n word number → AreSigns world classes rulings old
    → IfSome word (λ w. HasSigned world classes rulings n w number) → AreSigns world classes rulings new
signs_gained world classes rulings old new n number word gains all one slot sign kept =
    elim (gains slot sign kept) [
      | inl (class, is, same) ↦
          let O : Option ℕ → Type 0 = λ w. IfSome w (λ b. HasSigned world classes rulings n b number) in
          let C : ℕ → Type 0 = λ c. HasSigned world classes rulings c sign.word number in
          let N : ℕ → Type 0 = λ k. HasSigned world classes rulings sign.class sign.word k in
          subst N (sym same) (subst C (sym class) (subst O is one))
      | inr there ↦ all slot sign there
    ]

-- a number that is kept under a class and a signature is that on each action of this signature
pub number_signed : (world : WorldValue) (classes : List Class) (rulings : List RulingValue) (signs : List (Option Sign)) (n : ℕ) (word : Option ℕ)
    → AreSigns world classes rulings signs → (number : ℕ) → HasSign signs n word number → (a : ℕ) → IfSome word (IsSign world classes n a)
    → HasNumber world classes rulings n a number
number_signed world classes rulings signs n word all number (slot, sign, kept, class, is, same) a signed =
    let O : Option ℕ → Type 0 = λ w. IfSome w (IsSign world classes n a) in
    let C : ℕ → Type 0 = λ c. HasSigned world classes rulings c sign.word sign.number in
    let N : ℕ → Type 0 = λ k. HasNumber world classes rulings n a k in
    subst N same (subst C class (all slot sign kept) a (subst O is signed))

-- what the bits say of the statements of the class is the signature in the class
pub signs_of : (world : WorldValue) (classes : List Class) (n a : ℕ) (word : Option ℕ) (class : Class) → slice_get classes n ≡ Some class
    → ((text : List ℕ) → IsAction world a text → IfSome word (AreActs text class.shared.living)) → IfSome word (IsSign world classes n a)
signs_of world classes n a None class at acts = tt
signs_of world classes n a (Some word) class at acts = λ it text there asked.
    let A : Class → Type 0 = λ k. AreActs text k.shared.living word in
    subst A (some_same class it (sym at ∙ there)) (acts text asked)
