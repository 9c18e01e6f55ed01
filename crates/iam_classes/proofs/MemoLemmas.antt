-- What is kept stays right where classes and verdicts are added.
use Rattle.std.proofs.Common.{◌≡◌, inl, inr, ℕ, zero, suc, ◌+◌, ◌-◌, ◌<◌, List, [], ◌∷◌, ◌++◌, Option, Some, ap, append-nil, drop, length, sym, ◌∙◌, subst, arith}
use Rattle.std.proofs.lemmas.Grind.{common_steps}
use Rattle.std.proofs.lemmas.List.Sums.{sum_by_push}
use Rattle.std.proofs.lemmas.Option.{slice_get_within}
use Rattle.std.specs.List.{slice_get}
use Rattle.iam_match.specs.Statement.{request_for}
use Rattle.iam_decision.specs.Living.{SharedValue}
use Rattle.iam_decision.specs.Ruling.{RulingValue}
use Rattle.iam_decision.specs.declared.frame.Frame.{Frame}
use Rattle.iam_decision.specs.declared.living.Matched.{Matched}
use Rattle.iam_layers.specs.Cell.{IsAction, IsSharedAt}
use Rattle.iam_world.specs.World.{WorldValue}
use Rattle.iam_index.specs.Elements.{ActAlike, AreActRows}
use Rattle.iam_columns.specs.Slots.{AllAre}
use Rattle.iam_classes.specs.Memo.{AreAnswers, ArePairs, AreWithin, cost, FindsAlike, HasClass, HasMore, HasNumber, HasRuling, HasShared, HaveRows, IsFreeFor, IsSharedVerdict, MemoValue}
use Rattle.iam_columns.specs.declared.numbered.Numbered.{Numbered}
use Rattle.iam_classes.specs.declared.memo.Class.{Class}
use Rattle.iam_classes.specs.declared.memo.Room.{Room}
use Rattle.iam_index.proofs.ListLemmas.{get_back, get_more, get_within, is_asked}
use Rattle.iam_columns.proofs.SlotLemmas.{all_weaker}

pub pairs_more : (world : WorldValue) (classes more : List Class) (pairs : List (Option Numbered)) → ArePairs world classes pairs
    → ArePairs world (classes ++ more) pairs
pairs_more world classes more pairs all =
    all_weaker (λ (p : Numbered). HasClass world classes p.one p.other p.number) (λ (p : Numbered). HasClass world (classes ++ more) p.one p.other p.number)
    pairs (λ p (class, at, is). (class, get_more classes more p.number class at, is)) all

pub answers_more : (world : WorldValue) (classes more : List Class) (rulings : List RulingValue) (answers : List (Option Numbered))
    → AreAnswers world classes rulings answers → AreAnswers world (classes ++ more) rulings answers
answers_more world classes more rulings answers all =
    all_weaker (λ (a : Numbered). HasNumber world classes rulings a.one a.other a.number)
    (λ (a : Numbered). HasNumber world (classes ++ more) rulings a.one a.other a.number) answers
    (λ a (class, at, is). (class, get_more classes more a.one class at, is)) all

pub answers_behind : (world : WorldValue) (classes : List Class) (rulings more : List RulingValue) (answers : List (Option Numbered))
    → AreAnswers world classes rulings answers → AreAnswers world classes (rulings ++ more) answers
answers_behind world classes rulings more answers all =
    all_weaker (λ (a : Numbered). HasNumber world classes rulings a.one a.other a.number)
    (λ (a : Numbered). HasNumber world classes (rulings ++ more) a.one a.other a.number) answers
    (λ a (class, at, (ruling, here, is)). (class, at, (ruling, get_more rulings more a.number ruling here, is))) all

pub class_rows_more : (world : WorldValue) (classes : List Class) (class : Class) → AreActRows world class.shared.living class.rows.items
    → HaveRows world classes → HaveRows world (classes ++ class ∷ [])
class_rows_more world classes class are all n other at =
    elim (get_back classes class n other at) [
      | inl before ↦ all n other before
      | inr (last, same) ↦ let R : Class → Type 0 = λ c. AreActRows world c.shared.living c.rows.items in subst R (sym same) are
    ]

pub no_rows : (world : WorldValue) (classes : List Class) → classes ≡ [] → HaveRows world classes
no_rows world classes none n class at =
    let H : List Class → Type 0 = λ cs. slice_get cs n ≡ Some class in
    let within = slice_get_within [] n class (subst H none at) in
    absurd (omega (arith, within))

-- what holds of each pair holds of those from one on
pub pairs_behind : (P : Numbered → Type 0) (n : ℕ) (pairs : List (Option Numbered)) → AllAre P pairs → AllAre P (drop n pairs)
pairs_behind P zero pairs all = all
pairs_behind P (suc n) [] all = all
pairs_behind P (suc n) (pair ∷ pairs) all = pairs_behind P n pairs (λ i kept at. all (suc i) kept at)

-- there are no others
pub no_more : (classes : List Class) → HasMore classes classes
no_more classes = ([], sym (append-nil classes))

-- principal p and resource r, which share this, have the class that shares it
pub shared_class : (old new : MemoValue) (p r n : ℕ) (shared : SharedValue) → new.world ≡ old.world → IsSharedAt old.world p r shared
    → HasShared new.classes shared n → HasClass new.world new.classes p r n
shared_class old new p r n shared world is (class, at, same) =
    let S : SharedValue → Type 0 = IsSharedAt old.world p r in
    let W : WorldValue → Type 0 = λ w. IsSharedAt w p r class.shared in
    (class, at, subst W (sym world) (subst S (sym same) is))

-- what follows from the statements that match the requests of a class for an action is the verdict on those for each action on which
-- the same statements act
pub numbered : (old new : MemoValue) (n a b number : ℕ) (text : List ℕ) (frame : Frame) (found : List Matched) → n < length old.classes
    → IsAction old.world a text
    → ((it : Class) → slice_get old.classes n ≡ Some it → IsAction old.world a text → FindsAlike old.world it.shared text frame found)
    → ((it : Class) (other : List ℕ) → slice_get old.classes n ≡ Some it → IsAction old.world b other → ActAlike text other it.shared.living)
    → HasRuling new.rulings frame found number → new.classes ≡ old.classes → new.world ≡ old.world → HasNumber new.world new.classes new.rulings n b number
numbered old new n a b number text frame found below named finds alike (ruling, there, is) classes world =
    let (class, at) = get_within old.classes n below in
    let C : List Class → Type 0 = λ cs. slice_get cs n ≡ Some class in
    let W : WorldValue → Type 0 = λ w. IsSharedVerdict w class.shared b ruling.verdict in
    let verdict : IsSharedVerdict old.world class.shared b ruling.verdict =
    λ action applicable access asked shared.
    let (framed, matched) = finds class at named action (is_asked old.world b action asked) (alike class action at asked) applicable access shared in
    is.follows applicable (request_for access action) (framed ∙ shared.frame) matched in
    (class, subst C (sym classes) at, (ruling, there, subst W (sym world) verdict))

-- where no class is kept all of the room is left
pub none_within : (room : Room) (classes : List Class) → classes ≡ [] → room.left ≡ room.most → AreWithin room classes
none_within room classes none all = inl (omega (arith, ap cost none, all))

-- a class takes its room, or all where it stands alone
pub within_more : (old new : Room) (classes : List Class) (class : Class) → AreWithin old classes → IsFreeFor old classes class.shared
    → new.left ≡ old.left - (length class.shared.living + 1) → new.most ≡ old.most → AreWithin new (classes ++ class ∷ [])
within_more old new classes class within free left most =
    let dearer = sum_by_push (λ (c : Class). length c.shared.living + 1) classes class in grind (arith, common_steps, dearer)
