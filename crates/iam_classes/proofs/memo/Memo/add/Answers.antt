use Rattle.std.proofs.Common.{◌≡◌, ℕ, List, [], ◌∷◌, ◌++◌, ◌+◌, ◌-◌, Some, length, refl, sym, ap, ◌∙◌, subst, arith}
use Rattle.std.proofs.lemmas.List.{length-map}
use Rattle.std.specs.List.{slice_get}
use Rattle.iam_decision.specs.Living.{LivingValue, SharedValue, living_value}
use Rattle.iam_index.specs.Elements.{AreActRows}
use Rattle.iam_classes.specs.Memo.{AreAnswers, ArePairs, AreSigns, AreWithin, HasShared, HaveRows, IsFreeFor, MemoValue}
use Rattle.iam_classes.specs.declared.memo.Class.{Class}
use Rattle.iam_classes.specs.declared.memo.Room.{Room}
use Rattle.iam_index.proofs.ListLemmas.{get_next}
use Rattle.iam_classes.proofs.MemoLemmas.{answers_more, class_rows_more, pairs_more, within_more}
use Rattle.iam_classes.proofs.SignLemmas.{signs_more}
use Rattle.iam_classes.proofs.memo.Memo.add.Goals as goal

pub invariant_of-self-2 : goal.invariant_of-self-2
invariant_of-self-2 c =
    let own = c.self.inside in
    let right = c.self.invariant in
    let world = own.world.now in
    let classes = own.classes.items in
    let class : Class = record { shared = c.args.shared; rows = c.in_ok-rows.rows } in
    let P : List Class → Type 0 = λ cs. ArePairs world cs own.pairs.items in
    let Q : List Class → Type 0 = λ cs. AreAnswers world cs own.rulings.items own.answers.items in
    let S : List Class → Type 0 = λ cs. AreSigns world cs own.rulings.items own.signs.items in
    let R : List Class → Type 0 = λ cs. HaveRows world cs in
    let L : List LivingValue → Type 0 = λ living. AreActRows world living class.rows.items in
    let own_living = c.living-living.ensures ∙ ap (λ (s : SharedValue). s.living) c.get.ensures in
    let F : MemoValue → Type 0 = λ memo. IsFreeFor memo.room memo.classes c.args.shared in
    let room : Room = record { left = c.saturating_sub-self-inside.result; most = own.room.most } in
    let W : List Class → Type 0 = λ cs. AreWithin room cs in
    let many = sym (length-map c.living-living.result.now living_value) ∙ ap (λ (l : List LivingValue). length l) own_living in
    let left : room.left ≡ own.room.left - (length class.shared.living + 1) =
    omega (arith, c.saturating_sub-left.ensures, c.saturating_sub-self-inside.ensures, many) in
    let rows = subst L own_living (c.in_ok-rows.ensures world right.elements_are) in
    record {
      pairs_are = subst P (sym c.in_ok-push.ensures.items) (pairs_more world classes (class ∷ []) own.pairs.items right.pairs_are);
      answers_are =
          subst Q (sym c.in_ok-push.ensures.items)
          (answers_more world classes (class ∷ []) own.rulings.items own.answers.items right.answers_are);
      signs_are =
          subst S (sym c.in_ok-push.ensures.items) (signs_more world classes (class ∷ []) own.rulings.items own.signs.items right.signs_are);
      elements_are = right.elements_are;
      classes_fit =
          subst W (sym c.in_ok-push.ensures.items)
          (within_more own.room room classes class right.classes_fit (subst F (sym c.self.view_is) c.requires) left refl);
      rulings_fit = right.rulings_fit;
      some_fit = right.some_fit;
      rows_are = subst R (sym c.in_ok-push.ensures.items) (class_rows_more world classes class rows right.rows_are);
    }

pub returns-clause-class : goal.returns-clause-class
returns-clause-class c =
    let classes = c.self.inside.classes.items in
    let class : Class = record { shared = c.args.shared; rows = c.in_ok-rows.rows } in
    let S : List Class → Type 0 = λ cs. HasShared cs c.args.shared c.len-class.result in
    let N : ℕ → Type 0 = λ n. slice_get (classes ++ class ∷ []) n ≡ Some class in
    let is : length classes ≡ c.len-class.result = omega (arith, c.len-class.ensures) in
    subst S (sym c.in_ok-push.ensures.items) (class, subst N is (get_next classes class), refl)
