use Rattle.std.proofs.Common.{◌≡◌, ◌<◌, ℕ, List, [], ◌∷◌, ◌++◌, Some, length, sym, subst, arith}
use Rattle.std.specs.List.{slice_get}
use Rattle.iam_decision.specs.Ruling.{RulingValue}
use Rattle.iam_classes.specs.Memo.{AreAnswers, AreSigns, HasRuling, MemoValue}
use Rattle.iam_index.proofs.ListLemmas.{get_next}
use Rattle.iam_classes.proofs.MemoLemmas.{answers_behind}
use Rattle.iam_classes.proofs.SignLemmas.{signs_behind}
use Rattle.iam_classes.proofs.memo.Memo.ruling.Goals as goal

pub invariant_of-self-2 : goal.invariant_of-self-2
invariant_of-self-2 c =
    let own = c.self.inside in
    let right = c.self.invariant in
    let world = own.world.now in
    let Q : List RulingValue → Type 0 = λ rulings. AreAnswers world own.classes.items rulings own.answers.items in
    let S : List RulingValue → Type 0 = λ rulings. AreSigns world own.classes.items rulings own.signs.items in
    let B : MemoValue → Type 0 = λ memo. length memo.rulings < memo.most_verdicts in
    record {
      pairs_are = right.pairs_are;
      answers_are =
          subst Q (sym c.in_ok-push.ensures.items)
          (answers_behind world own.classes.items own.rulings.items (c.in_ok-ruling.ruling ∷ []) own.answers.items right.answers_are);
      signs_are =
          subst S (sym c.in_ok-push.ensures.items)
          (signs_behind world own.classes.items own.rulings.items (c.in_ok-ruling.ruling ∷ []) own.signs.items right.signs_are);
      elements_are = right.elements_are;
      rows_are = right.rows_are;
      classes_fit = right.classes_fit;
      rulings_fit = omega (arith, c.in_ok-push.ensures.len, subst B (sym c.self.view_is) c.bound_rulings.ensures.room);
      some_fit = right.some_fit;
    }

pub returns-clause-number : goal.returns-clause-number
returns-clause-number c =
    let rulings = c.self.inside.rulings.items in
    let ruling = c.in_ok-ruling.ruling in
    let R : List RulingValue → Type 0 = λ rs. HasRuling rs c.args.frame c.args.found.now c.len-number.result in
    let N : ℕ → Type 0 = λ n. slice_get (rulings ++ ruling ∷ []) n ≡ Some ruling in
    let is : length rulings ≡ c.len-number.result = omega (arith, c.len-number.ensures) in
    subst R (sym c.in_ok-push.ensures.items) (ruling, subst N is (get_next rulings ruling), c.in_ok-ruling.ensures)
