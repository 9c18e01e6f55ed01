use Rattle.std.proofs.Common.{sym, subst}
use Rattle.iam_classes.specs.Memo.{HasClass, MemoValue}
use Rattle.iam_columns.specs.declared.numbered.Numbered.{Numbered}
use Rattle.iam_columns.proofs.SlotLemmas.{all_gained}
use Rattle.iam_classes.proofs.memo.Memo.keep_class.Goals as goal

pub invariant_of-self : goal.invariant_of-self
invariant_of-self c =
    let own = c.self.inside in
    let right = c.self.invariant in
    let new = c.keep_number.new.slots.items in
    let pair : Numbered = record { one = c.args.p; other = c.args.r; number = c.args.class } in
    let P : Numbered → Type 0 = λ p. HasClass own.world.now own.classes.items p.one p.other p.number in
    let M : MemoValue → Type 0 = λ memo. HasClass memo.world memo.classes c.args.p c.args.r c.args.class in
    record {
      pairs_are = all_gained P own.pairs.items new pair c.keep_number.ensures.gains right.pairs_are (subst M (sym c.self.view_is) c.requires);
      answers_are = right.answers_are;
      signs_are = right.signs_are;
      elements_are = right.elements_are;
      rows_are = right.rows_are;
      classes_fit = right.classes_fit;
      rulings_fit = right.rulings_fit;
      some_fit = right.some_fit;
    }
