use Rattle.std.proofs.Common.{IfSome, sym, subst}
use Rattle.iam_classes.specs.Memo.{HasNumber, HasSigned, MemoValue}
use Rattle.iam_columns.specs.declared.numbered.Numbered.{Numbered}
use Rattle.iam_columns.proofs.SlotLemmas.{all_gained}
use Rattle.iam_classes.proofs.SignLemmas.{signs_gained}
use Rattle.iam_classes.proofs.memo.Memo.keep_number.Goals as goal

pub invariant_of-self : goal.invariant_of-self
invariant_of-self c =
    let own = c.self.inside in
    let right = c.self.invariant in
    let new = c.keep_number.new.slots.items in
    let answer : Numbered = record { one = c.args.class; other = c.args.a; number = c.args.number } in
    let M : MemoValue → Type 0 = λ memo. HasNumber memo.world memo.classes memo.rulings c.args.class c.args.a c.args.number in
    let S : MemoValue → Type 0 = λ memo. IfSome c.args.word (λ w. HasSigned memo.world memo.classes memo.rulings c.args.class w c.args.number) in
    let P : Numbered → Type 0 = λ a. HasNumber own.world.now own.classes.items own.rulings.items a.one a.other a.number in
    record {
      pairs_are = right.pairs_are;
      answers_are = all_gained P own.answers.items new answer c.keep_number.ensures.gains right.answers_are (subst M (sym c.self.view_is) c.requires.number);
      signs_are =
          signs_gained own.world.now own.classes.items own.rulings.items own.signs.items c.keep_signed.new.signs.items c.args.class c.args.number c.args.word
          c.keep_signed.ensures right.signs_are (subst S (sym c.self.view_is) c.requires.sign);
      elements_are = right.elements_are;
      rows_are = right.rows_are;
      classes_fit = right.classes_fit;
      rulings_fit = right.rulings_fit;
      some_fit = right.some_fit;
    }
