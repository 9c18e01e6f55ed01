use Rattle.std.proofs.Common.{List, ap, arith, length, refl, sym, subst}
use Rattle.iam_decision.specs.Ruling.{RulingValue}
use Rattle.iam_world.specs.World.{WorldValue}
use Rattle.iam_index.specs.Elements.{AreElements}
use Rattle.iam_classes.specs.Memo.{HasClass, HasNumber, HasSigned}
use Rattle.iam_index.specs.declared.signs.Sign.{Sign}
use Rattle.iam_columns.specs.declared.numbered.Numbered.{Numbered}
use Rattle.iam_classes.proofs.MemoLemmas.{no_rows, none_within}
use Rattle.iam_columns.proofs.SlotLemmas.{all_empty}
use Rattle.iam_classes.proofs.memo.Memo.new.Goals as goal

pub invariant_of-result : goal.invariant_of-result
invariant_of-result c =
    let world = c.world-world.result.now in
    let classes = c.new.result.items in
    let rulings = c.new-2.result.items in
    let W : WorldValue → Type 0 = λ w. AreElements w c.elements.result.now.elements.items in
    record {
      pairs_are = all_empty (λ (p : Numbered). HasClass world classes p.one p.other p.number) c.in_ok-pair_slots.field-0.items c.in_ok-pair_slots.ensures;
      answers_are =
          all_empty (λ (a : Numbered). HasNumber world classes rulings a.one a.other a.number) c.in_ok-empty_slots.field-0.items
          c.in_ok-empty_slots.ensures.empty;
      signs_are =
          all_empty (λ (s : Sign). HasSigned world classes rulings s.class s.word s.number) c.in_ok-empty_slots-2.field-0.items
          c.in_ok-empty_slots-2.ensures.empty;
      elements_are = subst W (sym c.world-world.ensures) c.elements.ensures;
      rows_are = no_rows world classes c.new.ensures.items;
      classes_fit = none_within _ classes c.new.ensures.items refl;
      rulings_fit = omega (arith, ap (λ (rs : List RulingValue). length rs) c.new-2.ensures.items);
      some_fit = omega (arith, c.max-2.ensures);
    }
