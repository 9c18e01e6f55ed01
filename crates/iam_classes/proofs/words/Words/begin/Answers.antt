use Rattle.std.proofs.Common.{ℕ, sym, subst}
use Rattle.iam_columns.proofs.SlotLemmas.{all_empty}
use Rattle.iam_living.specs.Asker.{IsAsker}
use Rattle.iam_classes.specs.Words.{IsWord}
use Rattle.iam_classes.proofs.words.Words.begin.Goals as goal

pub returns-clause-right : goal.returns-clause-right
returns-clause-right c = λ classes.
    let A : ℕ → Type 0 = λ q. IsAsker c.args.index.now q c.of.result in (
      subst A (sym c.of.ensures.principal) c.of.ensures.asker,
      all_empty (IsWord classes c.of.result) c.forget.new.self.slots.items c.forget.ensures.empty,
      λ number class at. absurd (c.forget.ensures.alikes number class at),
    )
