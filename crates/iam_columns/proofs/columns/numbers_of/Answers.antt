use Rattle.std.proofs.Common.{◌+◌, ◌∷◌, [], ℕ, IfSome, List, Option, length, ap, sym, ◌∙◌, subst}
use Rattle.std.proofs.lemmas.List.{length-append}
use Rattle.iam_columns.specs.Columns.{HasFirst}
use Rattle.iam_columns.proofs.ColumnLemmas.{HaveFirsts, columns_of_firsts, firsts_more}
use Rattle.iam_columns.proofs.columns.numbers_of.Goals as goal

pub loop-r-preserved : goal.loop-r-preserved
loop-r-preserved c =
    let world = c.args.world.now in
    let rows = c.args.rows.now in
    let numbers = c.loop-r.numbers.items in
    let number = c.in_ok-number.number in
    let new = c.number.new.self.firsts.items in
    let so_far = c.loop-r.invariant in
    let (more, grown) = c.in_ok-number.ensures.more in
    let I : ℕ → Type 0 = λ i. IfSome number (λ n. HasFirst world rows new n i) in
    let H : List (Option ℕ) → Type 0 = HaveFirsts world rows new in
    record {
      count = ap (λ (all : List (Option ℕ)). length all) c.in_ok-push.ensures.items ∙ length-append numbers (number ∷ []) ∙ ap (λ n. n + 1) so_far.count;
      are = λ are. subst H (sym c.in_ok-push.ensures.items)
          (firsts_more world rows c.loop-r.firsts.firsts.items more new numbers number grown (subst I (sym so_far.count) (c.in_ok-number.ensures.first are))
          (so_far.are are));
    }

pub returns : goal.returns
returns c = λ are. columns_of_firsts c.args.world.now c.args.rows.now c.loop-r.firsts.firsts.items c.loop-r.numbers.items (c.loop-r.invariant.are are)
