use Rattle.std.proofs.Common.{inl, inr, ℕ, arith, sym, subst}
use Rattle.std.proofs.lemmas.Option.{slice_get_within}
use Rattle.iam_columns.specs.Slots.{Keeps}
use Rattle.iam_columns.proofs.ListLemmas.{less_or_last}
use Rattle.iam_index.proofs.list_rows.have_rows.Goals as goal

pub loop-i-preserved : goal.loop-i-preserved
loop-i-preserved c = λ i less.
    let K : ℕ → Type 0 = λ k. (n : ℕ) × Keeps c.args.rows.now k n in
    elim (less_or_last i c.loop-i.i less) [
      | inl before ↦ c.loop-i.invariant i before
      | inr last ↦ subst K (sym last) (c.has_row.ensures c.if-not-has_row.false)
    ]

pub returns : goal.returns
returns c = λ statements known count are so i standing at.
    let within = slice_get_within statements i standing at in
    let (n, kept) = c.loop-i.invariant i (omega (arith, within, count, c.loop-i-test.false, c.loop-i.auto.i-end)) in (n, are i n standing kept at)
