use Rattle.std.proofs.Common.{◌≡◌, ℕ, below_more, sym, true, false, ◌∙◌}
use Rattle.std.specs.List.{Contains}
use Rattle.iam_kinds.proofs.StateLemmas.{number_in, number_out}
use Rattle.iam_kinds.proofs.walk.has_below.Goals as goal

pub returns-then-not-contains : goal.returns-then-not-contains
returns-then-not-contains c =
    let none = sym c.contains.ensures.value ∙ c.if-not-contains.true in (
      λ e. absurd (let wrong : false ≡ true = e in cc),
      λ all. absurd (number_out c.args.numbers.now c.loop-number.number-counter none (all c.loop-number.number-counter c.loop-number-test.true)),
    )

pub loop-number-preserved : goal.loop-number-preserved
loop-number-preserved c =
    let P : ℕ → Type 0 = λ g. Contains c.args.numbers.now g in
    below_more P c.loop-number.number-counter c.loop-number.invariant
    (number_in c.args.numbers.now c.loop-number.number-counter (sym c.contains.ensures.value ∙ c.if-not-contains.false))
