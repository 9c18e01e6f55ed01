use Rattle.std.proofs.Common.{◌∙◌, inl, inr, ap, map, rules, subst, sym, take, ℕ, List}
use Rattle.std.specs.Char.{IsScalar}
use Rattle.std.specs.List.{Contains}
use Rattle.std.proofs.lemmas.List.{take_more}
use Rattle.std.proofs.lemmas.List.Elements.{Contains-push_cases}
use Rattle.iam_kinds.specs.Letters.{IsFreeAt, is_free}
use Rattle.iam_kinds.proofs.SpelledLemmas.{first_here, not_free}
use Rattle.iam_kinds.proofs.letters.Behind.first_free.Goals as goal

pub returns-then-is_free-clause-some : goal.returns-then-is_free-clause-some
returns-then-is_free-clause-some c =
    let tails = map (λ t. t.now) c.args.self.now.tails.now in
    let scalar : IsScalar c.from-letter.result = search rules in
    first_here (IsFreeAt c.args.self.now.stage c.args.self.now.waited.now tails) c.as_bytes-code-items.result.now c.loop-code.code-index c.from-letter.result
    c.as_bytes-code-items.ensures.value c.loop-code-test.true c.from-letter.ensures (scalar, sym c.is_free.ensures ∙ c.if-is_free.true)
    (λ d h. not_free c.args.self.now.stage c.args.self.now.waited.now tails d (c.loop-code.invariant d h))

pub loop-code-preserved : goal.loop-code-preserved
loop-code-preserved c =
    let items = c.as_bytes-code-items.result.now in
    let i = c.loop-code.code-index in
    let free = is_free c.args.self.now.stage c.args.self.now.waited.now (map (λ t. t.now) c.args.self.now.tails.now) in
    let more = take_more items i 0 c.loop-code-test.true in
    λ d h. elim (Contains-push_cases (take i items) _ d (subst (λ (l : List ℕ). Contains l d) more h)) [
      | inl o ↦ c.loop-code.invariant d o
      | inr e ↦ ap free (sym e ∙ sym c.from-letter.ensures) ∙ sym c.is_free.ensures ∙ c.if-is_free.false
    ]
