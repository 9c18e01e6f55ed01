use Rattle.std.proofs.Common.{◌≡◌, ℕ, ap, below_more, false, map, sym, ◌∙◌}
use Rattle.std.specs.Char.{IsScalar}
use Rattle.iam_kinds.specs.Letters.{is_free}
use Rattle.iam_kinds.proofs.letters.Behind.any_free.Goals as goal
use Rattle.iam_kinds.proofs.letters.Behind.any_free.Goals.{in-Some+else-is_free, in_default}

pub loop-code-preserved : goal.loop-code-preserved
loop-code-preserved c =
    let free = is_free c.args.self.now.stage c.args.self.now.waited.now (map (λ t. t.now) c.args.self.now.tails.now) in
    let P : ℕ → Type 0 = λ d. IsScalar d → free d ≡ false in
    below_more P c.loop-code.code c.loop-code.invariant (elim c.match-from_u32.branch [
      | in-Some+else-is_free w ↦ (λ scalar. ap free (sym w.in-Some.ensures.value.1) ∙ sym w.is_free.ensures ∙ w.if-is_free.false)
      | in_default w ↦ (λ scalar. absurd (w.in_default.ensures.value scalar))
    ])
