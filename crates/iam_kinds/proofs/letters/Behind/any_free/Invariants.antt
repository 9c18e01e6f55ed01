use Rattle.std.proofs.Common.{◌≡◌, ◌<◌, ℕ, false, map}
use Rattle.std.specs.Char.{IsScalar}
use Rattle.iam_kinds.specs.Letters.{is_free}
use Rattle.iam_kinds.proofs.letters.Behind.any_free.Given as goal

abbrev pub invariant-loop-code : goal.invariant-loop-code
invariant-loop-code l =
    (c : ℕ) → c < l.code → IsScalar c → is_free l.self.stage l.self.waited.now (map (λ t. t.now) l.self.tails.now) c ≡ false
