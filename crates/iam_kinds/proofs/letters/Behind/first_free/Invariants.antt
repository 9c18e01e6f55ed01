use Rattle.std.proofs.Common.{◌≡◌, ℕ, false, map, take}
use Rattle.std.specs.List.{Contains}
use Rattle.iam_kinds.specs.Letters.{is_free}
use Rattle.iam_kinds.proofs.letters.Behind.first_free.Given as goal

abbrev pub invariant-loop-code : goal.invariant-loop-code
invariant-loop-code l =
    (c : ℕ) → Contains (take l.code-index l.code-items) c → is_free l.self.stage l.self.waited.now
    (map (λ t. t.now) l.self.tails.now) c ≡ false
