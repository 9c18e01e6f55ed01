use Rattle.std.proofs.Common.{◌≡◌, ◌⊎◌, ◌<◌, ℕ, true}
use Rattle.std.specs.Char.{IsScalar}
use Rattle.std.specs.List.{Contains}
use Rattle.iam_kinds.specs.Letters.{IsOtherAt, is_other}
use Rattle.iam_kinds.proofs.letters.Behind.add_others.Given as goal

abbrev pub invariant-loop-code : goal.invariant-loop-code
invariant-loop-code l =
    ((c : ℕ) → Contains l.fn.letters.items c → Contains l.letters.items c)
    × ((c : ℕ) → c < l.code → IsScalar c → is_other l.self.stage l.self.waited.now c ≡ true → Contains l.letters.items c)
    × ((c : ℕ) → Contains l.letters.items c → Contains l.fn.letters.items c ⊎ IsOtherAt l.self.stage l.self.waited.now c)
