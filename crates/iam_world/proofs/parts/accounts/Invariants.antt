use Rattle.std.proofs.Common.{◌≡◌, map}
use Rattle.iam_shape.specs.Lent.{account_of}
use Rattle.iam_world.specs.Code.Made.{made_account}
use Rattle.iam_world.proofs.parts.accounts.Given as goal

-- the accounts so far are made of what was yielded
abbrev pub invariant-loop-account : goal.invariant-loop-account
invariant-loop-account l = l.read.items ≡ map (λ p. made_account (account_of p.0.now, map (λ level. level.items) p.1.items)) l.yielded
