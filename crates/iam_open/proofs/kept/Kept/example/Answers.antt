use Rattle.std.proofs.Common.{List, All, subst, sym}
use Rattle.iam_open.specs.Code.Pairs.{IsKept}
use Rattle.iam_open.specs.declared.pair.Pair.{Pair}
use Rattle.iam_open.proofs.kept.Kept.example.Goals as goal

pub returns-clause-kept : goal.returns-clause-kept
returns-clause-kept c =
    subst (λ (xs : List Pair). All (IsKept c.args.world.now) xs) (sym c.keep_found.ensures) c.requires.kept
