use Rattle.std.proofs.Common.{All, map, subst, sym}
use Rattle.iam_every_changes.specs.Made.{IsAsked}
use Rattle.iam_every_changes.specs.States.{both_of}
use Rattle.iam_every_changes.proofs.TargetLemmas.{own_asked}
use Rattle.iam_every_changes.proofs.own.targets.Goals as goal

pub targets_of-requires-clause-asked : goal.targets_of-requires-clause-asked
targets_of-requires-clause-asked c =
    let both = both_of c.args.both in
    subst (λ l. All (IsAsked both.after.every.lines) (map (λ text. text.now) l)) (sym c.as_slice.ensures.value)
    (own_asked both (map (λ text. text.now) c.in_ok-texts.texts.items) c.in_ok-texts.ensures.texts)
