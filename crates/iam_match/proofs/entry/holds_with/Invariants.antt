use Rattle.std.proofs.Common.{All, MatchBool, take}
use Rattle.iam_match.specs.Entry.{Satisfies, asks_every}
use Rattle.iam_match.proofs.entry.holds_with.Given as goal

-- the texts so far
abbrev pub invariant-loop-text : goal.invariant-loop-text
invariant-loop-text l =
    let S = Satisfies l.context l.operator l.values in
    All (λ text. MatchBool (asks_every l.operator.quantifier l.operator.is_negated) (S text) (¬ S text)) (take l.text-index l.texts)
