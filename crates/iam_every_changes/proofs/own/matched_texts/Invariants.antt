use Rattle.std.proofs.Common.{map, take}
use Rattle.iam_decision.specs.Matched.{Selects}
use Rattle.iam_every.specs.Every.{line_of}
use Rattle.iam_every_changes.specs.Made.{IsAsked}
use Rattle.iam_every_changes.proofs.own.matched_texts.Given as goal

abbrev pub invariant-loop-text : goal.invariant-loop-text
invariant-loop-text l =
    Selects (IsAsked (map line_of l.lines)) (take l.text-index (map (λ text. text.now) l.texts)) (map (λ text. text.now) l.matched.items)
