use Rattle.std.proofs.Common.{◌∙◌, sym}
use Rattle.std.specs.List.{Contains}
use Rattle.iam_kinds.proofs.CasedLemmas.{case_never, case_own}
use Rattle.iam_kinds.proofs.cased.cased_letter.Goals as goal

pub returns-in-Some-waited_at-clause-same : goal.returns-in-Some-waited_at-clause-same
returns-in-Some-waited_at-clause-same c =
    (case_own c.args.table.now.patterns.items c.args.own.now.patterns.items
    (Contains c.args.places.now) c.in-Some.place c.args.letter c.in-Some-waited_at.own
    c.requires.own (rw c.in-Some.is at c.first_waiting.ensures.some) (sym c.waited_at.ensures ∙ c.in-Some-waited_at.is)).0

pub returns-in-Some-waited_at-clause-cased : goal.returns-in-Some-waited_at-clause-cased
returns-in-Some-waited_at-clause-cased c =
    (case_own c.args.table.now.patterns.items c.args.own.now.patterns.items
    (Contains c.args.places.now) c.in-Some.place c.args.letter c.in-Some-waited_at.own
    c.requires.own (rw c.in-Some.is at c.first_waiting.ensures.some) (sym c.waited_at.ensures ∙ c.in-Some-waited_at.is)).1

pub returns-in-None-clause-cased : goal.returns-in-None-clause-cased
returns-in-None-clause-cased c =
    absurd (case_never c.args.table.now.patterns.items c.args.own.now.patterns.items
    (Contains c.args.places.now) c.in-Some.place c.args.letter
    c.requires.own (rw c.in-Some.is at c.first_waiting.ensures.some) (sym c.waited_at.ensures ∙ c.in-None.is))
