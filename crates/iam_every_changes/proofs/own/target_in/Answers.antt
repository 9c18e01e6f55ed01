use Rattle.std.proofs.Common.{IfNone, None, Option, Some, map, sym}
use Rattle.iam_every.specs.Every.{line_of}
use Rattle.iam_every_changes.specs.Made.{IsAsked}
use Rattle.iam_every_changes.proofs.LineLemmas.{asked_across}
use Rattle.iam_every_changes.proofs.own.target_in.Goals as goal

if_none : {X : Type 0} (o : Option X) (P : Type 0) → P → IfNone o P
if_none None P p = p
if_none (Some x) P p = tt

pub returns-in_err-was-clause-none : goal.returns-in_err-was-clause-none
returns-in_err-was-clause-none c =
    let before = map line_of c.args.both.before.asked.lines.now in
    let after = map line_of c.args.both.after.asked.lines.now in
    if_none c.from_residual.result (¬ IsAsked after c.args.text.now)
    (λ asked. c.in_err-was.ensures.none (asked_across after before c.args.text.now (sym c.requires.both.patterns) asked))
