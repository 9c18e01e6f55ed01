use Rattle.std.proofs.Common.{rules, ◌≡◌, string_bytes}
use Rattle.iam_asked.proofs.before.add_before.Goals as goal

pub returns-clause-ok : goal.returns-clause-ok
returns-clause-ok c =
    let same : string_bytes c.in_ok-pattern.pattern ≡ string_bytes c.args.line.now.pattern = search rules in (
      record { pattern = c.in_ok-pattern.pattern; said = c.in_ok-said.said },
      (same, c.in_ok-said.ensures.ok),
      c.in_ok-push.ensures.items,
    )
