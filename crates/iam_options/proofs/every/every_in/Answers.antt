use Rattle.std.proofs.Common.{rules, inr}
use Rattle.iam_options.specs.AnyKey.{HasOtherWords}
use Rattle.iam_options.proofs.every.every_in.Goals as goal

pub returns-in_default-2-clause-refused : goal.returns-in_default-2-clause-refused
returns-in_default-2-clause-refused c more =
    let other : HasOtherWords c.args.command.now = search rules in
    inr (inr other)
