use Rattle.std.proofs.Common.{codes}
use Rattle.iam_options.specs.Words.{IsFlag}
use Rattle.iam_options.proofs.any_key.any_key_at.Goals as goal

pub returns-clause-none : goal.returns-clause-none
returns-clause-none c none =
    let flag : IsFlag c.args.command.now (codes "any-key") c.get_flag-any_key.result =
    record { absent = c.get_flag-any_key.ensures.none; on = c.get_flag-any_key.ensures.value; off = c.get_flag-any_key.ensures.other } in (
      c.get_flag-any_key.result,
      flag,
      λ are. let told = c.in_ok-has_words.ensures.1 are in absurd (let wrong : ⊥ = cc in wrong),
    )
