-- What a statement says: all its elements but the `Sid`, which names it. LOGIC 13.7.
use Rattle.std.specs.Prelude.{None}
use Rattle.iam_policy.specs.Reading.{StatementValue}

abbrev pub without_sid : StatementValue → StatementValue
without_sid statement = record statement { sid = None }
