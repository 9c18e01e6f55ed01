-- What the reading of a statement asks of it, and adds to those that were read.
use Rattle.std.specs.Prelude.{◌≡◌, List, [], ◌∷◌, ◌++◌, false, IsSome, codes}
use Rattle.serde_json.specs.Data.{Data}
use Rattle.serde_json.specs.Find.{get}
use Rattle.iam_text.specs.declared.version.Version.{Version}
use Rattle.iam_condition.specs.Condition.{has_bad_text}
use Rattle.iam_element.specs.Element.{neither, stands_as}
use Rattle.iam_policy.specs.Statement.{effect_of}
use Rattle.iam_element.specs.Grammar.{has_bad_variable}
use Rattle.iam_policy.specs.Fault.{HasBadValueIn}
use Rattle.iam_policy.specs.Reading.{ReadsStatement, StatementValue}

-- an effect, an action element, no bad variable and no bad value, as each statement without a fault has
pub record IsReadable (version : Version) (s : Data) : Type 0 where
  pub effect : IsSome (effect_of s)
  pub action : neither (get (codes "Action") s) (get (codes "NotAction") s) ≡ false
  pub variables : has_bad_variable version s ≡ false
  pub texts : stands_as (has_bad_text version) (get (codes "Condition") s) ≡ false
  pub values : ¬ HasBadValueIn s

-- one more statement, read from this value in a document of the version
pub record AddsStatement (version : Version) (s : Data) (old new : List StatementValue) : Type 0 where
  pub statement : StatementValue
  pub reads : ReadsStatement version s statement
  pub added : new ≡ old ++ statement ∷ []
