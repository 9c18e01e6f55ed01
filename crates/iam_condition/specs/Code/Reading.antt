-- How the code reads the keys of a condition, beside `Condition`.
use Rattle.std.specs.Prelude.{◌≡◌, ℕ, List, false, not, ◌&&◌}
use Rattle.std.specs.List.{AllByRecursion}
use Rattle.serde_json.specs.Data.{Data}
use Rattle.serde_json.specs.View.{view}
use Rattle.iam_text.specs.declared.version.Version.{Version}
use Rattle.iam_text.specs.Variables.{is_draft_in}
use Rattle.iam_condition.specs.declared.operator.Base.{Base}
use Rattle.iam_condition.specs.declared.reading.Key.{Key}
use Rattle.iam_condition.specs.Condition.{Given, IsBadValue, is_bad_text, values_under}
use Rattle.iam_condition.specs.Operand.{IsOffGrammar, has_texts}

-- a key as the code keeps it
abbrev pub given_of : Key → Given
given_of key = record { operator = key.operator; key = key.name.now; value = view key.value.now }

-- the text is on the grammar of the operator's values, and of variables where these are texts
pub record IsFineText (version : Version) (base : Base) (text : List ℕ) : Type 0 where
  pub on_grammar : ¬ IsOffGrammar base text
  pub draft : (has_texts base && not (is_draft_in version text)) ≡ false

-- neither fault of values
pub record IsFine (version : Version) (base : Base) (d : Data) : Type 0 where
  pub value : ¬ IsBadValue base d
  pub text : (has_texts base && is_bad_text version d) ≡ false

-- no value of the key has a fault
abbrev pub IsFineGiven : Version → Given → Type 0
IsFineGiven version g = AllByRecursion (IsFine version g.operator.base) (values_under g.value)
