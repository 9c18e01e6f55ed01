-- How the code finds the least fault, beside the set that it is the least of (`Fault`).
use Rattle.std.specs.Prelude.{◌≡◌, ◌↔◌, ℕ, ◌<◌, Bool, false, ◌&&◌, ◌||◌, Option, Some, None, IsTrue}
use Rattle.std.specs.List.{find, slice_get}
use Rattle.serde_json.specs.Data.{Data}
use Rattle.iam_text.specs.declared.version.Version.{Version}
use Rattle.iam_condition.specs.Condition.{has_bad_text, has_many_values, has_unknown_operator, is_bad_form}
use Rattle.iam_policy.specs.declared.fault.Fault.{Fault}
use Rattle.iam_policy.specs.declared.fault.Fault.TheVariants.{BadCondition, BadValue, BadVariable, TooMany, UnknownOperator}
use Rattle.iam_policy.specs.declared.fault.Kind.{Kind}
use Rattle.iam_policy.specs.declared.fault.Refused.{Refused}
use Rattle.iam_policy.specs.declared.table.StatementPlace.{StatementPlace}
use Rattle.iam_policy.specs.Fault.{HasBadValueIn, document_has, repeats_sid, sids_before, statement_has, statements_in}
use Rattle.iam_policy.specs.Table.{fault_is, table}
use Rattle.iam_policy.specs.Version.{version_of}

-- the least fault of a document itself
abbrev pub document_fault : Kind → Data → Option Fault
document_fault kind d = find (document_has kind d) table

-- the lines of the table for a condition in a document of the version
abbrev pub condition_line : Version → Fault → Data → Bool
condition_line version BadVariable condition = has_bad_text version condition
condition_line version UnknownOperator condition = has_unknown_operator condition
condition_line version BadCondition condition = is_bad_form condition
condition_line version TooMany condition = has_many_values condition
condition_line version _ condition = false

-- what stands there of the document is so of statement i: its version, and that the `Sid` repeats an earlier one
pub record IsPlaceOf (d : Data) (i : ℕ) (s : Data) (place : StatementPlace) : Type 0 where
  pub version : place.version ≡ version_of d
  pub repeats : place.repeats ≡ repeats_sid (sids_before d i) s

-- a line of the table for a statement, where it is known whether a value of its condition is bad
abbrev pub line_has : Kind → Data → ℕ → Data → Bool → Fault → Bool
line_has kind d i s bad fault = statement_has kind d i s fault || (fault_is BadValue fault && bad)

-- the least fault of a statement
unfoldable pub fault_of : Kind → Data → ℕ → Data → Bool → Option Fault
fault_of kind d i s bad = find (line_has kind d i s bad) table

-- this is the least fault of a statement
pub record HasLeast (kind : Kind) (d : Data) (i : ℕ) (s : Data) (fault : Option Fault) : Type 0 where
  pub bad : Bool
  pub decides : IsTrue bad ↔ HasBadValueIn s
  pub least : fault_of kind d i s bad ≡ fault

-- no statement below `i` is at fault
abbrev pub AreFaultless : Kind → Data → ℕ → Type 0
AreFaultless kind d i =
    (k : ℕ) (s : Data) → k < i → slice_get (statements_in d) k ≡ Some s → HasLeast kind d k s None

-- statement `i` is the first that is at fault
pub record IsFirstFault (kind : Kind) (d : Data) (i : ℕ) (fault : Fault) : Type 0 where
  pub before : AreFaultless kind d i
  pub statement : Data
  pub at : slice_get (statements_in d) i ≡ Some statement
  pub fault_is : HasLeast kind d i statement (Some fault)

-- the refusal names the first statement that is at fault, and its least fault
abbrev pub IsFirstRefused : Kind → Data → Refused → Type 0
IsFirstRefused kind d refused = (i : ℕ) × (refused.statement ≡ Some i) × IsFirstFault kind d i refused.fault
