-- The first fault of the document, or else the first of the first statement that has one, is the least of the set.
use Rattle.std.proofs.Common.{◌≢◌, ◌≡◌, ◌↔◌, ◌⊎◌, ◌&&◌, ◌||◌, inl, inr, ℕ, suc, ◌+◌, ◌<◌, ◌≤◌, Bool, true, false, Option, Some, None, length, refl, sym, ap, subst, arith, IsTrue, cond, codes, is_some, is_none, unwrap_or}
use Rattle.std.proofs.lemmas.Bool.{cases_order, eqb-true}
use Rattle.std.proofs.lemmas.Option.{slice_get_within}
use Rattle.std.specs.List.{slice_get}
use Rattle.std.specs.Option.{option_map_or}
use Rattle.serde_json.specs.Data.{Data}
use Rattle.serde_json.specs.Find.{as_object, get}
use Rattle.iam_text.specs.declared.version.Version.{Version}
use Rattle.iam_text.specs.declared.version.Version.TheVariants.{V2012}
use Rattle.iam_policy.specs.declared.fault.Fault.{Fault}
use Rattle.iam_policy.specs.declared.fault.Fault.TheVariants.{BadStatement, BadValue, BadVersion, NotObject, OutOfMemory}
use Rattle.iam_policy.specs.declared.fault.Kind.{Kind}
use Rattle.iam_policy.specs.declared.fault.Refused.{Refused}
use Rattle.iam_policy.specs.Fault.{HasBadValueIn, document_has, statement_has, statement_line, statements_in, HasFault, IsAccepted, IsNotAfter, IsLeastFault}
use Rattle.iam_policy.specs.Code.First.{AreFaultless, HasLeast, IsFirstFault, IsFirstRefused, document_fault, fault_of, line_has}
use Rattle.iam_policy.specs.Table.{number_of, fault_is}
use Rattle.iam_policy.specs.Version.{version_named, version_of}
use Rattle.iam_policy.proofs.ElementLemmas.{first_false}
use Rattle.iam_policy.proofs.TableLaws.{found_not_memory, none_passes, least_passes, found_passes, same_number}

document_memory : (kind : Kind) (d : Data) → document_has kind d OutOfMemory ≡ false
document_memory kind d = go (is_some (as_object d))
  where
    go : (b : Bool) → cond b false false ≡ false
    go true = refl
    go false = refl

line_memory : (kind : Kind) (d : Data) (i : ℕ) (s : Data) (bad : Bool) → line_has kind d i s bad OutOfMemory ≡ false
line_memory kind d i s bad = go (is_some (as_object s))
  where
    go : (b : Bool) → (cond b false false || false) ≡ false
    go true = refl
    go false = refl

document_clean : (kind : Kind) (d : Data) → document_fault kind d ≡ None → (fault : Fault) → document_has kind d fault ≡ false
document_clean kind d none = none_passes (document_has kind d) (document_memory kind d) none

line_none : (kind : Kind) (d : Data) (i : ℕ) (s : Data) (bad : Bool) → fault_of kind d i s bad ≡ None → (fault : Fault) → line_has kind d i s bad fault ≡ false
unfolding fault_of
line_none kind d i s bad none = none_passes (line_has kind d i s bad) (line_memory kind d i s bad) none

-- a fault of the document is the least of all
pub document_least : (kind : Kind) (d : Data) (fault : Fault) → document_fault kind d ≡ Some fault → IsLeastFault kind d None fault
document_least kind d fault e = record { holds = found_passes (document_has kind d) fault e; least = least }
  where
    least : (place : Option ℕ) (other : Fault) → HasFault kind d place other → IsNotAfter None fault place other
    least None other h = inr (refl, least_passes (document_has kind d) (document_memory kind d) fault e other h)
    least (Some i) other h = inl (omega arith)

-- what a fault of a statement says of it
abbrev IsFaultOf : Kind → Data → ℕ → Data → Fault → Type 0
IsFaultOf kind d i s fault = (statement_has kind d i s fault ≡ true) ⊎ ((fault ≡ BadValue) × HasBadValueIn s)

-- a fault of statement i: what it says of that statement
statement_holds : (kind : Kind) (d : Data) (i : ℕ) (fault : Fault) → HasFault kind d (Some i) fault
    → (s : Data) × (slice_get (statements_in d) i ≡ Some s) × IsFaultOf kind d i s fault
statement_holds kind d i fault h = elim h [
  | inl line ↦ go (slice_get (statements_in d) i) refl line
  | inr value ↦ (value.1, value.2, inr (value.0, value.3))
]
  where
    go : (o : Option Data) → slice_get (statements_in d) i ≡ o → IsTrue (option_map_or (λ s. statement_has kind d i s fault) o false)
        → (s : Data) × (slice_get (statements_in d) i ≡ Some s) × IsFaultOf kind d i s fault
    go None e line = cc
    go (Some s) e line = (s, e, inl line)

or_true : (b : Bool) → (b || true) ≡ true
or_true true = refl
or_true false = refl

-- it passes the code's test of the line
line_passes : (kind : Kind) (d : Data) (i : ℕ) (s : Data) (bad : Bool) (fault : Fault) → IsTrue bad ↔ HasBadValueIn s → IsFaultOf kind d i s fault
    → line_has kind d i s bad fault ≡ true
line_passes kind d i s bad fault decides is = elim is [
  | inl line ↦ rw line refl
  | inr value ↦ (
      let holds : bad ≡ true = decides.1 value.1 in
      let other : (fault_is BadValue fault && bad) ≡ true = rw (value.0, holds) refl in
      rw other (or_true (statement_has kind d i s fault))
      )
]

-- and what passes that test is a fault of the statement
line_is_fault : (kind : Kind) (d : Data) (i : ℕ) (s : Data) (bad : Bool) (fault : Fault) → IsTrue bad ↔ HasBadValueIn s → slice_get (statements_in d) i ≡ Some s
    → line_has kind d i s bad fault ≡ true → HasFault kind d (Some i) fault
line_is_fault kind d i s bad fault decides at holds = go (statement_has kind d i s fault) refl holds
  where
    P : Option Data → Type 0
    P o = IsTrue (option_map_or (λ t. statement_has kind d i t fault) o false)

    value : (same bad : Bool) → (same && bad) ≡ true → (same ≡ true) × (bad ≡ true)
    value true true e = (refl, refl)
    value true false e = cc
    value false b e = cc

    go : (b : Bool) → statement_has kind d i s fault ≡ b → (b || (fault_is BadValue fault && bad)) ≡ true → HasFault kind d (Some i) fault
    go true line e = inl (subst P (sym at) line)
    go false line e =
        let both = value (fault_is BadValue fault) bad e in
        let number : number_of BadValue ≡ number_of fault = eqb-true (number_of BadValue) (number_of fault) both.0 in
        inr (sym (same_number BadValue fault number), s, at, decides.0 both.1)

-- a statement without a fault has none
no_fault : (kind : Kind) (d : Data) (i : ℕ) (s : Data) (fault : Fault) → slice_get (statements_in d) i ≡ Some s → HasLeast kind d i s None → ¬ HasFault kind d (Some i) fault
no_fault kind d i s fault at none h =
    let found = statement_holds kind d i fault h in
    let same : found.0 ≡ s = cc in
    let holds : line_has kind d i s none.bad fault ≡ true = line_passes kind d i s none.bad fault none.decides (subst (λ (t : Data). IsFaultOf kind d i t fault) same found.2) in
    let fails : line_has kind d i s none.bad fault ≡ false = line_none kind d i s none.bad none.least fault in
    cc

-- the first statement that is at fault, where the document is not, has the least fault of all
pub statement_least : (kind : Kind) (d : Data) (i : ℕ) (fault : Fault) → document_fault kind d ≡ None
    → IsFirstFault kind d i fault → IsLeastFault kind d (Some i) fault
unfolding fault_of
statement_least kind d i fault none first = record { holds = holds; least = least }
  where
    holds : HasFault kind d (Some i) fault
    holds =
        line_is_fault kind d i first.statement first.fault_is.bad fault first.fault_is.decides first.at
        (found_passes (line_has kind d i first.statement first.fault_is.bad) fault first.fault_is.least)

    same_place : (j : ℕ) (other : Fault) → j ≡ i → HasFault kind d (Some j) other → number_of fault ≤ number_of other
    same_place j other same h =
        let P : ℕ → Type 0 = λ k. HasFault kind d (Some k) other in
        let found = statement_holds kind d i other (subst P same h) in
        let here : found.0 ≡ first.statement = cc in
        let bad = first.fault_is.bad in
        least_passes (line_has kind d i first.statement bad) (line_memory kind d i first.statement bad) fault first.fault_is.least other
        (line_passes kind d i first.statement bad other first.fault_is.decides (subst (λ (t : Data). IsFaultOf kind d i t other) here found.2))

    earlier : (j : ℕ) (other : Fault) → j < i → HasFault kind d (Some j) other → ⊥
    earlier j other below h =
        let found = statement_holds kind d j other h in
        no_fault kind d j found.0 other found.1 (first.before j found.0 below found.1) h

    least : (place : Option ℕ) (other : Fault) → HasFault kind d place other → IsNotAfter (Some i) fault place other
    least None other h =
        let fails : document_has kind d other ≡ false = document_clean kind d none other in
        let holds : document_has kind d other ≡ true = h in
        let wrong : ⊥ = cc in
        absurd wrong
    least (Some j) other h =
        elim (cases_order j i) [
          | inl same ↦ inr (ap suc (sym same), same_place j other same h)
          | inr (inl below) ↦ absurd (earlier j other below h)
          | inr (inr above) ↦ inl (omega arith)
        ]

-- what the walk over the statements found is the least fault of all
pub refused_least : (kind : Kind) (d : Data) (refused : Refused) → document_fault kind d ≡ None
    → IsFirstRefused kind d refused → IsLeastFault kind d refused.statement refused.fault
refused_least kind d refused none first =
    let P : Option ℕ → Type 0 = λ place. IsLeastFault kind d place refused.fault in
    subst P (sym first.1) (statement_least kind d first.0 refused.fault none first.2)

-- a document and statements without a fault: the set is empty
pub accepted : (kind : Kind) (d : Data) → document_fault kind d ≡ None → AreFaultless kind d (length (statements_in d)) → IsAccepted kind d
accepted kind d none clean None other h =
    let fails : document_has kind d other ≡ false = document_clean kind d none other in
    let holds : document_has kind d other ≡ true = h in
    cc
accepted kind d none clean (Some i) other h =
    let found = statement_holds kind d i other h in
    let below : i < length (statements_in d) = slice_get_within (statements_in d) i found.0 found.1 in
    no_fault kind d i found.0 other found.1 (clean i found.0 below found.1) h

-- one more statement without a fault
pub faultless_more : (kind : Kind) (d : Data) (i : ℕ) (here : Data) → AreFaultless kind d i → slice_get (statements_in d) i ≡ Some here
    → HasLeast kind d i here None → AreFaultless kind d (i + 1)
faultless_more kind d i here clean at none k s below found =
    elim (cases_order k i) [
      | inl same ↦ (
          let one : slice_get (statements_in d) k ≡ slice_get (statements_in d) i = ap (slice_get (statements_in d)) same in
          let is : s ≡ here = cc in
          subst (λ j. HasLeast kind d j s None) (sym same) (subst (λ (t : Data). HasLeast kind d i t None) (sym is) none)
          )
      | inr (inl before) ↦ clean k s before found
      | inr (inr after) ↦ absurd (omega arith)
    ]

-- no line of the table holds of a statement that is an object and has not that fault
line_clean : (kind : Kind) (d : Data) (i : ℕ) (s : Data) (fault : Fault) → statement_has kind d i s BadStatement ≡ false
    → statement_has kind d i s fault ≡ false → statement_line kind d i s fault ≡ false
line_clean kind d i s fault whole clean = go (is_some (as_object s)) whole clean
  where
    go : (b : Bool) → cond b (statement_line kind d i s BadStatement) (fault_is BadStatement BadStatement) ≡ false
        → cond b (statement_line kind d i s fault) (fault_is BadStatement fault) ≡ false → statement_line kind d i s fault ≡ false
    go true object line = line
    go false object line = cc

-- no line of the table holds of a statement without a fault
pub no_line : (kind : Kind) (d : Data) (i : ℕ) (s : Data) (bad : Bool) (fault : Fault) → fault_of kind d i s bad ≡ None → statement_line kind d i s fault ≡ false
no_line kind d i s bad fault none =
    line_clean kind d i s fault (first_false _ _ (line_none kind d i s bad none BadStatement)) (first_false _ _ (line_none kind d i s bad none fault))

-- no value of such a statement is bad
pub no_bad_value : (kind : Kind) (d : Data) (i : ℕ) (s : Data) → HasLeast kind d i s None → ¬ HasBadValueIn s
no_bad_value kind d i s none has =
    let holds : line_has kind d i s none.bad BadValue ≡ true = line_passes kind d i s none.bad BadValue none.decides (inr (refl, has)) in
    let fails : line_has kind d i s none.bad BadValue ≡ false = line_none kind d i s none.bad none.least BadValue in
    cc

-- no line of the table holds of a statement of an accepted document
pub accepted_line : (kind : Kind) (d : Data) (i : ℕ) (s : Data) (fault : Fault) → IsAccepted kind d → slice_get (statements_in d) i ≡ Some s
    → statement_line kind d i s fault ≡ false
accepted_line kind d i s fault none at = line_clean kind d i s fault (clean BadStatement) (clean fault)
  where
    decide : (b : Bool) (other : Fault) → statement_has kind d i s other ≡ b → b ≡ false
    decide false other e = refl
    decide true other e =
        let P : Option Data → Type 0 = λ o. IsTrue (option_map_or (λ t. statement_has kind d i t other) o false) in
        absurd (none (Some i) other (inl (subst P (sym at) e)))

    clean : (other : Fault) → statement_has kind d i s other ≡ false
    clean other = decide (statement_has kind d i s other) other refl

-- want of memory is no fault of a statement
pub fault_not_memory : (kind : Kind) (d : Data) (i : ℕ) (s : Data) (bad : Bool) (fault : Fault) → fault_of kind d i s bad ≡ Some fault → fault ≢ OutOfMemory
unfolding fault_of
fault_not_memory kind d i s bad = found_not_memory (line_has kind d i s bad) (line_memory kind d i s bad)

-- an accepted document names the version that it is read in
pub version_is : (kind : Kind) (d : Data) → IsAccepted kind d → version_named (get (codes "Version") d) ≡ Some (version_of d)
version_is kind d none = go (is_some (as_object d)) (version_named (get (codes "Version") d)) (none None BadVersion) (none None NotObject)
  where
    go : (b : Bool) (named : Option Version) → ¬ IsTrue (cond b (is_none named) false) → ¬ IsTrue (cond b false true) → named ≡ Some (unwrap_or named V2012)
    go true (Some version) bad other = refl
    go true None bad other = absurd (bad refl)
    go false named bad other = absurd (other refl)
