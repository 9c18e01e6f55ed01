-- The faults of the parts that a context is joined of, as a set over all pairs of their keys. LOGIC 9.3.
use Rattle.std.specs.Prelude.{◌≡◌, ℕ, List, [], ◌++◌, Bool, false, ◌||◌, codes, decimal, IsTrue}
use Rattle.std.specs.List.{list_any}
use Rattle.iam_context.specs.Context.{ContextValue, all_of, has_derived, has_key, has_twice, keys_of}
use Rattle.iam_context.specs.declared.fault.ContextFault.{ContextFault}
use Rattle.iam_context.specs.declared.fault.ContextFault.TheVariants.{KeyTwice, DerivedKeyGiven, OutOfMemory}

abbrev pub context_number_of : ContextFault → ℕ
context_number_of KeyTwice = 1
context_number_of DerivedKeyGiven = 2
context_number_of OutOfMemory = 3

abbrev pub context_name_of : ContextFault → List ℕ
context_name_of KeyTwice = codes "KeyTwice"
context_name_of DerivedKeyGiven = codes "DerivedKeyGiven"
context_name_of OutOfMemory = codes "OutOfMemory"

-- `1 KeyTwice`
abbrev pub context_text : ContextFault → List ℕ
context_text fault = decimal (context_number_of fault) ++ (codes " " ++ context_name_of fault)

-- the faults of a part beside these keys of other parts, each by itself
abbrev pub part_has : List (List ℕ) → ContextValue → ContextFault → Bool
part_has others part KeyTwice = list_any (has_key others) (keys_of part) || has_twice (keys_of part)
part_has others part DerivedKeyGiven = has_derived (keys_of part)
part_has others part OutOfMemory = false

-- the fault with the least number
pub record IsPartFault (others : List (List ℕ)) (part : ContextValue) (fault : ContextFault) : Type 0 where
  pub holds : IsTrue (part_has others part fault)
  pub least : fault ≡ DerivedKeyGiven → part_has others part KeyTwice ≡ false

-- the set is empty
abbrev pub IsClean : List (List ℕ) → ContextValue → Type 0
IsClean others part = (fault : ContextFault) → part_has others part fault ≡ false

-- the faults of parts that are joined: those of one part that has the keys of all
abbrev pub JoinFault : List ContextValue → ContextFault → Type 0
JoinFault given fault = IsPartFault [] (all_of given) fault
