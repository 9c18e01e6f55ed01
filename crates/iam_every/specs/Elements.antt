-- The action elements of statements, as they are collected. LOGIC 11.2.
use Rattle.std.specs.Prelude.{◌+◌, ◌*◌, ◌%◌, ◌^◌, ◌++◌, [], ◌∷◌, ℕ, IsSome, List, Contains, map}
use Rattle.std.specs.BTreeMap.{get}
use Rattle.std.specs.Ordering.{nat_cmp}
use Rattle.iam_glob.specs.declared.sign.Sign.{Sign}
use Rattle.iam_glob.specs.declared.sign.Sign.TheVariants.{Given, One, Any}
use Rattle.iam_element.specs.Reading.{ActionElement}
use Rattle.iam_every.specs.OwnGroups.{AreFirsts}
use Rattle.iam_every.specs.declared.actions.Elements.{Elements}

-- those that are collected, without where they lie in memory
abbrev pub elements_in : Elements → List ActionElement
elements_in elements = map (λ element. element.now) elements.listed.items

-- to the distinct ones of each list these are added
abbrev pub Adds : List ActionElement → List ActionElement → List ActionElement → Type 0
Adds old more new = (listed : List ActionElement) → AreFirsts [] listed old → AreFirsts [] (listed ++ more) new

-- ---- prints
abbrev pub sign_number : Sign → ℕ
sign_number Any = 0
sign_number One = 1
sign_number (Given c) = c + 2

abbrev pub next_print : ℕ → Sign → ℕ
next_print print sign = ((print * 11400714819323198485) % 2 ^ 64 + sign_number sign) % 2 ^ 64

abbrev pub print_behind : ℕ → List Sign → ℕ
print_behind print [] = print
print_behind print (sign ∷ signs) = print_behind (next_print print sign) signs

abbrev pub print_of : ℕ → List (List Sign) → ℕ
print_of print [] = print
print_of print (pattern ∷ patterns) = print_of (print_behind print pattern) patterns

-- each element has a number at its print
abbrev pub HasPrints : Elements → Type 0
HasPrints elements =
    (element : ActionElement) → Contains (elements_in elements) element
    → IsSome (get nat_cmp elements.numbers (print_of 0 element.patterns))
