-- Entries of conditions that hold wherever others do. LOGIC 11.10.
use Rattle.std.specs.Prelude.{◌≡◌, ◌⊎◌, ◌≤ℤ◌, ⊤, ℕ, ℤ, List, Bool, true, false, All, Any}
use Rattle.iam_condition.specs.Entry.{EntryValue}
use Rattle.iam_condition.specs.declared.operand.Operand.{Operand}
use Rattle.iam_condition.specs.declared.operand.Operand.TheVariants as operand
use Rattle.iam_condition.specs.declared.operator.Base.{Base}
use Rattle.iam_condition.specs.declared.operator.Base.TheVariants.{Text, Arn, Number, Date, Truth, Binary, Address, Null}
use Rattle.iam_condition.specs.declared.operator.Order.{Order}
use Rattle.iam_condition.specs.declared.operator.Order.TheVariants.{Equal, Less, AtMost, Greater, AtLeast}
use Rattle.iam_condition.specs.declared.operator.TextTest.TheVariants as test
use Rattle.iam_context.specs.Context.{ContextValue}
use Rattle.iam_glob.specs.Glob.{Matches, wild_sign}
use Rattle.iam_glob.specs.declared.sign.Sign.{Sign}
use Rattle.iam_glob.specs.declared.sign.Sign.TheVariants as sign
use Rattle.iam_match.specs.Entry.{EntryHolds}
use Rattle.iam_open_changes.specs.declared.network.Network.{Network}
use Rattle.iam_text.specs.Draft.{plain_draft}
use Rattle.iam_text.specs.declared.draft.Piece.{Piece}
use Rattle.iam_value.specs.Address.{AddressBits, Block, Holds, first_bits}

-- the address is of the network's family, and these are its first bits
abbrev pub IsIn : Network → AddressBits → Type 0
IsIn network address = (network.width ≡ address.width) × (network.front ≡ first_bits network.prefix address)

-- these are the addresses that the range holds
abbrev pub IsNetworkOf : Block → Network → Type 0
IsNetworkOf range network = (address : AddressBits) → Holds range address → IsIn network address

-- the range holds each address of the network
abbrev pub HoldsAll : Block → Network → Type 0
HoldsAll range network = (address : AddressBits) → IsIn network address → Holds range address

-- a value is a range that does
abbrev pub HoldsNetwork : Network → Operand → Type 0
HoldsNetwork network value = (range : Block) × (value ≡ operand.Range range) × HoldsAll range network

-- a value is a range that holds the address
abbrev pub HoldsAddress : AddressBits → Operand → Type 0
HoldsAddress address value = (range : Block) × (value ≡ operand.Range range) × Holds range address

-- each address of the network is held by a range among the values
abbrev pub AreHeld : Network → List Operand → Type 0
AreHeld network values = (address : AddressBits) → IsIn network address → Any (HoldsAddress address) values

-- the value is a range whose addresses are held by ranges among these
abbrev pub IsHeld : List Operand → Operand → Type 0
IsHeld others one =
    (range : Block) × (one ≡ operand.Range range) × ((address : AddressBits) → Holds range address → Any (HoldsAddress address) others)

-- a character that stands for itself where wildcards stand, or any run
abbrev pub IsRun : Sign → Type 0
IsRun (sign.Given c) = wild_sign c ≡ sign.Given c
IsRun sign.One = ⊥
IsRun sign.Any = ⊤

-- the texts have no variables, and the second pattern matches each text that the first one matches
abbrev pub IsWiderPieces : List Piece → List Piece → Type 0
IsWiderPieces one other =
    (signs : List Sign) × (wide : List Sign) × (one ≡ plain_draft signs) × (other ≡ plain_draft wide)
    × ((text : List ℕ) → Matches signs text → Matches wide text)

abbrev pub IsWiderText : Operand → Operand → Type 0
IsWiderText one other =
    (pieces : List Piece) × (wide : List Piece) × (one ≡ operand.Text pieces) × (other ≡ operand.Text wide) × IsWiderPieces pieces wide

-- whatever stands so to the first bound stands so to the second one
abbrev pub IsFurther : Order → ℤ → ℤ → Type 0
IsFurther Equal bound wide = bound ≡ wide
IsFurther Less bound wide = bound ≤ℤ wide
IsFurther AtMost bound wide = bound ≤ℤ wide
IsFurther Greater bound wide = wide ≤ℤ bound
IsFurther AtLeast bound wide = wide ≤ℤ bound

abbrev pub IsWiderNumber : Order → Operand → Operand → Type 0
IsWiderNumber order one other =
    (bound : ℤ) × (wide : ℤ) × (one ≡ operand.Number bound) × (other ≡ operand.Number wide) × IsFurther order bound wide

abbrev pub IsWiderDate : Order → Operand → Operand → Type 0
IsWiderDate order one other =
    (bound : ℤ) × (wide : ℤ) × (one ≡ operand.Instant bound) × (other ≡ operand.Instant wide) × IsFurther order bound wide

-- what matches the first value matches the second one, under operators whose values have an order or are patterns
abbrev pub IsWider : Base → Operand → Operand → Type 0
IsWider (Text test.Equals) one other = ⊥
IsWider (Text test.EqualsIgnoreCase) one other = ⊥
IsWider (Text test.Like) one other = IsWiderText one other
IsWider Arn one other = ⊥
IsWider (Number order) one other = IsWiderNumber order one other
IsWider (Date order) one other = IsWiderDate order one other
IsWider Truth one other = ⊥
IsWider Binary one other = ⊥
IsWider Address one other = ⊥
IsWider Null one other = ⊥

-- the second value is the first one, or a wider one
abbrev pub Covers : Base → Operand → Operand → Type 0
Covers base one other = (one ≡ other) ⊎ IsWider base one other

-- one of these covers the value, or it is such a range
abbrev pub IsWithin : Base → List Operand → Operand → Type 0
IsWithin base others one = Any (Covers base one) others ⊎ IsHeld others one

-- each of the first values is within the second ones
abbrev pub AreWithin : Base → List Operand → List Operand → Type 0
AreWithin base ones others = All (IsWithin base others) ones

-- so it is for an operator: a negated one holds of fewer values wherever it holds of more
abbrev pub AreWithinSign : Base → Bool → List Operand → List Operand → Type 0
AreWithinSign base true ones others = AreWithin base others ones
AreWithinSign base false ones others = AreWithin base ones others

-- `Null` asks for truth values, negated or not
abbrev pub AreWithinBy : Base → Bool → Bool → List Operand → List Operand → Type 0
AreWithinBy base true negated ones others = AreWithin base ones others
AreWithinBy base false negated ones others = AreWithinSign base negated ones others

-- the second entry holds in each context in which the first one does
abbrev pub Implies : EntryValue → EntryValue → Type 0
Implies one other = (context : ContextValue) → EntryHolds context one → EntryHolds context other
