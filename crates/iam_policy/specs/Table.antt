-- The numbers, the names and the texts of the faults of a document, and their order. LOGIC 6.3.
use Rattle.std.specs.Prelude.{ℕ, List, [], ◌∷◌, ◌++◌, Bool, ◌==◌, Option, Some, None, codes, decimal}
use Rattle.iam_policy.specs.declared.fault.Fault.{Fault}
use Rattle.iam_policy.specs.declared.fault.Refused.{Refused}
use Rattle.iam_policy.specs.declared.fault.Fault.TheVariants.{NotObject, UnknownElement, BadVersion, NoStatement, BadStatement, BadSid, DuplicateSid, BadEffect, ActionCount, BadAction, PrincipalMisplaced, PrincipalMissing, BadPrincipal, NotPrincipalAllow, ResourceCount, BadResource, BadVariable, UnknownOperator, BadCondition, BadValue, TooMany, OutOfMemory}

-- the number of a fault
abbrev pub number_of : Fault → ℕ
number_of NotObject = 1
number_of UnknownElement = 2
number_of BadVersion = 3
number_of NoStatement = 4
number_of BadStatement = 5
number_of BadSid = 6
number_of DuplicateSid = 7
number_of BadEffect = 8
number_of ActionCount = 9
number_of BadAction = 10
number_of PrincipalMisplaced = 11
number_of PrincipalMissing = 12
number_of BadPrincipal = 13
number_of NotPrincipalAllow = 14
number_of ResourceCount = 15
number_of BadResource = 16
number_of BadVariable = 17
number_of UnknownOperator = 18
number_of BadCondition = 19
number_of BadValue = 20
number_of TooMany = 21
number_of OutOfMemory = 22

-- the name of a fault
abbrev pub name_of : Fault → List ℕ
name_of NotObject = codes "NotObject"
name_of UnknownElement = codes "UnknownElement"
name_of BadVersion = codes "BadVersion"
name_of NoStatement = codes "NoStatement"
name_of BadStatement = codes "BadStatement"
name_of BadSid = codes "BadSid"
name_of DuplicateSid = codes "DuplicateSid"
name_of BadEffect = codes "BadEffect"
name_of ActionCount = codes "ActionCount"
name_of BadAction = codes "BadAction"
name_of PrincipalMisplaced = codes "PrincipalMisplaced"
name_of PrincipalMissing = codes "PrincipalMissing"
name_of BadPrincipal = codes "BadPrincipal"
name_of NotPrincipalAllow = codes "NotPrincipalAllow"
name_of ResourceCount = codes "ResourceCount"
name_of BadResource = codes "BadResource"
name_of BadVariable = codes "BadVariable"
name_of UnknownOperator = codes "UnknownOperator"
name_of BadCondition = codes "BadCondition"
name_of BadValue = codes "BadValue"
name_of TooMany = codes "TooMany"
name_of OutOfMemory = codes "OutOfMemory"

-- `3 BadVersion`
abbrev pub fault_text : Fault → List ℕ
fault_text fault = decimal (number_of fault) ++ (codes " " ++ name_of fault)

-- the statement that has the fault, or the document itself
abbrev pub statement_text : Option ℕ → List ℕ
statement_text None = codes "document"
statement_text (Some i) = codes "statement " ++ decimal i

-- `document: 3 BadVersion`, `statement 1: 20 BadValue`
abbrev pub refused_text : Refused → List ℕ
refused_text refused = statement_text refused.statement ++ (codes ": " ++ fault_text refused.fault)

-- the faults of the table, in the order of their numbers
abbrev pub table : List Fault
table =
    NotObject ∷ (UnknownElement ∷ (BadVersion ∷ (NoStatement ∷ (BadStatement ∷ (BadSid ∷ (DuplicateSid
    ∷ (BadEffect ∷ (ActionCount ∷ (BadAction ∷ (PrincipalMisplaced ∷ (PrincipalMissing ∷ (BadPrincipal
    ∷ (NotPrincipalAllow ∷ (ResourceCount ∷ (BadResource ∷ (BadVariable ∷ (UnknownOperator
    ∷ (BadCondition ∷ (BadValue ∷ (TooMany ∷ []))))))))))))))))))))

-- the same fault, by number
abbrev pub fault_is : Fault → Fault → Bool
fault_is a b = number_of a == number_of b
