-- What is certain in several contexts.
use Rattle.std.specs.Prelude.{Bool, true, false, ⊤}
use Rattle.iam_context.specs.Context.{ContextValue}
use Rattle.iam_open.specs.declared.certain.Certain.{Certain}
use Rattle.iam_open.specs.declared.certain.Certain.TheVariants.{Always, Never, Open}

-- contexts that have something in common, or in which something holds
abbrev pub Contexts : Type 1
Contexts = ContextValue → Type 0

-- it holds in each of these contexts, in none of them, or nothing is said
abbrev pub Tells : Certain → Contexts → Contexts → Type 0
Tells Always Are holds = (context : ContextValue) → Are context → holds context
Tells Never Are holds = (context : ContextValue) → Are context → ¬ holds context
Tells Open Are holds = ⊤

-- this is so, where it is open
abbrev pub IfOpen : Certain → Type 0 → Type 0
IfOpen Always P = ⊤
IfOpen Never P = ⊤
IfOpen Open P = P

-- unless it is never
abbrev pub UnlessNever : Certain → Type 0 → Type 0
UnlessNever Always P = P
UnlessNever Never P = ⊤
UnlessNever Open P = P

-- what is known to hold, or not to
abbrev pub certain_of : Bool → Certain
certain_of true = Always
certain_of false = Never

-- of what holds where both do
abbrev pub both : Certain → Certain → Certain
both Never other = Never
both Always other = other
both Open Never = Never
both Open Always = Open
both Open Open = Open

-- of what holds where one of them does
abbrev pub either : Certain → Certain → Certain
either Always other = Always
either Never other = other
either Open Always = Always
either Open Never = Open
either Open Open = Open
