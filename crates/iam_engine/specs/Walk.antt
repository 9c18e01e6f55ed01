-- What becomes of the findings where one more candidate is looked at, whose action element matches. LOGIC 11.2 and 11.3.
use Rattle.std.specs.Prelude.{◌≡◌, ◌⊎◌, ◌∷◌, ◌++◌, [], Bool, List, true, false}
use Rattle.iam_policy.specs.declared.effect.Effect.TheVariants.{Allow, Deny}
use Rattle.iam_match.specs.Principal.{grant_of}
use Rattle.iam_match.specs.Statement.{AccessValue}
use Rattle.iam_decision.specs.Code.Found.{DeniesIn}
use Rattle.iam_decision.specs.Early.{IsSettled}
use Rattle.iam_decision.specs.Living.{Lives, item_of}
use Rattle.iam_decision.specs.Matched.{Placed}
use Rattle.iam_decision.specs.declared.living.Matched.{Matched}

-- it is put behind what was found if it matches
abbrev pub Finds : AccessValue → Placed → List Matched → List Matched → Type 0
Finds access s old new =
    (Lives access s × (new ≡ old ++ item_of access.requester s ∷ [])) ⊎ (¬ Lives access s × (new ≡ old))

-- so it is unless it allows and something denies
abbrev pub FindsAsked : AccessValue → Placed → List Matched → List Matched → Type 0
FindsAsked access s old new = Finds access s old new ⊎ ((s.statement.effect ≡ Allow) × DeniesIn old × (new ≡ old))

-- so it is unless it is settled
abbrev pub FindsOpen : AccessValue → Placed → List Matched → List Matched → Type 0
FindsOpen access s old new =
    Finds access s old new ⊎ (IsSettled old s.place (grant_of s.statement.principal access.requester) × (new ≡ old))

-- it matches and denies; or it does not, and is put behind what was found if it allows, is open and matches
abbrev pub FindsDeny : AccessValue → Placed → List Matched → List Matched → Bool → Type 0
FindsDeny access s old new true = (s.statement.effect ≡ Deny) × Lives access s
FindsDeny access s old new false =
    ((s.statement.effect ≡ Deny) × ¬ Lives access s × (new ≡ old)) ⊎ ((s.statement.effect ≡ Allow) × FindsOpen access s old new)
