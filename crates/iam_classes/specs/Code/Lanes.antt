-- Words of the code: which statements a kind takes, and what a word says of the statements of a batch.
use Rattle.std.specs.Prelude.{◌≡◌, ℕ, ◌≤◌, List}
use Rattle.iam_policy.specs.declared.effect.Effect.TheVariants.{Allow, Deny}
use Rattle.iam_match.specs.Principal.{rank}
use Rattle.iam_decision.specs.Code.Found.{AllowsIn}
use Rattle.iam_decision.specs.Decision.{BoundaryHolds, SessionHolds}
use Rattle.iam_decision.specs.declared.frame.Frame.{Frame}
use Rattle.iam_decision.specs.declared.living.Matched.{Matched}
use Rattle.iam_decision.specs.declared.place.Layer.TheVariants.{Resource}
use Rattle.iam_classes.specs.Batch.{AreLanes, matched_of}
use Rattle.iam_classes.specs.declared.gather.Batch.{Batch}
use Rattle.iam_classes.specs.declared.gather.Pick.{Pick}
use Rattle.iam_classes.specs.declared.gather.Pick.TheVariants.{Denies, Allows, Grants}

-- the statement is of this kind
abbrev pub Picks : Pick → Matched → Type 0
Picks Denies m = m.effect ≡ Deny
Picks (Allows layer level) m = (m.effect ≡ Allow) × (m.place.layer ≡ layer) × (m.place.level ≡ level)
Picks (Grants least) m = (m.effect ≡ Allow) × (m.place.layer ≡ Resource) × (rank least ≤ rank m.grant)

-- each of the first bits of the word says whether it holds of the statements that act on its action
abbrev pub Tells : Batch → ℕ → (List Matched → Type 0) → Type 0
Tells batch word holds = AreLanes (matched_of batch.living.now) batch.rows.now batch.from batch.count word holds

-- boundary and session policies hold
abbrev pub LimitsHold : List Matched → Frame → Type 0
LimitsHold found frame = BoundaryHolds (AllowsIn found) frame × SessionHolds (AllowsIn found) frame
