-- What is said of one request, whatever values the keys have that nothing gives. LOGIC 11.6, 11.11 and 11.12.
use Rattle.std.specs.Prelude.{◌∷◌, [], ℕ, Bool, List}
use Rattle.iam_layers.specs.Unnamed.{InWorldAnd}
use Rattle.iam_layers.specs.declared.unnamed.Unnamed.{Unnamed}
use Rattle.iam_open.specs.Report.{IsHung, IsSaid}
use Rattle.iam_open.specs.Turned.{IsTurned}
use Rattle.iam_open_every.specs.declared.said.Said.{Said}
use Rattle.iam_world.specs.World.{WorldValue}

-- this is said of principal p's request for action a on resource r; in brief the verdict, and what it hangs on, play no part
pub record AreSaid (brief : Bool) (world : WorldValue) (p a r : ℕ) (said : Said) : Type 0 where
  pub turned : IsTurned (world ∷ []) world p a r said.turned
  pub verdict : IsSaid brief world p a r said.turned said.verdict
  pub hangs : IsHung brief world p a r said.turned said.hangs.places.items said.hangs.keys.items

-- and of the request for this action on the resource of this text, of which this is said
abbrev pub AreSaidOf : Bool → WorldValue → ℕ → Unnamed → List ℕ → List ℕ → Said → Type 0
AreSaidOf brief world p unnamed action text said = InWorldAnd world unnamed action text (λ other a r. AreSaid brief other p a r said)
