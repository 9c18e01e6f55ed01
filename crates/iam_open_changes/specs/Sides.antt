-- What two worlds have of a request, where it may be for a resource that they do not name. LOGIC 11.10.
use Rattle.std.specs.Prelude.{◌≡◌, Option, Some, None}
use Rattle.iam_layers.specs.Cell.{IsAction}
use Rattle.iam_open.specs.Seat.{IsSeat}
use Rattle.iam_open_changes.specs.declared.numbers.Numbers.{Numbers}
use Rattle.iam_open_changes.specs.declared.side.Request.{Request}
use Rattle.iam_open_changes.specs.declared.side.Side.{Side}
use Rattle.iam_open_changes.specs.declared.side.Side.TheVariants.{Has, Lacks}
use Rattle.iam_open_changes.specs.declared.side.Sides.{Sides}
use Rattle.iam_world.specs.World.{WorldValue}

-- the request has these numbers in a world that has its resource: the one that is asked, or that one with an action and the resource behind its own
pub record HasNumbers (request : Request) (other : WorldValue) (at : Numbers) : Type 0 where
  pub principal : request.scene.p ≡ at.principal
  pub resource : IsSeat request.scene.world.now request.scene.target other at.resource
  pub action : IsAction other at.action request.action.now

-- a world that has of the request what is said, and the numbers of the request there, if it has it
abbrev pub IsSideAt : Side → WorldValue → Option Numbers → Type 0
IsSideAt (Has request) other at = (it : Numbers) × (at ≡ Some it) × HasNumbers request other it
IsSideAt (Lacks world) other at = (other ≡ world.now) × (at ≡ None)

-- ---- what holds of all such worlds and numbers

abbrev pub OfSide : Side → (WorldValue → Option Numbers → Type 0) → Type 0
OfSide side P = (other : WorldValue) (at : Option Numbers) → IsSideAt side other at → P other at

abbrev pub OfSides : Sides → (WorldValue → WorldValue → Option Numbers → Option Numbers → Type 0) → Type 0
OfSides sides P =
    (one other : WorldValue) (was now : Option Numbers) → IsSideAt sides.before one was → IsSideAt sides.after other now → P one other was now

-- of a request that the world has, and of one that both have
abbrev pub OfRequest : Request → (WorldValue → Numbers → Type 0) → Type 0
OfRequest request P = (other : WorldValue) (at : Numbers) → HasNumbers request other at → P other at

abbrev pub OfRequests : Request → Request → (WorldValue → WorldValue → Numbers → Numbers → Type 0) → Type 0
OfRequests before after P =
    (one other : WorldValue) (was now : Numbers) → HasNumbers before one was → HasNumbers after other now → P one other was now
