-- What is asked for: a resource of a world, or one that it does not name. LOGIC 11.6.
use Rattle.std.specs.Prelude.{◌≡◌, ◌<◌, ℕ, List, length}
use Rattle.iam_context.specs.Context.{ContextValue}
use Rattle.iam_layers.specs.Unnamed.{IsSaid, world_and}
use Rattle.iam_layers.specs.declared.unnamed.Unnamed.TheVariants as said
use Rattle.iam_open.specs.declared.scene.Target.{Target}
use Rattle.iam_open.specs.declared.scene.Target.TheVariants.{Named, Unnamed}
use Rattle.iam_world.specs.World.{ResourceValue, WorldValue}

-- the resource that it is, or that it is like, is there; nothing gives keys to one of which just the account is said
abbrev pub IsAskedFor : WorldValue → ContextValue → Target → Type 0
IsAskedFor world none target =
    ((n : ℕ) → target ≡ Named n → n < length world.resources)
    × ((n : ℕ) (text : _) → target ≡ Unnamed (said.Like n) text → n < length world.resources)
    × ((account : _) (text : _) → target ≡ Unnamed (said.Of account) text → length none ≡ 0)

-- a world that has it under this number: the one that is asked about, or that one with an action and the resource behind its own
abbrev pub IsSeat : WorldValue → Target → WorldValue → ℕ → Type 0
IsSeat world (Named n) other r = (other ≡ world) × (r ≡ n)
IsSeat world (Unnamed unnamed text) other r =
    (action : List ℕ) × (resource : ResourceValue) × IsSaid world unnamed text.now resource × (other ≡ world_and world action resource)
    × (r ≡ length world.resources)
