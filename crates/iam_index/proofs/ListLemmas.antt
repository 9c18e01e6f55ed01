-- What follows from where something stands in a world.
use Rattle.std.proofs.Common.{ℕ, ◌<◌, List, length, refl}
use Rattle.std.proofs.lemmas.Option.{get_or_from_slice_get, slice_get_within}
use Rattle.std.specs.List.{Contains}
use Rattle.iam_decision.specs.Applicable.{ApplicableValue}
use Rattle.iam_layers.specs.Applicable.{applicable_of}
use Rattle.iam_layers.specs.Cell.{IsAction, IsApplicableAt}
use Rattle.iam_world.specs.World.{WorldValue}
pub use Rattle.iam_columns.proofs.ListLemmas.{at_more, get_back, get_more, get_next, get_within, if_some, some_same}

-- an action of the world is one of its actions
pub is_asked : (world : WorldValue) (a : ℕ) (text : List ℕ) → IsAction world a text → Contains world.actions text
is_asked world a text at = (a, slice_get_within world.actions a text at, get_or_from_slice_get world.actions a text text at)

-- policies apply to the requests of each principal for each resource, be they none
pub some_apply : (world : WorldValue) (p r : ℕ) → p < length world.principals → r < length world.resources
    → (a : ApplicableValue) × IsApplicableAt world p r a
some_apply world p r p_below r_below =
    let (principal, p_at) = get_within world.principals p p_below in
    let (resource, r_at) = get_within world.resources r r_below in
    (applicable_of world principal resource, (principal, p_at, (resource, r_at, refl)))
