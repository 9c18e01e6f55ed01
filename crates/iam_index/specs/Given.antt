-- The keys that the resources of a world give to requests for them. LOGIC 9.1.
use Rattle.std.specs.Prelude.{◌≡◌, ℕ, List, false}
use Rattle.std.specs.List.{flat_map, list_any}
use Rattle.iam_context.specs.Context.{keys_of}
use Rattle.iam_policy.specs.Reading.{StatementValue}
use Rattle.iam_unasked.specs.Asks.{entry_asks}
use Rattle.iam_world.specs.World.{WorldValue}

-- those of all resources, one behind the other
abbrev pub given_keys : WorldValue → List (List ℕ)
given_keys world = flat_map (λ resource. keys_of resource.context) world.resources

-- the conditions of a statement ask for none of them
abbrev pub IsFree : WorldValue → StatementValue → Type 0
IsFree world statement = list_any (entry_asks (given_keys world)) statement.conditions ≡ false
