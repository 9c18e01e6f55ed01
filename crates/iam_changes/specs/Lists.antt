-- Entries of which some are there. LOGIC 13.7.
use Rattle.std.specs.Prelude.{List, Option}
use Rattle.std.specs.List.{flat_map}
use Rattle.std.specs.Option.{option_to_list}

-- those that are there, in order
abbrev pub somes : {X : Type 0} → List (Option X) → List X
somes entries = flat_map option_to_list entries
