-- The statements of applicable policies as they are walked: each lent with its place, and by whom its policy is had.

use Rattle.std.specs.Prelude.{◌++◌, List}
use Rattle.std.specs.Option.{option_to_list}
use Rattle.iam_decision.specs.Applicable.{ApplicableValue}
use Rattle.iam_decision.specs.Matched.{Placed, in_layer, in_level}
use Rattle.iam_decision.specs.declared.place.Layer.TheVariants.{Org, Control, Resource, Identity, Boundary, Session}
use Rattle.iam_decision.specs.declared.scan.Standing.{Standing}

-- without where it lies in memory
abbrev pub placed_value : Standing → Placed
placed_value s = record { place = s.place; statement = s.statement.now }

-- the statements of the organisation
abbrev pub org_placed : ApplicableValue → List Placed
org_placed a = in_layer Org a.org

-- those that stand with the resource
abbrev pub resource_placed : ApplicableValue → List Placed
resource_placed a = in_layer Control a.control ++ in_level Resource 0 (option_to_list a.resource)

-- those of the requester
abbrev pub requester_placed : ApplicableValue → List Placed
requester_placed a =
    in_level Identity 0 a.identity ++ (in_level Boundary 0 (option_to_list a.boundary) ++ in_level Session 0 a.session)
