-- The parts of the context that a world document gives, and the first that is faulty. LOGIC 12.4.
use Rattle.std.specs.Prelude.{◌≡◌, ℕ, List, [], ◌∷◌, ◌++◌, map}
use Rattle.std.specs.List.{flat_map}
use Rattle.iam_context.specs.Context.{ContextValue, keys_of}
use Rattle.iam_context.specs.ContextFault.{IsClean, IsPartFault}
use Rattle.iam_context.specs.declared.fault.ContextFault.{ContextFault}
use Rattle.iam_shape.specs.First.{IsFirst, with_paths}
use Rattle.iam_shape.specs.View.{WorldViewValue}
use Rattle.iam_shape.specs.declared.path.Name.{Name}
use Rattle.iam_shape.specs.declared.path.Name.TheVariants.{Principals, Resources}
use Rattle.iam_shape.specs.declared.path.Name.TheVariants as name
use Rattle.iam_shape.specs.declared.path.Path.{Path}
use Rattle.iam_shape.specs.declared.path.Path.TheVariants.{Member, Field}
use Rattle.iam_world_context.specs.Part.{part_of}
use Rattle.iam_world_context.specs.declared.fault.PartFault.{PartFault}
use Rattle.iam_world_context.specs.declared.fault.PartFault.TheVariants.{At}

-- a part of the context, with the keys of other parts that none of its keys may be
pub record Beside : Type 0 where
  pub others : List (List ℕ)
  pub part : ContextValue

abbrev pub IsFaulty : Beside → Type 0
IsFaulty beside = ¬ IsClean beside.others beside.part

-- the parts that members of a list give, beside others with these keys
abbrev pub parts_of : Name → List (List ℕ) → List ContextValue → List (Path × Beside)
parts_of list others parts =
    with_paths (λ i. Field list i name.Context) 0 (map (λ part. record { others = others; part = part }) parts)

-- the contexts of the principals, and those of the resources
abbrev pub principal_parts : WorldViewValue → List ContextValue
principal_parts world = map (λ principal. part_of principal.context) world.principals

abbrev pub resource_parts : WorldViewValue → List ContextValue
resource_parts world = map (λ resource. part_of resource.context) world.resources

-- the parts, in order: that of the world; those of the principals, beside it; those of the resources, beside it and all
-- principals'
abbrev pub all_parts : ContextValue → List ContextValue → List ContextValue → List (Path × Beside)
all_parts world principals resources =
    (Member name.Context, record { others = []; part = world })
    ∷ (parts_of Principals (keys_of world) principals
    ++ parts_of Resources (keys_of world ++ flat_map keys_of principals) resources)

abbrev pub parts : WorldViewValue → List (Path × Beside)
parts world = all_parts (part_of world.context) (principal_parts world) (resource_parts world)

-- the first faulty part stands at this path, and this is its first fault
abbrev pub IsFirstFaulty : List (Path × Beside) → Path → ContextFault → Type 0
IsFirstFaulty ps path fault =
    (beside : Beside) × IsFirst (λ (p : Path × Beside). IsFaulty p.1) ps (path, beside)
    × IsPartFault beside.others beside.part fault

-- the first faulty part of these has this fault
abbrev pub IsFaultyAmong : List (Path × Beside) → PartFault → Type 0
IsFaultyAmong parts fault =
    (path : Path) × (found : ContextFault) × (fault ≡ At path found) × IsFirstFaulty parts path found
