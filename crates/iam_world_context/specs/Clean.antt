-- Contexts of which no part has a fault, and those of a view. LOGIC 12.1 and 12.4.
use Rattle.std.specs.Prelude.{◌≡◌, ℕ, List, [], ◌++◌, map}
use Rattle.std.specs.List.{AllByRecursion, flat_map}
use Rattle.iam_context.specs.Context.{ContextValue, keys_of}
use Rattle.iam_context.specs.ContextFault.{IsClean}
use Rattle.iam_shape.specs.View.{WorldViewValue}
use Rattle.iam_world_context.specs.Part.{part_of}
use Rattle.iam_world_context.specs.Contexts.{principal_parts, resource_parts}
use Rattle.iam_world_context.specs.declared.contexts.Contexts.{Contexts}

-- no part has a fault beside others with these keys
abbrev pub AreClean : List (List ℕ) → List ContextValue → Type 0
AreClean keys parts = AllByRecursion (IsClean keys) parts

-- no part has a fault: neither that of the world, nor one of a principal, nor one of a resource
pub record AllClean (world : ContextValue) (principals resources : List ContextValue) : Type 0 where
  pub own : IsClean [] world
  pub principals_clean : AreClean (keys_of world) principals
  pub resources_clean : AreClean (keys_of world ++ flat_map keys_of principals) resources

-- the contexts of the view, none of which has a fault
pub record HasContexts (view : WorldViewValue) (contexts : Contexts) : Type 0 where
  pub world : contexts.world.items ≡ part_of view.context
  pub principals : map (λ part. part.items) contexts.principals.items ≡ principal_parts view
  pub resources : map (λ part. part.items) contexts.resources.items ≡ resource_parts view
  pub clean : AllClean (part_of view.context) (principal_parts view) (resource_parts view)
