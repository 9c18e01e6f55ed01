use Rattle.std.proofs.Common.{◌∙◌, ◌∷◌, [], ap}
use Rattle.iam_context.specs.Context.{ContextValue, joined}
use Rattle.iam_layers.proofs.world.World.context_with.Goals as goal

pub returns : goal.returns
returns c =
    let world = c.args.self.now in
    let given = c.args.world_keys.now in
    let own = c.args.principal_keys.now in
    let asked = c.args.resource_keys.now in
    let derived = c.args.derived.now.items in
    let principal = c.requires.principal_keys in
    let resource = c.requires.resource_keys in (
      principal.0,
      principal.1,
      (
        resource.0,
        resource.1,
        c.sought.ensures
            ∙ ap (λ (keys : ContextValue). joined (keys ∷ (own ∷ (asked ∷ []))) derived) c.requires.world_keys
            ∙ ap (λ (keys : ContextValue). joined (world.context ∷ (keys ∷ (asked ∷ []))) derived) principal.2
            ∙ ap (λ (keys : ContextValue). joined (world.context ∷ (principal.0.context ∷ (keys ∷ []))) derived) resource.2,
      ),
    )
