use Rattle.std.proofs.Common.{◌<◌, ◌∙◌, Some, length, ap, sym, subst, arith}
use Rattle.std.proofs.lemmas.Option.{slice_get-get_or}
use Rattle.iam_world.specs.World.{WorldValue}
use Rattle.iam_index.proofs.parts.Parts.context.Goals as goal

pub context_with-requires-clause-principal_keys : goal.context_with-requires-clause-principal_keys
context_with-requires-clause-principal_keys c =
    let p = c.args.p in
    let parts = c.self.inside.principals.items in
    let keys = c.index-principal.result.now in
    let N : WorldValue → Type 0 = λ w. p < length w.principals in
    let there = subst N (sym c.self.view_is) c.requires.principal in
    let within : p < length parts = omega (arith, there, c.self.invariant.principals_count) in
    c.self.invariant.principals_are p keys (slice_get-get_or parts p keys within ∙ ap Some (sym c.index-principal.ensures))

pub context_with-requires-clause-resource_keys : goal.context_with-requires-clause-resource_keys
context_with-requires-clause-resource_keys c =
    let r = c.args.r in
    let parts = c.self.inside.resources.items in
    let keys = c.index-resource.result.now in
    let N : WorldValue → Type 0 = λ w. r < length w.resources in
    let there = subst N (sym c.self.view_is) c.requires.resource in
    let within : r < length parts = omega (arith, there, c.self.invariant.resources_count) in
    c.self.invariant.resources_are r keys (slice_get-get_or parts r keys within ∙ ap Some (sym c.index-resource.ensures))
