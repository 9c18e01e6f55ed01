-- What denies, allows and grants among the statements that a scan has found: `Decision` says it of all statements.
use Rattle.std.specs.Prelude.{◌≡◌, ℕ, ◌≤◌, List, map}
use Rattle.std.specs.List.{Any}
use Rattle.iam_policy.specs.declared.effect.Effect.{Effect}
use Rattle.iam_policy.specs.declared.effect.Effect.TheVariants.{Allow, Deny}
use Rattle.iam_match.specs.Principal.{rank}
use Rattle.iam_match.specs.declared.principal.Grant.{Grant}
use Rattle.iam_decision.specs.Matched.{Selects}
use Rattle.iam_decision.specs.declared.place.Layer.{Layer}
use Rattle.iam_decision.specs.declared.place.Layer.TheVariants.{Resource}
use Rattle.iam_decision.specs.declared.place.Place.{Place}
use Rattle.iam_decision.specs.declared.living.Matched.{Matched}

abbrev pub DeniesIn : List Matched → Type 0
DeniesIn found = Any (λ m. m.effect ≡ Deny) found

abbrev pub AllowsIn : List Matched → Layer → ℕ → Type 0
AllowsIn found layer level = Any (λ m. (m.effect ≡ Allow) × (m.place.layer ≡ layer) × (m.place.level ≡ level)) found

abbrev pub GrantsIn : List Matched → Grant → Type 0
GrantsIn found least =
    Any (λ m. (m.effect ≡ Allow) × (m.place.layer ≡ Resource) × (rank least ≤ rank m.grant)) found

-- the places of those with the effect, in order
abbrev pub ArePlaces : Effect → List Matched → List Place → Type 0
ArePlaces effect found places = (kept : List Matched) × Selects (λ m. m.effect ≡ effect) found kept × (places ≡ map (λ m. m.place) kept)
