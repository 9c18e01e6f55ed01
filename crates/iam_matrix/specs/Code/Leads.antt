-- Where a tile has the verdicts on requests of classes.
use Rattle.std.specs.Prelude.{◌≡◌, ℕ, List, Option, Some}
use Rattle.std.specs.List.{slice_get}
use Rattle.iam_decision.specs.declared.verdict.Verdict.{Verdict}
use Rattle.iam_world.specs.World.{WorldValue}
use Rattle.iam_layers.specs.Cell.{IsVerdictAt}
use Rattle.iam_columns.specs.Slots.{AllAre}
use Rattle.iam_columns.specs.declared.numbered.Numbered.{Numbered}
use Rattle.iam_classes.specs.Engine.{EngineValue, IsClassAt, OfClass}

-- the verdict on principal p's request for action a on resource r stands at this place
abbrev pub HasVerdict : WorldValue → ℕ → ℕ → ℕ → List Verdict → ℕ → Type 0
HasVerdict world p a r verdicts place = (verdict : Verdict) × (slice_get verdicts place ≡ Some verdict) × IsVerdictAt world p a r verdict

-- at the place of the lead, which is kept under a class and an action, stands the verdict on all requests of that class for that action
abbrev pub IsLead : EngineValue → List Verdict → Numbered → Type 0
IsLead engine verdicts lead =
    (verdict : Verdict) × (slice_get verdicts lead.number ≡ Some verdict)
    × OfClass engine lead.one (λ p r. IsVerdictAt engine.world p lead.other r verdict)

abbrev pub AreLeads : EngineValue → List (Option Numbered) → List Verdict → Type 0
AreLeads engine leads verdicts = AllAre (λ lead. IsLead engine verdicts lead) leads

-- each of these pairs is of its class
abbrev pub AreKnown : EngineValue → List (Option Numbered) → Type 0
AreKnown engine pairs = AllAre (λ pair. IsClassAt engine pair.one pair.other pair.number) pairs
