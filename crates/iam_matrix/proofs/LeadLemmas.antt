-- The verdicts on requests of classes, where classes and verdicts are added.
use Rattle.std.proofs.Common.{◌≡◌, ℕ, List, ◌++◌, Option, sym, subst}
use Rattle.iam_decision.specs.declared.verdict.Verdict.{Verdict}
use Rattle.iam_world.specs.World.{WorldValue}
use Rattle.iam_layers.specs.Cell.{IsVerdictAt}
use Rattle.iam_index.proofs.ListLemmas.{get_more}
use Rattle.iam_columns.proofs.SlotLemmas.{all_weaker}
use Rattle.iam_columns.specs.declared.numbered.Numbered.{Numbered}
use Rattle.iam_classes.specs.Engine.{EngineValue, HasMore, OfClass}
use Rattle.iam_classes.proofs.EngineLemmas.{of_class_more}
use Rattle.iam_matrix.specs.Code.Leads.{AreLeads, IsLead}
use Rattle.iam_matrix.specs.Code.Tiles.{Adds}

pub leads_classes : (old new : EngineValue) (leads : List (Option Numbered)) (verdicts : List Verdict) → new.world ≡ old.world
    → HasMore old.classes new.classes → AreLeads old leads verdicts → AreLeads new leads verdicts
leads_classes old new leads verdicts world classes all =
    all_weaker (λ (l : Numbered). IsLead old verdicts l) (λ (l : Numbered). IsLead new verdicts l) leads
    (λ l (verdict, at, is).
    let W : WorldValue → Type 0 = λ w. OfClass new l.one (λ p r. IsVerdictAt w p l.other r verdict) in
    let more = of_class_more old new l.one (λ p r. IsVerdictAt old.world p l.other r verdict) world classes is in
    (verdict, at, subst W (sym world) more)) all

pub leads_more : (engine : EngineValue) (leads : List (Option Numbered)) (verdicts more : List Verdict) → AreLeads engine leads verdicts
    → AreLeads engine leads (verdicts ++ more)
leads_more engine leads verdicts more all =
    all_weaker (λ (l : Numbered). IsLead engine verdicts l) (λ (l : Numbered). IsLead engine (verdicts ++ more) l) leads
    (λ l (verdict, at, is). (verdict, get_more verdicts more l.number verdict at, is)) all

-- what cells of a class have led to stays where it is, and there are so many verdicts more
pub leads_behind : (engine : EngineValue) (leads : List (Option Numbered)) (Is : ℕ → Verdict → Type 0) (from count : ℕ) (old new : List Verdict)
    → AreLeads engine leads old → Adds Is from count old new → AreLeads engine leads new
leads_behind engine leads Is from count old new all (more, behind, are) =
    let E : List Verdict → Type 0 = λ vs. AreLeads engine leads vs in
    subst E (sym behind) (leads_more engine leads old more all)

-- what follows of each principal and resource of a class
pub of_class_weaker : (engine : EngineValue) (n : ℕ) (P Q : ℕ → ℕ → Type 0) → ((p r : ℕ) → P p r → Q p r) → OfClass engine n P → OfClass engine n Q
of_class_weaker engine n P Q weaker (class, at, all) = (class, at, λ p r shared. weaker p r (all p r shared))
