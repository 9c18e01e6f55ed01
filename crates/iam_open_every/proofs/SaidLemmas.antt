-- What is said of a request as the world has it.
use Rattle.std.proofs.Common.{◌≡◌, ◌∙◌, ℕ, [], ap, subst, sym}
use Rattle.iam_decision.specs.declared.verdict.Verdict.{Verdict}
use Rattle.iam_layers.specs.Cell.{IsVerdictAt}
use Rattle.iam_layers.specs.Laws.{NoKeysChangeNoVerdict}
use Rattle.iam_layers.specs.Own.{IsOwnVerdict}
use Rattle.iam_open.specs.InQuestion.{at_moment}
use Rattle.iam_open.specs.Seat.{IsSeat}
use Rattle.iam_open.specs.declared.scene.Target.{Target}
use Rattle.iam_open.specs.declared.scene.Target.TheVariants as target
use Rattle.iam_world.specs.World.{WorldValue}

same_moment : (world : WorldValue) (t : Target) (other : WorldValue) (r : ℕ) → IsSeat world t other r → other.moment ≡ world.moment
same_moment world (target.Named n) other r (is, number) = ap (λ (w : WorldValue). w.moment) is
same_moment world (target.Unnamed unnamed text) other r (action, resource, said, is, number) = ap (λ (w : WorldValue). w.moment) is

-- the verdict without keys of its own at the world's moment is that on the request as the world has it
pub as_given : NoKeysChangeNoVerdict → (world : WorldValue) (t : Target) (other : WorldValue) (p a r moment : ℕ) (verdict : Verdict)
    → moment ≡ world.moment → IsSeat world t other r → IsOwnVerdict (at_moment other moment) p a r [] verdict → IsVerdictAt other p a r verdict
as_given nothing world t other p a r moment verdict now seat said =
    let here : IsOwnVerdict other p a r [] verdict =
    subst (λ (m : ℕ). IsOwnVerdict (at_moment other m) p a r [] verdict) (now ∙ sym (same_moment world t other r seat)) said in
    let (w, (resource, there, is), decided) = here in
    (nothing other p a r verdict (resource, there, tt)).0 here
