-- What verdicts in a context say of what is allowed there, and of examples.
use Rattle.std.proofs.Common.{◌≡◌, ◌∙◌, ℕ, true, false, None, Option, Some, ap, refl, subst, sym}
use Rattle.iam_context.specs.Context.{ContextValue}
use Rattle.iam_decision.specs.Decision.{IsDecision}
use Rattle.iam_decision.specs.declared.verdict.Decision.{Decision}
use Rattle.iam_decision.specs.declared.verdict.Decision.TheVariants.{Allowed, ExplicitDeny, ImplicitDeny}
use Rattle.iam_decision.specs.declared.verdict.Verdict.{Verdict}
use Rattle.iam_open_changes.specs.InBoth.{IsAllowedIn, IsRefusedIn, IsVerdictIn}
use Rattle.iam_open_changes.specs.Laws.{NeverIsNotShown, ShownIsTurned}
use Rattle.iam_open_changes.specs.declared.numbers.Numbers.{Numbers}
use Rattle.iam_open_changes.specs.declared.turn.Turn.TheVariants.{Gained, Lost}
use Rattle.iam_row.specs.Changes.{allows, is_allowed}
use Rattle.iam_world.specs.World.{WorldValue}

allowed_is : (decision : Decision) → allows decision ≡ true → decision ≡ Allowed
allowed_is Allowed is = refl
allowed_is ExplicitDeny is = absurd (let wrong : ⊥ = cc in wrong)
allowed_is ImplicitDeny is = absurd (let wrong : ⊥ = cc in wrong)

unlike : false ≡ true → ⊥
unlike same = let wrong : ⊥ = cc in wrong

allowed_in : (world : WorldValue) (at : Option Numbers) (own : ContextValue) (moment : ℕ) (said : Option Verdict)
    → IsVerdictIn world at own moment said → is_allowed said ≡ true → IsAllowedIn world at own moment
allowed_in world None own moment said none is = absurd (unlike (sym (ap is_allowed none) ∙ is))
allowed_in world (Some it) own moment said (verdict, said_is, (other, with_keys, (applicable, request, asked, given))) is =
    let same : verdict.decision ≡ Allowed = allowed_is verdict.decision (sym (ap is_allowed said_is) ∙ is) in (
      other,
      with_keys,
      (applicable, request, asked, subst (λ (d : Decision). IsDecision applicable request d) same given.decided),
    )

refused_in : (world : WorldValue) (at : Option Numbers) (own : ContextValue) (moment : ℕ) (said : Option Verdict)
    → IsVerdictIn world at own moment said → is_allowed said ≡ false → IsRefusedIn world at own moment
refused_in world None own moment said none is = tt
refused_in world (Some it) own moment said (verdict, said_is, (other, with_keys, (applicable, request, asked, given))) is = (
  verdict.decision,
  (other, with_keys, (applicable, request, asked, given.decided)),
  λ same.
      let not : allows verdict.decision ≡ false = sym (ap is_allowed said_is) ∙ is in
      unlike (sym not ∙ ap allows same),
)

pub shown_is_turned : ShownIsTurned
shown_is_turned Gained before after was now example shown = (
  refused_in before was example.own.items example.moment example.before shown.said shown.turned.0,
  allowed_in after now example.own.items example.moment example.after shown.says shown.turned.1,
)
shown_is_turned Lost before after was now example shown = (
  allowed_in before was example.own.items example.moment example.before shown.said shown.turned.0,
  refused_in after now example.own.items example.moment example.after shown.says shown.turned.1,
)

pub never_is_not_shown : ShownIsTurned → NeverIsNotShown
never_is_not_shown turned turn before after was now example never shown =
    never example.own.items example.moment shown.question (turned turn before after was now example shown)
