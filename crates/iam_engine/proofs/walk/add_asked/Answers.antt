use Rattle.std.proofs.Common.{inl, inr, ◌∙◌, refl, sym}
use Rattle.iam_engine.proofs.walk.add_asked.Goals as goal

pub returns-then-not-asks-clause-found : goal.returns-then-not-asks-clause-found
returns-then-not-asks-clause-found c =
    let (allow, denied) = c.asks.ensures.0 c.if-not-asks.true in inr (sym c.effect.ensures ∙ allow, denied, refl)

pub returns-clause-found : goal.returns-clause-found
returns-clause-found c = inl c.in_ok-add_match.ensures.found
