use Rattle.std.proofs.Common.{◌∙◌, ◌++◌, ◌∷◌, [], ap, inr, subst}
use Rattle.std.proofs.lemmas.Result.{MatchResult-weaker}
use Rattle.iam_context.specs.Context.{ContextValue}
use Rattle.iam_layers.specs.Own.{IsCleanAt}
use Rattle.iam_world.specs.World.{WorldValue}
use Rattle.iam_asked.specs.Request.{AskedValue, IsWithin, RequestsValue, asked_with}
use Rattle.iam_asked.specs.Size.{AreLarge}
use Rattle.iam_asked.proofs.reading.Reading.add.Goals as goal

within : (c : goal.After-add_with) → IsWithin c.args.self.now.world (asked_with c.args.asked c.args.own.items)
within c = record {
  principal = c.requires.principal;
  action = c.requires.action;
  resource = c.requires.resource;
  clean = λ some.
      let world = c.world-world.ensures ∙ c.self.invariant ∙ ap (λ (v : RequestsValue). v.world) c.self.view_is in
      subst (λ (w : WorldValue). IsCleanAt w c.args.asked.principal c.args.asked.resource c.args.own.items) world c.in_ok-check_own.ensures.ok;
}

pub returns-clause-fault : goal.returns-clause-fault
returns-clause-fault c =
    let asked : ContextValue → AskedValue = asked_with c.args.asked in
    MatchResult-weaker c.add_with.result c.add_with.ensures.fault (λ _ _. tt)
    (
    λ fault told other.
    let (is, large) = told other in
    let F : ContextValue → Type 0 = λ it. AreLarge (c.args.self.now.asked ++ asked it ∷ []) in
    inr (is, within c, subst F c.new.ensures (subst (λ (v : RequestsValue). AreLarge (v.asked ++ asked c.new.result ∷ [])) c.self.view_is large))
    )
