use Rattle.std.proofs.Common.{sym, ◌∙◌}
use Rattle.iam_policy.proofs.statement.Statement.read.Goals as goal

pub returns : goal.returns
returns c = record {
  sid = c.in_ok-read_sid.ensures;
  effect = sym c.effect_of.ensures ∙ c.unwrap.ensures;
  action = c.in_ok-read_action.ensures;
  resource = c.in_ok-read_resource.ensures;
  principal = c.in_ok-read_principal.ensures;
  conditions = c.in_ok-read_conditions.ensures;
}
