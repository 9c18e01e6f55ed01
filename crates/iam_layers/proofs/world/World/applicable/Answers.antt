use Rattle.std.proofs.Common.{◌<◌, ◌^◌, List, length, sym, subst}
use Rattle.iam_policy.specs.Reading.{PolicyValue}
use Rattle.iam_layers.proofs.world.World.applicable.Goals as goal

pub returns-clause-numbered : goal.returns-clause-numbered
returns-clause-numbered c =
    let P : List PolicyValue → Type 0 = λ policies. length policies < 2 ^ 32 in
    record {
      org = record { levels_count = c.org_of.ensures.few.levels_few; policies_count = c.org_of.ensures.few.policies_few };
      control = record { levels_count = c.control_of.ensures.few.levels_few; policies_count = c.control_of.ensures.few.policies_few };
      identity = subst P (sym c.identity.ensures) c.principal-principal.ensures.few.identity;
      session = subst P (sym c.session.ensures) c.principal-principal.ensures.few.session;
    }
