use Rattle.std.proofs.Common.{◌≡◌, refl, rules}
use Rattle.iam_decision.specs.declared.verdict.Decision.TheVariants.{Allowed}
use Rattle.iam_open.proofs.SeatLemmas.{same_moment}
use Rattle.iam_open.proofs.example.example_of.Goals as goal

pub scene_verdict-requires : goal.scene_verdict-requires
scene_verdict-requires c = (c.may_be_given.ensures c.if-not-may_be_given.false c.args.scene.world.now refl).to

pub returns : goal.returns
returns c = λ other a r seat does.
    let allowed : c.in_ok-verdict.verdict.decision ≡ Allowed = search rules in
    record {
      question = record {
        given = c.may_be_given.ensures c.if-not-may_be_given.false other (same_moment c.args.scene.world.now c.args.scene.target other r seat);
        clean = c.in-Ok.ensures other r seat;
      };
      verdict = c.in_ok-verdict.ensures other a r seat does;
      allowed = allowed;
    }
