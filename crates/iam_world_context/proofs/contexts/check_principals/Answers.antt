use Rattle.std.proofs.Common.{[]}
use Rattle.std.proofs.lemmas.Result.{IfErr-weaker, on_ok_weaker}
use Rattle.iam_context.specs.Context.{keys_of}
use Rattle.iam_world_context.proofs.contexts.check_principals.Goals as goal

pub returns-clause-clean : goal.returns-clause-clean
returns-clause-clean c =
    let has = c.in_ok-add.ensures [] c.new-keys.ensures in
    on_ok_weaker c.check_parts.result (λ clean. clean (keys_of c.args.world.now.items) has) c.check_parts.ensures.clean

pub returns-clause-fault : goal.returns-clause-fault
returns-clause-fault c =
    let has = c.in_ok-add.ensures [] c.new-keys.ensures in
    IfErr-weaker c.check_parts.result _ _ (λ fault first other. first other (keys_of c.args.world.now.items) has) c.check_parts.ensures.fault
