use Rattle.std.proofs.Common.{[], None}
use Rattle.std.proofs.lemmas.Result.{IfOk-weaker}
use Rattle.iam_open.specs.declared.certain.Certain.{Certain}
use Rattle.iam_open.proofs.PairLemmas.{always_plain, never_plain}
use Rattle.iam_open.proofs.pair.scene_certain.Goals as goal

pub returns-clause-always : goal.returns-clause-always
returns-clause-always c =
    let p = c.args.scene.p in
    IfOk-weaker c.pair_certain.result _ _
    (λ (certain : Certain) told worlds other a r seat does among always.
    always_plain worlds other p a r among (told other p a r [] None does (c.in_ok-pair.ensures.is other r seat) always))
    c.pair_certain.ensures.always

pub returns-clause-never : goal.returns-clause-never
returns-clause-never c =
    let p = c.args.scene.p in
    IfOk-weaker c.pair_certain.result _ _
    (λ (certain : Certain) told worlds other a r seat does among never.
    never_plain worlds other p a r among (told other p a r [] None does (c.in_ok-pair.ensures.is other r seat) never))
    c.pair_certain.ensures.never
