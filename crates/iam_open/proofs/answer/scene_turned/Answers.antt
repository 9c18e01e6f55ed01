use Rattle.std.proofs.Common.{[], ◌∷◌, arith, refl}
use Rattle.iam_open.proofs.answer.scene_turned.Goals as goal

pub returns-in-Always : goal.returns-in-Always
returns-in-Always c = λ other a r seat does.
    c.in_ok-scene_certain.ensures.always (other ∷ []) other a r seat does (0, omega arith, refl) c.in-Always.is

pub returns-in-Never : goal.returns-in-Never
returns-in-Never c = λ other a r seat does.
    c.in_ok-scene_certain.ensures.never (other ∷ []) other a r seat does (0, omega arith, refl) c.in-Never.is
