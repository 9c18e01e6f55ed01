use Rattle.std.proofs.Common.{sym, subst}
use Rattle.iam_layers.specs.Code.Statements.{HasLevels}
use Rattle.iam_world.specs.World.{WorldValue}
use Rattle.iam_index.proofs.index.Index.frame.Goals as goal

pub frame_with-requires-clause-levels : goal.frame_with-requires-clause-levels
frame_with-requires-clause-levels c =
    let L : WorldValue → Type 0 = λ w. HasLevels w c.args.p c.org.result.now.levels in
    subst L (sym c.self.view_is) c.org.ensures.levels
