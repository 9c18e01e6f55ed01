use Rattle.std.proofs.Common.{take}
use Rattle.iam_world.specs.World.{WorldValue}
use Rattle.iam_asked.specs.Code.Found.{ArePlaces}
use Rattle.iam_asked.specs.Texts.{principal_texts}
use Rattle.iam_every_changes.specs.Code.Principals.{Adds}
use Rattle.iam_every_changes.proofs.principals.add_all.Given as goal

abbrev pub invariant-loop-p : goal.invariant-loop-p
invariant-loop-p l =
    (before : WorldValue) → ArePlaces (principal_texts before) l.was → ArePlaces (principal_texts l.after) l.now
    → Adds before l.after (take l.p (principal_texts l.after)) l.fn.whos.items l.whos.items
