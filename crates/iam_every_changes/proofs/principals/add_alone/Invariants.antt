use Rattle.std.proofs.Common.{ℕ, List, take}
use Rattle.iam_decision.specs.Matched.{Selects}
use Rattle.iam_world.specs.World.{WorldValue}
use Rattle.iam_asked.specs.Code.Found.{ArePlaces}
use Rattle.iam_asked.specs.Texts.{IsNowhere, principal_texts}
use Rattle.iam_every_changes.specs.Code.Principals.{Adds}
use Rattle.iam_every_changes.proofs.principals.add_alone.Given as goal

abbrev pub invariant-loop-p : goal.invariant-loop-p
invariant-loop-p l =
    (after : WorldValue) → ArePlaces (principal_texts l.before) l.was → ArePlaces (principal_texts after) l.now
    → (alone : List (List ℕ)) × Selects (IsNowhere (principal_texts after)) (take l.p (principal_texts l.before)) alone
    × Adds l.before after alone l.fn.whos.items l.whos.items
