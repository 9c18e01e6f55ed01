use Rattle.std.proofs.Common.{List, take}
use Rattle.iam_glob.specs.declared.sign.Sign.{Sign}
use Rattle.iam_services.specs.Services.{numbers_of}
use Rattle.iam_index.specs.Elements.{Marked, TellSome}
use Rattle.iam_index.proofs.elements.mark.Given as goal

abbrev pub invariant-loop-i : goal.invariant-loop-i
invariant-loop-i l =
    (done : List (List Sign)) → TellSome l.world l.acting done l.initial.acts.items
    → Marked l.world l.acting done l.pattern (take l.i (numbers_of l.tried)) l.acts.items
