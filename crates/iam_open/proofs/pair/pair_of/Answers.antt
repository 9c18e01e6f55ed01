use Rattle.std.proofs.Common.{List, subst}
use Rattle.iam_decision.specs.Matched.{Placed}
use Rattle.iam_open.specs.Code.Known.{Follows}
use Rattle.iam_open.specs.Code.Pairs.{AreChances}
use Rattle.iam_open.proofs.pair.pair_of.Goals as goal

pub returns-clause-is : goal.returns-clause-is
returns-clause-is c = λ other r seat.
    let chances = c.in_ok-chances.chances.items in
    let found = c.in_ok-chances.ensures other r seat in
    record {
      access = found.access;
      derived = found.derived;
      moment = found.moment;
      known = found.known;
      view = found.view;
      each = λ a applies. record {
        frame = c.frame.ensures other r a seat applies;
        chances = subst (λ (xs : List Placed). AreChances found.access (Follows found.known found.access.context) xs chances)
            (c.in_ok-statements.ensures other r a seat applies) (rw c.as_slice.ensures.value at found.are);
      };
    }
