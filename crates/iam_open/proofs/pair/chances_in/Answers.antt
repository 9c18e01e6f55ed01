use Rattle.std.proofs.lemmas.Result.{IfOk-weaker}
use Rattle.iam_match.specs.Statement.{AccessValue}
use Rattle.iam_open.proofs.SeatLemmas.{same_moment}
use Rattle.iam_open.proofs.pair.chances_in.Goals as goal

pub returns : goal.returns
returns c =
    let known = c.known-known.result in
    let access : AccessValue = record { requester = c.requester.result.now; resource = c.text.result.now; context = c.in-Ok.context } in
    IfOk-weaker c.chances_of.result _ _
    (λ chances are other r seat. record {
      access = access;
      derived = c.in_ok-derived.derived.items;
      moment = c.looked_at.result;
      known = known;
      view = record {
        from = c.looked_at.ensures.is;
        first = λ later tried since. c.looked_at.ensures.first later tried (rw (same_moment c.args.scene.world.now c.args.scene.target other r seat) at since);
        clean = c.in-Ok.ensures.clean other r seat;
        keys = c.in_ok-derived.ensures other r seat;
        context = c.in-Ok.ensures.is other r seat;
        known_are = c.known-known.ensures other r seat;
        who = c.requester.ensures other r seat;
        what = c.text.ensures other r seat;
      };
      are = are;
    })
    c.chances_of.ensures
