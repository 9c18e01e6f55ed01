use Rattle.std.proofs.Common.{◌<◌, ap, get_or, length, arith}
use Rattle.std.proofs.lemmas.List.{length-map}
use Rattle.std.proofs.lemmas.Option.{slice_get-get_or}
use Rattle.std.proofs.lemmas.Result.{on_ok_weaker}
use Rattle.iam_tiles.proofs.Picks.{picked_again}
use Rattle.iam_tiles.proofs.kept.Kept.push_again.Goals as goal

pub returns-clause-ok : goal.returns-clause-ok
returns-clause-ok g c = λ item there.
    let own = c.self.inside in
    let place = c.args.place in
    let below : place < length own.numbers =
    omega (arith, c.requires, ap length c.self.view_is, length-map own.numbers (λ n. get_or own.distinct.items n g.T.Item.none)) in
    on_ok_weaker c.push_again.result
    (λ pushed. picked_again g.T.Item.none item own.distinct.items own.numbers c.push_again.new.self place (get_or own.numbers place 0) c.args.self.now c.self.view_is
    pushed (slice_get-get_or own.numbers place 0 below) there) c.push_again.ensures.ok
