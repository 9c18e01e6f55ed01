use Rattle.std.proofs.Common.{◌++◌, ◌∷◌, [], ◌^◌, ◌∙◌, List, ap}
use Rattle.iam_tiles.proofs.Picks.{few_items, picked_put}
use Rattle.iam_tiles.proofs.kept.Kept.push_other.Goals as goal

pub put-requires : goal.put-requires
put-requires g c =
    let own = c.self.inside in
    few_items g.T.Item.none own.distinct.items own.numbers c.args.self.now (2 ^ 32) c.self.invariant.1 c.self.view_is c.requires

pub returns-clause-ok : goal.returns-clause-ok
returns-clause-ok g c =
    let own = c.self.inside in
    let item = g.F.Form.means c.args.form.now in
    picked_put g.T.Item.none item c.in_ok-number.number own.distinct.items own.numbers c.put.new.distinct.items c.put.new.numbers c.in_ok-number.ensures.put c.self.invariant.0
    ∙ ap (λ (xs : List g.row.T.Denot). xs ++ item ∷ []) c.self.view_is
