use Rattle.std.proofs.Common.{◌≡◌, ◌++◌, ◌∷◌, [], ◌∙◌, List, Some, ap, sym, subst, append-nil, arith}
use Rattle.std.proofs.lemmas.Result.{on_ok_weaker}
use Rattle.std.specs.List.{slice_get}
use Rattle.iam_tiles.specs.Code.Numbered.{IsPut}
use Rattle.iam_tiles.proofs.Picks.{picked_put}
use Rattle.iam_tiles.proofs.kept.Kept.push.Goals as goal

pub returns-then-is_at-clause-ok : goal.returns-then-is_at-clause-ok
returns-then-is_at-clause-ok g c =
    let own = c.self.inside in
    let items = own.distinct.items in
    let n = c.in-Some.number in
    let item = g.F.Form.means c.args.form.now in
    let there : slice_get items n ≡ Some item =
    subst (λ (xs : List g.row.T.Denot). slice_get xs n ≡ Some item) c.as_slice.ensures.value (c.is_at.ensures c.if-is_at.true) in
    on_ok_weaker c.push.result
    (λ pushed. let put : IsPut item n items own.numbers items c.push.new.self = record {
      kept = ([], omega arith, sym (append-nil items));
      found = there;
      behind = pushed;
    } in
    picked_put g.T.Item.none item n items own.numbers items c.push.new.self put c.self.invariant.0
    ∙ ap (λ (xs : List g.row.T.Denot). xs ++ item ∷ []) c.self.view_is)
    c.push.ensures.ok
