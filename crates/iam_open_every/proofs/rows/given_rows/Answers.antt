use Rattle.std.proofs.Common.{List, ℕ, map, string_bytes, subst}
use Rattle.std.proofs.lemmas.Result.{IfOk-weaker}
use Rattle.iam_every.specs.Every.{every_of}
use Rattle.iam_open_every.specs.Made.{AreJoined, AreOfAction}
use Rattle.iam_open_every.specs.Row.{row_of}
use Rattle.iam_open_every.specs.Spots.{spot_of}
use Rattle.iam_open_every.proofs.RowLemmas.{all_rows}
use Rattle.iam_open_every.proofs.rows.given_rows.Goals as goal

pub returns-clause-rows : goal.returns-clause-rows
returns-clause-rows c =
    let given = c.args.given in
    let every = every_of given.asked in
    let actions : List (List ℕ) = map string_bytes c.args.actions.now in
    IfOk-weaker c.rows_by.result _ _
    (λ rows by.
    all_rows c.alike_actions_are_turned_alike.ensures c.args.brief every given.p actions (map spot_of c.in_ok-spots.spots.items) (map row_of rows.items)
    c.requires.given.principal c.requires.given.there c.requires.actions c.in_ok-spots.ensures.spots c.in_ok-spots.ensures.made
    (subst (λ l. AreJoined (AreOfAction c.args.brief every given.p (map spot_of l)) actions (map row_of rows.items)) c.as_slice.ensures.value by))
    c.rows_by.ensures
