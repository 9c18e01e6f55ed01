use Rattle.std.proofs.Common.{◌++◌, [], List, sym, map, ap, refl, subst, append_assoc}
use Rattle.iam_match.specs.Request.{access_of}
use Rattle.iam_decision.specs.Code.Scan.{placed_value}
use Rattle.iam_decision.specs.Living.{AreLiving, living_value}
use Rattle.iam_decision.specs.Matched.{Placed}
use Rattle.iam_index.proofs.IndexLemmas.{parts_listed}
use Rattle.iam_layers.specs.Cell.{IsContextAt}
use Rattle.iam_world.specs.World.{WorldValue}
use Rattle.iam_living.proofs.MarkLemmas.{none_told}
use Rattle.iam_living.proofs.walk.living.Goals as goal

pub returns : goal.returns
returns c = λ applicable at.
    let one : List Placed = map placed_value c.theirs-theirs.result.org.statements in
    let two : List Placed = map placed_value c.resource_statements.result.now in
    let three : List Placed = map placed_value c.theirs-theirs.result.own.statements in
    let living = map living_value c.add_known-2.new.living.items in
    let P : List Placed → Type 0 = λ z. AreLiving (access_of c.args.access) z living in
    let first = c.in_ok-add_known.ensures.living [] ([], refl, ap (map living_value) c.new-living.ensures.items) in
    let last = c.in_ok-add_known-2.ensures.living (one ++ two) (c.in_ok-add_all.ensures one first) in
    let listed = parts_listed c.args.index.now.actions applicable one two three (c.theirs-theirs.ensures.org c.args.r applicable at)
    (c.resource_statements.ensures c.args.p applicable at) (c.theirs-theirs.ensures.own c.args.r applicable at) in
    (one ++ (two ++ three), listed, subst P (append_assoc one two three) last)

pub add_known-requires-clause-told : goal.add_known-requires-clause-told
add_known-requires-clause-told c =
    let p = c.args.p in
    let known = c.theirs-theirs.result.org in
    let (derived, at) = c.requires.context in
    let W : WorldValue → Type 0 = λ w. IsContextAt w p c.args.r derived c.args.access.context.now in
    let none = none_told known.world p derived (map placed_value known.statements) c.new-told.result.items c.new-told.ensures.items in
    (p, derived, subst W (sym c.theirs-theirs.ensures.worlds.0) at, none)

pub add_known-requires-2-clause-told : goal.add_known-requires-2-clause-told
add_known-requires-2-clause-told c =
    let p = c.args.p in
    let known = c.theirs-theirs.result.own in
    let (derived, at) = c.requires.context in
    let W : WorldValue → Type 0 = λ w. IsContextAt w p c.args.r derived c.args.access.context.now in
    let none = none_told known.world p derived (map placed_value known.statements) c.new-told-2.result.items c.new-told-2.ensures.items in
    (p, derived, subst W (sym c.theirs-theirs.ensures.worlds.1) at, none)
