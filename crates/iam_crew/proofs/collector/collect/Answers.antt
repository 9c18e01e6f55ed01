use Rattle.std.proofs.Common.{◌≡◌, ℕ, ◌<◌, ◌≤◌, List, All, length, vec_len, sym, ap, ◌∙◌, subst, arith}
use Rattle.std.proofs.lemmas.List.{length-map}
use Rattle.std.proofs.lemmas.List.Elements.{All-contains}
use Rattle.std.proofs.lemmas.Result.{IfOk-weaker}
use Rattle.iam_lanes.specs.Lanes.{SeatView}
use Rattle.iam_crew.specs.declared.worker.Made.{Made}
use Rattle.iam_crew.specs.Bound.{floor_of}
use Rattle.iam_crew.specs.Code.Order.{AreBrought, IsKept, made_of}
use Rattle.iam_crew.proofs.Slots.{brought_all}
use Rattle.iam_crew.proofs.Workers.{seats_same, seats_offer, all_within, all_given}
use Rattle.iam_crew.proofs.collector.collect.Given.{Over}
use Rattle.iam_crew.proofs.collector.collect.Goals as goal

pub place-requires : goal.place-requires
place-requires g c =
    subst (λ (ms : List (Made g.row.C-Output.Denot)). All (λ m. m.tile < c.args.tiles) ms) (sym c.in_ok-seats.ensures.made)
    (all_within c.args.tiles c.args.lanes (g.C.Crew.offers c.args.crew.now) (g.C.Crew.gives c.args.crew.now) c.args.done.items c.requires.done)

-- there is a seat of each worker
seated : (g : Over) (c : goal.In_ok-slots g) → vec_len c.in_ok-seats.seats ≡ vec_len c.args.done
seated g c =
    let back = ap length c.in_ok-seats.ensures.seats ∙ length-map c.args.done.items (λ d. d.seat) in
    let here = c.args.done.ok.0 in
    let there = c.in_ok-seats.seats.ok.0 in
    omega arith

pub finish-requires-clause-some : goal.finish-requires-clause-some
finish-requires-clause-some g c κs within = let P : ℕ → Type 0 = λ n. 0 < n in subst P (sym (seated g c)) c.requires.some

pub finish-requires-clause-count : goal.finish-requires-clause-count
finish-requires-clause-count g c κs within = seated g c ∙ c.requires.count

pub finish-requires-clause-lanes : goal.finish-requires-clause-lanes
finish-requires-clause-lanes g c κs within =
    subst (λ (xs : List SeatView). All (λ s. s.lanes ≡ c.args.lanes) xs) (sym c.in_ok-seats.ensures.seats)
    (seats_same c.args.tiles c.args.lanes (g.C.Crew.offers c.args.crew.now) (g.C.Crew.gives c.args.crew.now) c.args.done.items c.requires.done)

pub finish-requires-clause-offered : goal.finish-requires-clause-offered
finish-requires-clause-offered g c κs within =
    let offers = g.C.Crew.offers c.args.crew.now in
    subst (λ (xs : List SeatView). All (λ s. All offers s.offers) xs) (sym c.in_ok-seats.ensures.seats)
    (seats_offer c.args.tiles c.args.lanes offers (g.C.Crew.gives c.args.crew.now) c.args.done.items c.requires.done)

pub finish-requires-clause-given : goal.finish-requires-clause-given
finish-requires-clause-given g c κs within bound low tile output at =
    let gives = g.C.Crew.gives c.args.crew.now in
    let below = subst (λ (xs : List SeatView). All (λ s. bound ≤ floor_of s) xs) c.in_ok-seats.ensures.seats low in
    let all = all_given c.args.tiles c.args.lanes (g.C.Crew.offers c.args.crew.now) gives bound c.args.done.items c.requires.done below in
    All-contains (λ (m : Made g.row.C-Output.Denot). gives m.tile m.output bound) c.in_ok-seats.made.items (made_of tile output)
    (subst (λ (ms : List (Made g.row.C-Output.Denot)). All (λ m. gives m.tile m.output bound) ms) (sym c.in_ok-seats.ensures.made) all)
    (c.in_ok-slots.ensures.placed.from tile output at)

pub returns-clause-brought : goal.returns-clause-brought
returns-clause-brought g c =
    let made = c.in_ok-seats.made.items in
    IfOk-weaker c.finish.result (λ g. IsKept c.in_ok-slots.slots.items g.outputs.items) _
    (λ v kept. subst (λ (ms : List (Made g.row.C-Output.Denot)). AreBrought ms v.outputs.items) c.in_ok-seats.ensures.made
    (brought_all c.in_ok-slots.slots.items made v.outputs.items c.in_ok-slots.ensures.placed kept))
    c.finish.ensures.kept
