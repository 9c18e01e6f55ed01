use Rattle.std.proofs.Common.{◌≡◌, ℕ, ◌<◌, List, All, length, vec_len, sym, ap, ◌∙◌, subst, arith}
use Rattle.std.proofs.lemmas.List.FromFn.{length-map-range_with_len}
use Rattle.iam_lanes.specs.Work.{fresh, SeatView as WorkView}
use Rattle.iam_crew.specs.Code.Worker.{IsUntouched}
use Rattle.iam_crew.proofs.Workers.{own_seats}
use Rattle.iam_crew.proofs.collector.gather.Given.{Over}
use Rattle.iam_crew.proofs.collector.gather.Goals as goal

pub deal-requires-clause-count : goal.deal-requires-clause-count
deal-requires-clause-count g c =
    let seats = ap length c.in_ok-work.ensures.seats ∙ length-map-range_with_len (fresh c.in_ok-work.work) 0 c.args.workers in
    let ok = c.in_ok-work.seats.ok in
    omega (arith, c.in_ok-lanes.ensures.len)

pub deal-requires-clause-seats : goal.deal-requires-clause-seats
deal-requires-clause-seats g c =
    subst (λ (seats : List WorkView). All (IsUntouched c.in_ok-work.work) seats) (sym c.in_ok-work.ensures.seats)
    (own_seats c.in_ok-work.work 0 c.args.workers (let e = c.in_ok-work.ensures.workers in omega arith))

-- each worker came back
back : (g : Over) (c : goal.In_ok-done g) → vec_len c.in_ok-done.done ≡ c.args.workers
back g c =
    let own = c.in_ok-work.seats.ok.0 in
    let ran : vec_len c.in_ok-done.done ≡ vec_len c.in_ok-all.all = c.in_ok-done.ensures.len in
    let dealt : vec_len c.in_ok-all.all ≡ vec_len c.in_ok-work.seats = c.in_ok-all.ensures.count in
    let opened = ap length c.in_ok-work.ensures.seats ∙ length-map-range_with_len (fresh c.in_ok-work.work) 0 c.args.workers in
    omega arith

pub collect-requires-clause-some : goal.collect-requires-clause-some
collect-requires-clause-some g c κs within = let P : ℕ → Type 0 = λ n. 0 < n in subst P (sym (back g c)) (omega arith)

pub collect-requires-clause-count : goal.collect-requires-clause-count
collect-requires-clause-count g c κs within = back g c ∙ sym c.in_ok-lanes.ensures.count
