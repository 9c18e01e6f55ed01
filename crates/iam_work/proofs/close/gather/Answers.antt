use Rattle.std.proofs.Common.{◌≡◌, Some, ap, sym, subst, ◌∙◌}
use Rattle.std.proofs.lemmas.List.Elements.{All-pop}
use Rattle.iam_work.specs.Work.{SeatView}
use Rattle.iam_work.specs.Code.Closing.{Gathers}
use Rattle.iam_work.proofs.Steps.{joins}
use Rattle.iam_work.proofs.Closing.{gather_more}
use Rattle.iam_work.proofs.close.gather.Goals as goal

pub join_seat-requires : goal.join_seat-requires
join_seat-requires c =
    let key = c.args.table.now.shared.key in
    let pass = c.loop-seat.pass in
    let other = c.into_pass.result in
    let popped = All-pop (λ (s : SeatView). s.work.marks ≡ c.args.table.now.shared.table_id) c.loop-seat.seats.items c.pop-in-loop-seat.new.self.items (Some c.in-Some-pop.seat) c.in-Some-pop.ensures.items c.loop-seat.invariant.rest in (
      c.loop-seat.invariant.table,
      c.into_pass.ensures.work ∙ popped.1,
      c.into_pass.ensures.slots,
      c.requires.words,
      joins key.grains key.seats pass.id pass.me.0 other.id other.me.0,
    )

pub loop-seat-preserved : goal.loop-seat-preserved
loop-seat-preserved c =
    let pass = c.loop-seat.pass in
    let other = c.into_pass.result in
    let rest = c.pop-in-loop-seat.new.self.items in
    let popped = All-pop (λ (s : SeatView). s.work.marks ≡ c.args.table.now.shared.table_id) c.loop-seat.seats.items rest (Some c.in-Some-pop.seat) c.in-Some-pop.ensures.items c.loop-seat.invariant.rest in
    let joined_is = c.join_seat.ensures.2 in
    record {
      table = c.join_seat.ensures.0 ∙ c.loop-seat.invariant.table;
      rest = popped.0;
      gathered = subst (λ v. Gathers c.args.seats.items rest v) (sym (ap (λ me. me.0) joined_is))
          (gather_more c.args.seats.items c.loop-seat.seats.items rest pass.me.0 other.me.0 c.in-Some-pop.seat c.loop-seat.invariant.gathered c.in-Some-pop.ensures.items c.into_pass.ensures.marked c.into_pass.ensures.found c.into_pass.ensures.seat);
    }
