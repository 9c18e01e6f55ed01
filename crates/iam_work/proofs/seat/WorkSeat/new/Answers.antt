use Rattle.std.proofs.Common.{◌≡◌, ℕ, List, [], map, replicate, sym, ap, ◌∙◌}
use Rattle.std.proofs.lemmas.List.Elements.{All-weaker}
use Rattle.iam_work.specs.declared.run.Run.{Run}
use Rattle.iam_work.specs.Work.{work_id}
use Rattle.iam_work.specs.Code.Fields.{IsReady, IsNew, pass_deque, pass_taken}
use Rattle.iam_work.proofs.Seats.{none_taken, new_ready}
use Rattle.iam_work.proofs.seat.WorkSeat.new.Goals as goal

pub invariant_of-result : goal.invariant_of-result
invariant_of-result c =
    record {
      empty = c.requires.slots;
      alone = c.requires.seat;
      fifo = c.requires.owner.fifo;
      knows = c.requires.owner.knows;
      owns = c.requires.owns;
      ready = All-weaker (IsNew c.args.pass.me.0.grains) (IsReady c.args.pass.me.0.grains) (new_ready c.args.pass.me.0.grains) c.args.passes.items c.requires.passes;
    }

pub returns : goal.returns
returns c =
    let v = c.args.pass.me.0 in
    let passes = c.args.passes.items in
    let stolen : map pass_taken passes ≡ replicate v.all [] = none_taken v.grains passes c.requires.passes ∙ ap (λ (n : ℕ). replicate {A = List Run} n []) (sym c.args.passes.ok.0 ∙ c.requires.every) in
    λ i. record {
      work = work_id c.args.pass.table_id (map pass_deque passes) v.grains v.all;
      number = c.args.number;
      marked = c.requires.marked i;
      found = c.requires.found i;
      pushed = c.requires.owner.pushed i;
      popped = c.requires.owner.taken i;
      stolen = stolen i;
    }
