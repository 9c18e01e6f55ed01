use Rattle.std.proofs.Common.{◌≡◌, ℕ, ◌+◌, ◌⊎◌, Option, Some, IfSome, List, [], ◌∷◌, ◌++◌, length, sym, ap, ◌∙◌, subst, arith}
use Rattle.std.proofs.lemmas.List.{length_push}
use Rattle.iam_crew.specs.Code.Order.{IsCompleted}
use Rattle.iam_crew.proofs.Slots.{completed_more}
use Rattle.iam_crew.proofs.collector.complete.Goals as goal

pub loop-slot-preserved : goal.loop-slot-preserved
loop-slot-preserved g c =
    let gives = g.C.Crew.gives c.args.crew.now in
    let so_far = c.loop-slot.invariant in
    let outputs = c.loop-slot.outputs.items in
    let output = c.in_ok-output_of.field-0 in
    let slot = c.in-Some.slot in
    let made = c.in_ok-output_of.ensures in
    let lower = c.output_of.new.bound.floor in
    let items : c.push.new.self.items ≡ outputs ++ output ∷ [] = c.in_ok-push.ensures.items in
    let at : c.len-tile.result ≡ length outputs = let ok = c.loop-slot.outputs.ok in omega (arith, c.len-tile.ensures) in
    let given = subst (λ (tile : ℕ). (slot ≡ Some output) ⊎ gives tile output lower) at made.given in
    record {
      count = ap length items ∙ length_push outputs output ∙ ap {B = ℕ} (λ n. n + 1) so_far.count ∙ sym (length_push c.loop-slot.yielded slot);
      each = subst (λ (os : List g.row.C-Output.Denot). IsCompleted gives lower (c.loop-slot.yielded ++ slot ∷ []) os) (sym items)
          (completed_more gives c.loop-slot.bound.floor lower c.loop-slot.yielded outputs slot output
          (λ tile o h. g.met.C.Crew.lasts c.args.crew.now tile o c.loop-slot.bound.floor lower made.lower.1 h)
          so_far.count given (λ own same. subst (λ (s : Option g.row.C-Output.Denot). IfSome s (λ o. output ≡ o)) same made.kept) so_far.each);
      fits = made.fits;
      offered = made.offered;
      lower = (made.lower.0 ∙ so_far.lower.0, let l = made.lower.1 in let k = so_far.lower.1 in omega arith);
    }
