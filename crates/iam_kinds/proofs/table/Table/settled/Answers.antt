use Rattle.std.proofs.Common.{◌∙◌, ap, arith, List, ℕ, if◌then◌else◌, get_or, map, ◌==◌}
use Rattle.std.specs.List.{list_any}
use Rattle.iam_kinds.proofs.Members.{mapped_more, same_as, whole}
use Rattle.iam_kinds.specs.Code.{settled_place, is_good, place_at}
use Rattle.iam_kinds.proofs.table.Table.settled.Goals as goal

pub loop-place-preserved : goal.loop-place-preserved
loop-place-preserved c =
    let t = c.args.self.now.patterns.items in
    let k = get_or c.args.places.now c.loop-place.place-index (place_at 0 0) in
    mapped_more (settled_place t c.args.places.now) c.args.places.now c.loop-place.place-index (place_at 0 0) c.loop-place.settled.items
    c.push.new.self.items c.settled_place.result (omega arith) c.loop-place.invariant
    (c.settled_place.ensures ∙ ap (λ (l : List ℕ). if list_any (λ g. g == c.group.result) l then place_at c.group.result 0 else k) c.deref.ensures.value
    ∙ ap (λ b. if b then place_at c.group.result 0 else k) (c.in_ok-good.ensures.good c.group.result)
    ∙ ap (λ g. if is_good t c.args.places.now g then place_at g 0 else k) c.group.ensures)
    c.in_ok-push.ensures.items

pub returns-clause-same : goal.returns-clause-same
returns-clause-same c =
    same_as _ _ _ c.sorted_places.ensures.same
    (whole (λ l. map (settled_place c.args.self.now.patterns.items c.args.places.now) l) c.args.places.now c.loop-place.place-index _ (omega arith) c.loop-place.invariant)
