use Rattle.std.proofs.Common.{◌≤◌, ◌<◌, List, ℕ, length, take, subst, arith}
use Rattle.std.proofs.lemmas.List.{take_all}
use Rattle.iam_services.specs.Services.{numbers_of}
use Rattle.iam_index.specs.Elements.{Marked}
use Rattle.iam_index.proofs.MarkLemmas.{marked_end, marked_start, one_tried}
use Rattle.iam_index.proofs.elements.mark.Goals as goal

pub loop-i-init : goal.loop-i-init
loop-i-init c = λ done tell. marked_start c.args.world.now c.args.acting done c.args.pattern.now c.args.acts.now.items tell

pub loop-i-preserved : goal.loop-i-preserved
loop-i-preserved c = λ done tell.
    let numbers = numbers_of c.args.tried in
    let i = c.loop-i.i in
    let below : i < length numbers = omega (arith, c.loop-i-test.true, c.len-i-end.ensures) in
    let M : List ℕ → Type 0 = λ ns. Marked c.args.world.now c.args.acting done c.args.pattern.now ns c.mark_one.new.acts.items in
    subst M (one_tried numbers i c.at.result below c.at.ensures) (c.mark_one.ensures done (take i numbers) (c.loop-i.invariant done tell))

pub returns : goal.returns
returns c = λ done tell.
    let numbers = numbers_of c.args.tried in
    let past : length numbers ≤ c.loop-i.i = omega (arith, c.loop-i-test.false, c.len-i-end.ensures) in
    let M : List ℕ → Type 0 = λ ns. Marked c.args.world.now c.args.acting done c.args.pattern.now ns c.loop-i.acts.items in
    marked_end c.args.world.now c.args.acting done c.args.pattern.now numbers c.loop-i.acts.items c.requires
    (subst M (take_all c.loop-i.i numbers past) (c.loop-i.invariant done tell))
