use Rattle.std.proofs.Common.{[], ◌++◌, map, take, subst, sym}
use Rattle.std.specs.List.{flat_map}
use Rattle.std.proofs.lemmas.Result.{IfErr-weaker, on_ok_weaker}
use Rattle.std.proofs.lemmas.List.{append-nil, take_all}
use Rattle.iam_context.specs.Keys.{HasKeys}
use Rattle.iam_context.specs.Context.{keys_of}
use Rattle.iam_world_context.proofs.PartLemmas.{keys_next}
use Rattle.iam_world_context.proofs.contexts.check_resources.Goals as goal

pub loop-part-init : goal.loop-part-init
loop-part-init c =
    subst (HasKeys c.add.new.self) (sym (append-nil (keys_of c.args.world.now.items))) (c.in_ok-add.ensures [] c.new-keys.ensures)

pub loop-part-preserved : goal.loop-part-preserved
loop-part-preserved c =
    let ps = c.args.principals.now in
    let i = c.loop-part.part-index in
    subst (HasKeys c.add-in-loop-part.new.self) (sym (keys_next (λ part. part.items) (keys_of c.args.world.now.items) ps i c.part-item.result c.loop-part-test.true c.part-item.is))
    (c.in_ok-add-2.ensures (keys_of c.args.world.now.items ++ flat_map keys_of (map (λ part. part.items) (take i ps))) c.loop-part.invariant)

pub returns-clause-clean : goal.returns-clause-clean
returns-clause-clean c =
    let all = take_all c.loop-part.part-index c.args.principals.now c.loop-part-test.false in
    on_ok_weaker c.check_parts.result
    (λ clean. clean (keys_of c.args.world.now.items ++ flat_map keys_of (map (λ part. part.items) c.args.principals.now)) (rw all at c.loop-part.invariant))
    c.check_parts.ensures.clean

pub returns-clause-fault : goal.returns-clause-fault
returns-clause-fault c =
    let all = take_all c.loop-part.part-index c.args.principals.now c.loop-part-test.false in
    IfErr-weaker c.check_parts.result _ _
    (λ fault first other.
    first other (keys_of c.args.world.now.items ++ flat_map keys_of (map (λ part. part.items) c.args.principals.now)) (rw all at c.loop-part.invariant))
    c.check_parts.ensures.fault
