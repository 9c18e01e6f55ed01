use Rattle.std.proofs.Common.{◌∙◌, map, sym, take}
use Rattle.iam_context.proofs.Joining.{part_keys_more, part_new, part_shared}
use Rattle.iam_context.proofs.Shares.{shares_none}
use Rattle.iam_context.specs.Context.{all_of, keys_of}
use Rattle.iam_context.proofs.part.stand_twice.Goals as goal

pub loop-part-init : goal.loop-part-init
loop-part-init c = record {
  known = c.new-seen.ensures;
  left = sym (shares_none (keys_of (all_of (map (λ part. part.now.items) c.args.parts.now))));
}

pub returns-then-branch : goal.returns-then-branch
returns-then-branch c =
    let seen = keys_of (all_of (map (λ part. part.now.items) (take c.loop-part.part-index c.args.parts.now))) in
    let found = c.in_ok-add_new.ensures seen c.loop-part.invariant.known in
    sym (c.loop-part.invariant.left ∙ part_shared (λ part. part.now.items) c.args.parts.now c.loop-part.part-index c.part-item.result c.in_ok-add_new.field-0
    c.loop-part-test.true c.part-item.is found.0 c.if-branch.true)

pub loop-part-preserved : goal.loop-part-preserved
loop-part-preserved c =
    let seen = keys_of (all_of (map (λ part. part.now.items) (take c.loop-part.part-index c.args.parts.now))) in
    let found = c.in_ok-add_new.ensures seen c.loop-part.invariant.known in
    record {
      known =
          rw (part_keys_more (λ part. part.now.items) c.args.parts.now c.loop-part.part-index c.part-item.result c.loop-part-test.true c.part-item.is)
          (found.1 c.if-branch.false);
      left =
          c.loop-part.invariant.left
          ∙ part_new (λ part. part.now.items) c.args.parts.now c.loop-part.part-index c.part-item.result c.in_ok-add_new.field-0
          c.loop-part-test.true c.part-item.is found.0 c.if-branch.false;
    }
