use Rattle.std.proofs.Common.{◌∙◌, map, sym}
use Rattle.iam_context.proofs.Joining.{is_clean, joined_of}
use Rattle.iam_context.proofs.Shares.{shares_none}
use Rattle.iam_context.specs.Context.{all_of, keys_of}
use Rattle.iam_context.proofs.context.Context.join.Goals as goal

pub returns-then-some_derived-clause-fault : goal.returns-then-some_derived-clause-fault
returns-then-some_derived-clause-fault c = λ other. record {
  holds = sym c.some_derived.ensures ∙ c.if-some_derived.true;
  least = λ same. shares_none (keys_of (all_of (map (λ part. part.now.items) c.args.given.now))) ∙ sym c.in_ok-stand_twice.ensures ∙ c.if-branch.false;
}

pub returns-clause-ok : goal.returns-clause-ok
returns-clause-ok c = (
  joined_of (λ part. part.now.items) c.args.given.now c.in_ok-parts.parts.items c.push.new.self.items c.args.derived
      c.in_ok-parts.ensures.items c.in_ok-push.ensures.items,
  is_clean (all_of (map (λ part. part.now.items) c.args.given.now)) (sym c.in_ok-stand_twice.ensures ∙ c.if-branch.false) (sym c.some_derived.ensures ∙ c.if-some_derived.false),
)
