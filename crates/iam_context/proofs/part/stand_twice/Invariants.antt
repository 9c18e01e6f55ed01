use Rattle.std.proofs.Common.{◌≡◌, drop, map, take}
use Rattle.iam_context.specs.Keys.{HasKeys, shares}
use Rattle.iam_context.specs.Context.{all_of, has_twice, keys_of}
use Rattle.iam_context.proofs.part.stand_twice.Given as goal

-- the set has the keys so far, and what is left beside them decides
abbrev pub invariant-loop-part : goal.invariant-loop-part
invariant-loop-part l = record {
  known : HasKeys l.seen (keys_of (all_of (map (λ part. part.now.items) (take l.part-index l.parts))));
  left :
      has_twice (keys_of (all_of (map (λ part. part.now.items) l.parts)))
      ≡ shares (keys_of (all_of (map (λ part. part.now.items) (take l.part-index l.parts))))
      (keys_of (all_of (map (λ part. part.now.items) (drop l.part-index l.parts))));
}
