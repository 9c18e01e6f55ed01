use Rattle.std.proofs.Common.{sym}
use Rattle.iam_kinds.proofs.GoLemmas.{at_slice, below_one, if_both_fit, if_fits, tried_none, tried_one}
use Rattle.iam_kinds.proofs.walk.Walk.go.Goals as goal

pub child-requires : goal.child-requires
child-requires c = record {
  ready = c.requires.ready;
  at = c.requires.walk.nodes c.index.result.now (c.args.head, c.requires.head, sym c.index.ensures);
  letter = c.requires.letter c.index.result.now
      (at_slice c.args.self.now.nodes.items c.args.head c.index.result.now c.requires.head (sym c.index.ensures));
}

pub returns-in-Some-clause-tried : goal.returns-in-Some-clause-tried
returns-in-Some-clause-tried c =
    if_both_fit c.put.result (λ grows met.
    tried_one c.args.asked.now c.args.self.now c.put.new.self c.args.head c.index.result.now c.in-Some.child c.args.letter c.requires.head (sym c.index.ensures)
    (rw c.in-Some.is at c.in_ok-child.ensures.text) grows met) c.put.ensures.grows c.put.ensures.met

pub returns-in-None-clause-tried : goal.returns-in-None-clause-tried
returns-in-None-clause-tried c =
    tried_none c.args.asked.now c.args.self.now c.args.head c.index.result.now c.args.letter (sym c.index.ensures)
    (rw c.in-None.is at c.in_ok-child.ensures.none)

pub returns-in-Some-clause-only : goal.returns-in-Some-clause-only
returns-in-Some-clause-only c =
    if_fits c.put.result (λ only.
    below_one c.args.self.now c.put.new.self c.args.head c.index.result.now c.in-Some.child c.args.letter (sym c.index.ensures)
    (rw c.in-Some.is at c.in_ok-child.ensures.text) only) c.put.ensures.only
