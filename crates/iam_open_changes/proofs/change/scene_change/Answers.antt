use Rattle.iam_open_changes.proofs.change.scene_change.Goals as goal

pub told_of-requires-clause-excluded : goal.told_of-requires-clause-excluded
told_of-requires-clause-excluded c = λ t one other was now before after. (c.in_ok-excluded.ensures one other was now before after).gains t

pub told_of-requires-2-clause-excluded : goal.told_of-requires-2-clause-excluded
told_of-requires-2-clause-excluded c = λ t one other was now before after. (c.in_ok-excluded.ensures one other was now before after).losses t

pub returns : goal.returns
returns c = λ one other was now before after. record {
  gained = c.in_ok-gained.ensures one other was now before after;
  lost = c.in_ok-lost.ensures one other was now before after;
}
