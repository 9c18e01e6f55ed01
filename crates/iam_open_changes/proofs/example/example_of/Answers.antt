use Rattle.iam_open_changes.proofs.example.example_of.Goals as goal

pub returns : goal.returns
returns c = λ one other was now before after. record {
  question = record {
    given = c.may_be_given.ensures.given c.if-not-may_be_given.false one other was now before after;
    clean_before = c.in_ok-is_clean_in.ensures c.if-not-branch.false one was before;
    clean_after = c.in_ok-is_clean_in-2.ensures c.if-not-branch-2.false other now after;
  };
  said = c.in_ok-before.ensures one was before;
  says = c.in_ok-after.ensures other now after;
  turned = c.is_turned.ensures c.if-not-is_turned.false;
}
