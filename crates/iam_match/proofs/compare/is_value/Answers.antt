use Rattle.iam_match.proofs.GivenLemmas.{given_equals, given_match}
use Rattle.iam_match.proofs.compare.is_value.Goals as goal

pub returns-clause-equals : goal.returns-clause-equals
returns-clause-equals c = given_equals c.args.value.now c.args.text.now c.eq.result c.utf8.value c.utf8.text c.eq.ensures

pub returns-clause-matches : goal.returns-clause-matches
returns-clause-matches c = given_match c.args.value.now c.args.text.now c.eq.result c.utf8.value c.utf8.text c.eq.ensures
