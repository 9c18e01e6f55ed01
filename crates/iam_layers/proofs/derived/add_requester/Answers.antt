use Rattle.std.proofs.Common.{codes}
use Rattle.std.proofs.lemmas.Result.{on_ok_weaker}
use Rattle.iam_match.specs.Requester.{requester_arn, username_of}
use Rattle.iam_layers.specs.Derived.{key, username_key, word_of}
use Rattle.iam_layers.proofs.DerivedLemmas.{four_appended}
use Rattle.iam_layers.proofs.derived.add_requester.Goals as goal

pub returns : goal.returns
returns c =
    let r = c.args.requester.now in
    on_ok_weaker c.add-3.result
    (λ last.
    four_appended c.args.keys.now.items c.add.new.keys.items c.add_username.new.keys.items c.add-2.new.keys.items c.add-3.new.keys.items
    (key (codes "aws:PrincipalArn") (requester_arn r)) (username_key (username_of r)) (key (codes "aws:PrincipalType") (word_of (username_of r)))
    (key (codes "aws:PrincipalAccount") r.account) (rw c.arn.ensures at c.in_ok-add.ensures) (rw c.username-username.ensures at c.in_ok-add_username.ensures)
    (rw (c.type_word.ensures, c.username-username.ensures) at c.in_ok-add-2.ensures) (rw c.account.ensures at last))
    c.add-3.ensures
