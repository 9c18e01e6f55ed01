use Rattle.std.proofs.Common.{List, ℕ, Option, option_map, subst}
use Rattle.iam_match.specs.Requester.{username_of}
use Rattle.iam_open_changes.specs.Code.Same.{AreOfOneKind}
use Rattle.iam_open_changes.proofs.RequesterLemmas.{same_requester}
use Rattle.iam_open_changes.proofs.same.is_same_requester.Goals as goal

pub returns : goal.returns
returns c = λ t.
    let one = c.args.one.now in
    let other = c.args.other.now in
    let (partition, account, arn, name) = c.have_same_names.ensures c.if-not-have_same_names.false in
    let kind : AreOfOneKind (username_of one) (username_of other) =
    subst (λ (x : Option (List ℕ)). AreOfOneKind (username_of one) x) c.username-2.ensures
    (subst (λ (x : Option (List ℕ)). AreOfOneKind x (option_map (λ name. name.now) c.username-2.result)) c.username.ensures
    (c.are_of_one_kind.ensures t)) in
    same_requester one other partition account arn name kind
