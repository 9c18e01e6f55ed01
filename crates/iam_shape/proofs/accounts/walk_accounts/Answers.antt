use Rattle.std.proofs.Common.{◌≡◌, ◌∙◌, ◌+◌, ◌++◌, [], ◌∷◌, ap, length, map, take, subst, sym}
use Rattle.std.specs.List.{filter_map}
use Rattle.std.proofs.lemmas.List.{length_push, map-append}
use Rattle.std.proofs.lemmas.Result.{err_from_is_err_and}
use Rattle.serde_json.specs.View.{view}
use Rattle.iam_shape.specs.Texts.{AreFirstPlaces}
use Rattle.iam_shape.specs.Lent.{account_of}
use Rattle.iam_shape.specs.Shape.{account_checks, each, text_at}
use Rattle.iam_shape.specs.View.{AccountViewValue, IsAccountView}
use Rattle.iam_shape.specs.declared.path.Name.TheVariants.{Id}
use Rattle.iam_shape.proofs.AccountIds.{earlier_ids, id_count}
use Rattle.iam_shape.proofs.Walks.{each_here, each_later, shape_fault_from, zip_more_of}
use Rattle.iam_shape.proofs.accounts.walk_accounts.Goals as goal

pub returns-in_err-walk_account-clause-path : goal.returns-in_err-walk_account-clause-path
returns-in_err-walk_account-clause-path c =
    let vs = c.args.accounts.now in
    let i = c.loop-i.i in
    let account = c.index-accounts-i.result in
    let checks = account_checks (map view vs) in
    let ids = filter_map (text_at Id) (take i (map view vs)) in
    let earlier = earlier_ids view vs i (map account_of c.loop-i.views.items) c.loop-i.invariant.said in
    let known : AreFirstPlaces c.loop-i.ids ids = subst (AreFirstPlaces c.loop-i.ids) earlier c.loop-i.invariant.known in
    let number : i ≡ length ids = sym (ap length (sym earlier) ∙ id_count account_of c.loop-i.views.items ∙ c.loop-i.invariant.count) in
    let p = err_from_is_err_and c.from_residual-in_err-walk_account.result c.from_residual-in_err-walk_account.ensures.1 in
    rw (p.1, p.2)
    (
    λ other.
    shape_fault_from (checks i (view account)) (each checks 0 (map view vs))
    (λ path bad. c.loop-i.invariant.left ∙ each_here view checks vs i account path c.loop-i-test.true c.index-accounts-i.is bad)
    c.in_err-walk_account.field-0.0 (c.in_err-walk_account.ensures ids known number other)
    )

pub loop-i-preserved : goal.loop-i-preserved
loop-i-preserved c =
    let vs = c.args.accounts.now in
    let i = c.loop-i.i in
    let views = c.loop-i.views.items in
    let account = c.index-accounts-i.result in
    let found = c.in_ok-walk_account.field-0 in
    let ids = filter_map (text_at Id) (take i (map view vs)) in
    let earlier = earlier_ids view vs i (map account_of views) c.loop-i.invariant.said in
    let known : AreFirstPlaces c.loop-i.ids ids = subst (AreFirstPlaces c.loop-i.ids) earlier c.loop-i.invariant.known in
    let number : i ≡ length ids = sym (ap length (sym earlier) ∙ id_count account_of views ∙ c.loop-i.invariant.count) in
    let walked = c.in_ok-walk_account.ensures ids known number in
    record {
      count = rw c.in_ok-push.ensures.items (length_push views found ∙ ap (λ n. n + 1) c.loop-i.invariant.count);
      left =
          c.loop-i.invariant.left
          ∙ each_later view (account_checks (map view vs)) vs i account c.loop-i-test.true c.index-accounts-i.is walked.0;
      said =
          rw c.in_ok-push.ensures.items
          (zip_more_of IsAccountView view account_of vs i account views found c.loop-i-test.true c.index-accounts-i.is c.loop-i.invariant.said walked.1.0);
      known =
          rw (c.in_ok-push.ensures.items, map-append account_of views _, map-append (λ (account : AccountViewValue). account.id) (map account_of views) _)
          (subst (λ ids. AreFirstPlaces c.walk_account.new.ids (ids ++ (found.id.now ∷ []))) (sym earlier) walked.1.1);
    }
