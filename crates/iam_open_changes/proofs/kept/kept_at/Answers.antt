use Rattle.std.proofs.Common.{None}
use Rattle.std.proofs.lemmas.Result.{IfOk-weaker}
use Rattle.iam_open.proofs.WhereLemmas.{IsLookedAt}
use Rattle.iam_open_changes.specs.Code.Kept.{AreKept}
use Rattle.iam_open_changes.specs.declared.numbers.Numbers.{Numbers}
use Rattle.iam_open_changes.proofs.KeptLemmas.{kept_at}
use Rattle.iam_open_changes.proofs.SideLemmas.{of_request}
use Rattle.iam_open_changes.proofs.kept.kept_at.Goals as goal

pub returns : goal.returns
returns c =
    let request = c.args.request in
    let p = request.scene.p in
    let none = c.new-none.result.items in
    let base = c.in-Ok.context in
    let derived = c.in_ok-derived.derived.items in
    let known = c.known-known.result in
    let who = c.requester.result.now in
    let what = c.text.result.now in
    let action = request.action.now in
    IfOk-weaker c.kept_of.result _ _
    (λ kept are.
    of_request (λ other at. AreKept other at kept.items) request
    (λ other a r seat does.
    let at : Numbers = record { principal = p; action = a; resource = r } in
    let looked : IsLookedAt other p a r none base derived None c.moment.result known who what action = record {
      from = tt;
      clean = c.in-Ok.ensures.clean other r seat;
      keys = c.in_ok-derived.ensures other r seat;
      context = c.in-Ok.ensures.is other r seat;
      known_are = c.known-known.ensures other r seat;
      who = c.requester.ensures other r seat;
      what = c.text.ensures other r seat;
      does = does;
    } in
    kept_at c.one_stamp.ensures other at none base derived c.moment.result known who what action _ _ looked c.new-none.ensures.items
    (λ x applies. rw c.as_slice.ensures.value (c.in_ok-statements.ensures other r x seat applies)) are))
    c.kept_of.ensures
