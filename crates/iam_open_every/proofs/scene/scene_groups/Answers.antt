use Rattle.std.proofs.Common.{None, option_map, ◌∙◌, List, ap, map, subst, sym}
use Rattle.std.proofs.lemmas.Result.{IfOk-weaker}
use Rattle.iam_decision.specs.Applicable.{value_of}
use Rattle.iam_decision.specs.Code.Scan.{placed_value}
use Rattle.iam_decision.specs.Matched.{Placed, placed}
use Rattle.iam_every.specs.Groups.{groups_of}
use Rattle.iam_match.specs.Statement.{AccessValue}
use Rattle.iam_open_every.specs.Concerned.{AreConcerned}
use Rattle.iam_open_every.specs.Groups.{AreOpenGroups}
use Rattle.iam_open_every.specs.Looked.{AreOpenGroupsAt}
use Rattle.iam_open.specs.Code.Tried.{AreKnownAt}
use Rattle.iam_context.specs.Context.{ContextValue}
use Rattle.iam_open_every.proofs.GroupLemmas.{beyond_among}
use Rattle.iam_open_every.proofs.LookedLemmas.{groups_seen, scene_looked, some_weaker}
use Rattle.iam_open_every.proofs.scene.scene_groups.Goals as goal

pub returns-clause-apart : goal.returns-clause-apart
returns-clause-apart c = λ unnamed text is.
    let world = c.args.scene.world.now in
    let p = c.args.scene.p in
    let context = c.args.context.now in
    let a = value_of c.applicable-applicable.result in
    let known = c.known-known.result in
    let looked : AccessValue = record { requester = c.requester.result.now; resource = c.text.result.now; context = context } in
    let found : List Placed = map placed_value c.as_slice-2.result.now in
    let at =
    scene_looked world p c.args.scene.target unnamed text a looked c.args.none.now.items known is c.requires.none c.requires.context c.known-known.ensures
    c.requester.ensures c.applicable-applicable.ensures.value in
    let were = subst (λ (xs : List Placed). AreConcerned looked known xs (map placed_value c.in_ok-found.found.items))
    (ap (map placed_value) c.as_slice.ensures.value ∙ c.in_ok-statements.ensures) c.in_ok-found.ensures in
    let are = subst (λ items. AreConcerned looked known (placed a) (map placed_value items)) (sym c.as_slice-2.ensures.value) were in
    IfOk-weaker c.open_groups.result _ _
    (λ o some.
    some_weaker (λ groups. AreOpenGroups known context found (groups_of groups.items)) (λ groups. AreOpenGroupsAt world p unnamed (groups_of groups.items))
    (λ groups tell action one other agree.
    c.agreeing_texts_are_turned_alike.ensures world p unnamed a looked known found (groups_of groups.items) action one other at are tell agree) o some)
    c.open_groups.ensures.alike

pub returns-clause-seen : goal.returns-clause-seen
returns-clause-seen c = λ other r seat.
    let context = c.args.context.now in
    let a = value_of c.applicable-applicable.result in
    let known = c.known-known.result in
    let looked : AccessValue = record { requester = c.requester.result.now; resource = c.text.result.now; context = context } in
    let found : List Placed = map placed_value c.as_slice-2.result.now in
    let were = subst (λ (xs : List Placed). AreConcerned looked known xs (map placed_value c.in_ok-found.found.items))
    (ap (map placed_value) c.as_slice.ensures.value ∙ c.in_ok-statements.ensures) c.in_ok-found.ensures in
    let are = subst (λ items. AreConcerned looked known (placed a) (map placed_value items)) (sym c.as_slice-2.ensures.value) were in
    let at = subst (λ (x : ContextValue). AreKnownAt other c.args.scene.p r x None known) c.requires.none (c.known-known.ensures other r seat) in
    let (derived, keys, own) = c.requires.context other r seat in
    IfOk-weaker c.open_groups.result _ _
    (λ o is. groups_seen (λ groups. groups_of groups.items) other c.args.scene.p r a looked known found (record {
      derived = derived;
      keys = keys;
      context = own;
      known_are = at;
      who = c.requester.ensures other r seat;
      applies = c.applicable-applicable.ensures.value other r seat;
    }) are o is)
    c.open_groups.ensures.are

pub returns-clause-beyond : goal.returns-clause-beyond
returns-clause-beyond c = λ other r seat.
    let context = c.args.context.now in
    let a = value_of c.applicable-applicable.result in
    let known = c.known-known.result in
    let looked : AccessValue = record { requester = c.requester.result.now; resource = c.text.result.now; context = context } in
    let found : List Placed = map placed_value c.as_slice-2.result.now in
    let were = subst (λ (xs : List Placed). AreConcerned looked known xs (map placed_value c.in_ok-found.found.items))
    (ap (map placed_value) c.as_slice.ensures.value ∙ c.in_ok-statements.ensures) c.in_ok-found.ensures in
    let are = subst (λ items. AreConcerned looked known (placed a) (map placed_value items)) (sym c.as_slice-2.ensures.value) were in
    let at = subst (λ (x : ContextValue). AreKnownAt other c.args.scene.p r x None known) c.requires.none (c.known-known.ensures other r seat) in
    let (derived, keys, own) = c.requires.context other r seat in
    IfOk-weaker c.open_groups.result _ _
    (λ o is none. (
      a,
      looked,
      known,
      record {
        derived = derived;
        keys = keys;
        context = own;
        known_are = at;
        who = c.requester.ensures other r seat;
        applies = c.applicable-applicable.ensures.value other r seat;
      },
      beyond_among looked known (placed a) found are (sym is ∙ ap (option_map (λ groups. groups_of groups.items)) none),
    ))
    c.open_groups.ensures.are
