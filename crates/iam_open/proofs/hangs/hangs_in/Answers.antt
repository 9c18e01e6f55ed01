use Rattle.std.proofs.Common.{◌≡◌, ◌∙◌, ◌∷◌, [], List, None, arith, refl, subst, sym}
use Rattle.std.proofs.lemmas.Result.{IfOk-weaker}
use Rattle.iam_decision.specs.Applicable.{ApplicableValue}
use Rattle.iam_decision.specs.Matched.{Placed, placed}
use Rattle.iam_layers.specs.Cell.{IsApplicableAt}
use Rattle.iam_open.specs.Code.Added.{AreListedIn}
use Rattle.iam_open.proofs.HangLemmas.{access_with, hangs_on, listed_at}
use Rattle.iam_open.proofs.ListedLemmas.{listed_same}
use Rattle.iam_open.proofs.SeatLemmas.{same_moment}
use Rattle.iam_open.proofs.WhereLemmas.{IsLookedAt}
use Rattle.iam_open.proofs.hangs.hangs_in.Goals as goal

pub returns-clause-keys : goal.returns-clause-keys
returns-clause-keys c =
    IfOk-weaker c.open_of.result _ _
    (λ hangs found other a r seat acts.
    let world = c.args.scene.world.now in
    let p = c.args.scene.p in
    let none = c.new-none.result.items in
    let derived = c.in_ok-derived.derived.items in
    let known = c.known-known.result in
    let base = c.in-Ok.context in
    let who = c.requester.result.now in
    let what = c.text.result.now in
    let does = c.args.action.now in
    let access = access_with who what base in
    let now : c.moment.result ≡ other.moment = c.moment.ensures.value ∙ sym (same_moment world c.args.scene.target other r seat) in
    let looked : IsLookedAt other p a r none base derived None c.moment.result known who what does = record {
      from = tt;
      clean = c.in-Ok.ensures.clean other r seat;
      keys = c.in_ok-derived.ensures other r seat;
      context = c.in-Ok.ensures.is other r seat;
      known_are = c.known-known.ensures other r seat;
      who = c.requester.ensures other r seat;
      what = c.text.ensures other r seat;
      does = acts;
    } in
    let here : (x : ApplicableValue) → IsApplicableAt other p r x → AreListedIn known access does (placed x) hangs.places.items hangs.keys.items =
    λ x applies.
    subst (λ (xs : List Placed). AreListedIn known access does xs hangs.places.items hangs.keys.items) (c.in_ok-statements.ensures other r x seat applies)
    (rw c.as_slice.ensures.value at found) in
    hangs_on c.one_stamp.ensures c.one_decision.ensures (other ∷ []) other p a r none base derived c.moment.result known who what does hangs.keys.items looked
    now (0, omega arith, refl) c.new-none.ensures.items
    (λ x applies. listed_same c.unasked_keys.ensures.conditions known access does (placed x) hangs.places.items hangs.keys.items (here x applies)))
    c.open_of.ensures

pub returns-clause-listed : goal.returns-clause-listed
returns-clause-listed c =
    IfOk-weaker c.open_of.result _ _
    (λ hangs found other a r seat acts.
    let world = c.args.scene.world.now in
    let p = c.args.scene.p in
    let none = c.new-none.result.items in
    let derived = c.in_ok-derived.derived.items in
    let known = c.known-known.result in
    let base = c.in-Ok.context in
    let who = c.requester.result.now in
    let what = c.text.result.now in
    let does = c.args.action.now in
    let access = access_with who what base in
    let now : c.moment.result ≡ other.moment = c.moment.ensures.value ∙ sym (same_moment world c.args.scene.target other r seat) in
    let looked : IsLookedAt other p a r none base derived None c.moment.result known who what does = record {
      from = tt;
      clean = c.in-Ok.ensures.clean other r seat;
      keys = c.in_ok-derived.ensures other r seat;
      context = c.in-Ok.ensures.is other r seat;
      known_are = c.known-known.ensures other r seat;
      who = c.requester.ensures other r seat;
      what = c.text.ensures other r seat;
      does = acts;
    } in
    let here : (x : ApplicableValue) → IsApplicableAt other p r x → AreListedIn known access does (placed x) hangs.places.items hangs.keys.items =
    λ x applies.
    subst (λ (xs : List Placed). AreListedIn known access does xs hangs.places.items hangs.keys.items) (c.in_ok-statements.ensures other r x seat applies)
    (rw c.as_slice.ensures.value at found) in
    listed_at c.one_stamp.ensures (other ∷ []) other p a r none base derived c.moment.result known who what does hangs.places.items hangs.keys.items looked
    now (0, omega arith, refl) c.new-none.ensures.items here)
    c.open_of.ensures
