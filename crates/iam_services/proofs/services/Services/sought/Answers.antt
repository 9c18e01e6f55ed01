use Rattle.std.proofs.Common.{◌≡◌, ◌∙◌, List, ℕ, Some, ap, sym, subst}
use Rattle.std.proofs.lemmas.Option.{slice_get-get_or}
use Rattle.std.specs.Global.{Vec}
use Rattle.std.specs.List.{slice_get}
use Rattle.iam_services.specs.Services.{TriesMatched}
use Rattle.iam_services.proofs.ServiceLemmas.{tries_slot}
use Rattle.iam_services.proofs.services.Services.sought.Goals as goal

pub returns : goal.returns
returns c = λ actions are.
    let signs = c.args.pattern.now in
    let numbers = c.in_ok-get.field-0.now in
    let (_, first, _, (inside, _), _) = c.in_ok-get.ensures.lookup in
    let S : List (Vec ℕ) → Type 0 = λ slots. slice_get slots c.in_ok-slot.slot ≡ Some numbers in
    let there = subst S c.deref.ensures.value (slice_get-get_or c.deref.result.now c.in_ok-slot.slot numbers inside ∙ ap Some (sym first)) in
    let T : List ℕ → Type 0 = TriesMatched actions signs in
    subst T (sym c.as_slice.ensures.value)
    (tries_slot actions c.args.self.now signs c.in_ok-slot.slot numbers c.in_ok-slot.ensures there are)
