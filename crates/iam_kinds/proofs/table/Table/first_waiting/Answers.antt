use Rattle.std.proofs.Common.{List, subst, sym}
use Rattle.std.specs.List.{Contains}
use Rattle.std.proofs.lemmas.List.{take_all}
use Rattle.iam_kinds.specs.Code.{place_at}
use Rattle.iam_kinds.specs.declared.table.Place.{Place}
use Rattle.iam_kinds.proofs.CasedLemmas.{first_place}
use Rattle.iam_kinds.proofs.table.Table.first_waiting.Goals as goal

pub returns-then-is_waited_at-clause-some : goal.returns-then-is_waited_at-clause-some
returns-then-is_waited_at-clause-some c =
    first_place c.args.self.now.patterns.items c.args.places.now c.loop-place.place-index c.args.letter (place_at 0 0) c.requires.rising
    c.loop-place-test.true (rw c.if-is_waited_at.true at c.is_waited_at.ensures) c.loop-place.invariant

pub returns-clause-none : goal.returns-clause-none
returns-clause-none c = λ k h.
    c.loop-place.invariant k
    (subst (λ (l : List Place). Contains l k) (sym (take_all c.loop-place.place-index c.args.places.now c.loop-place-test.false)) h)
