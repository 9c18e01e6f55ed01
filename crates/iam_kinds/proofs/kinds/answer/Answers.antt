use Rattle.std.proofs.Common.{map, ap, subst, sym, ◌∙◌}
use Rattle.iam_kinds.specs.Shown.{AreKinds}
use Rattle.iam_kinds.proofs.AskedLemmas.{found_kinds, found_past}
use Rattle.iam_kinds.proofs.kinds.answer.Goals as goal

pub returns-in_ok-strings_of-in-Some : goal.returns-in_ok-strings_of-in-Some
returns-in_ok-strings_of-in-Some c q asks = (
  subst (AreKinds q) (sym (c.in_ok-strings_of-in-Some.ensures ∙ ap (λ l. map (λ t. t.items) l) c.as_slice.ensures.value))
      (found_kinds c.args.asked.now q (map (λ t. t.items) c.in-Some.texts.items) asks (rw c.in-Some.is at c.in_ok-texts.ensures.some)
      (rw c.in-Some.is at c.in_ok-texts.ensures.least)),
  λ past. (rw c.in-Some.is at c.in_ok-texts.ensures.within) ((found_past c.args.asked.now q asks).1 past),
)

pub returns-in-None : goal.returns-in-None
returns-in-None c q asks = (found_past c.args.asked.now q asks).0 (rw c.in-None.is at c.in_ok-texts.ensures.none)
