use Rattle.std.proofs.Common.{refl, sym, subst, arith}
use Rattle.iam_match.specs.Entry.{EntryHolds}
use Rattle.iam_match.proofs.CompareLemmas.{not_false}
use Rattle.iam_match.proofs.StatementLemmas.{one_more, all_taken}
use Rattle.iam_living.proofs.marks.all_hold.Goals as goal

pub returns-then-not-branch : goal.returns-then-not-branch
returns-then-not-branch c = (
  λ held. absurd (let wrong : ⊥ = cc in wrong),
  λ every.
      let P = EntryHolds c.args.context.now in
      let here : P c.entry-item.result = subst P (sym c.entry-item.is) (every c.loop-entry.entry-index c.entry-item.result c.loop-entry-test.true) in
      absurd (not_false c.in_ok-holds.field-0 c.if-not-branch.true (c.in_ok-holds.ensures.1 here)),
)

pub loop-entry-preserved : goal.loop-entry-preserved
loop-entry-preserved c =
    one_more (EntryHolds c.args.context.now) c.args.entries.now c.loop-entry.entry-index c.entry-item.result
    c.loop-entry-test.true c.entry-item.is c.loop-entry.invariant (c.in_ok-holds.ensures.0 c.if-not-branch.false)

pub returns : goal.returns
returns c =
    let all = all_taken (EntryHolds c.args.context.now) c.args.entries.now c.loop-entry.entry-index
    (omega (arith, c.loop-entry-test.false)) c.loop-entry.invariant in
    (λ held. all, λ every. refl)
