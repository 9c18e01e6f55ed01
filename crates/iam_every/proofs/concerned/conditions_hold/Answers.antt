use Rattle.std.proofs.Common.{All, arith, refl, sym, subst}
use Rattle.std.proofs.lemmas.List.{take_all}
use Rattle.std.proofs.lemmas.List.Elements.{All-more}
use Rattle.iam_match.specs.Entry.{EntryHolds}
use Rattle.iam_every.proofs.concerned.conditions_hold.Goals as goal

pub returns-then-not-branch : goal.returns-then-not-branch
returns-then-not-branch c = (
  λ held. absurd (let wrong : ⊥ = cc in wrong),
  λ every.
      let P = EntryHolds c.args.context.now in
      let here : P c.entry-item.result = subst P (sym c.entry-item.is) (every c.loop-entry.entry-index c.entry-item.result c.loop-entry-test.true) in
      let holds = c.in_ok-holds.ensures.1 here in
      absurd (let wrong : ⊥ = cc in wrong),
)

pub loop-entry-preserved : goal.loop-entry-preserved
loop-entry-preserved c =
    let P = EntryHolds c.args.context.now in
    All-more P c.args.entries.now c.loop-entry.entry-index c.entry-item.result c.loop-entry-test.true c.loop-entry.invariant
    (subst P c.entry-item.is (c.in_ok-holds.ensures.0 c.if-not-branch.false))

pub returns : goal.returns
returns c =
    let all = subst (λ entries. All (EntryHolds c.args.context.now) entries)
    (take_all c.loop-entry.entry-index c.args.entries.now (omega (arith, c.loop-entry-test.false))) c.loop-entry.invariant in
    (λ held. all, λ every. refl)
