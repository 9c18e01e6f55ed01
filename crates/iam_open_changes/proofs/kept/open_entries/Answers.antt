use Rattle.std.proofs.Common.{◌≡◌, ◌∙◌, ◌+◌, ◌++◌, ◌∷◌, [], All, List, arith, ap, map, subst, sym, take}
use Rattle.std.proofs.lemmas.List.{map-append}
use Rattle.iam_condition.specs.Entry.{EntryValue}
use Rattle.iam_context.specs.Context.{ContextValue}
use Rattle.iam_match.proofs.StatementLemmas.{all_taken}
use Rattle.iam_match.specs.Entry.{EntryHolds}
use Rattle.iam_open.specs.Code.Certain.{Tells}
use Rattle.iam_open.specs.Code.Known.{AgreeOn}
use Rattle.iam_open.specs.declared.certain.Certain.{Certain}
use Rattle.iam_open_changes.proofs.KeptLemmas.{some_never, suffice_always, suffice_open}
use Rattle.iam_open_changes.proofs.kept.open_entries.Goals as goal

pub returns-in-Never : goal.returns-in-Never
returns-in-Never c =
    let Are = AgreeOn c.args.known.now c.args.context.now in
    let entry = c.entry-item.result in
    some_never Are c.args.entries.now c.loop-entry.entry-index entry c.loop-entry-test.true c.entry-item.is
    (subst (λ (x : Certain). Tells x Are (λ other. EntryHolds other entry)) c.in-Never.is c.in_ok-entry_certain.ensures.told)

pub loop-entry-preserved-in-Always : goal.loop-entry-preserved-in-Always
loop-entry-preserved-in-Always c =
    let Are = AgreeOn c.args.known.now c.args.context.now in
    let entry = c.entry-item.result in
    suffice_always Are c.args.entries.now (map (λ it. it.now) c.loop-entry.left.items) c.loop-entry.entry-index entry c.loop-entry-test.true
    c.entry-item.is (subst (λ (x : Certain). Tells x Are (λ other. EntryHolds other entry)) c.in-Always.is c.in_ok-entry_certain.ensures.told)
    c.loop-entry.invariant

pub loop-entry-preserved : goal.loop-entry-preserved
loop-entry-preserved c =
    let Are = AgreeOn c.args.known.now c.args.context.now in
    let entries = c.args.entries.now in
    let i = c.loop-entry.entry-index in
    let entry = c.entry-item.result in
    let old : List EntryValue = map (λ it. it.now) c.loop-entry.left.items in
    let pushed : map (λ it. it.now) c.push.new.self.items ≡ old ++ entry ∷ [] =
    ap (map (λ it. it.now)) c.in_ok-push.ensures.items ∙ map-append (λ it. it.now) c.loop-entry.left.items _ in
    let P : List EntryValue → Type 0 = λ left. (other : ContextValue) → Are other → All (EntryHolds other) left
    → All (EntryHolds other) (take (i + 1) entries) in
    subst P (sym pushed) (suffice_open Are entries old i entry c.loop-entry-test.true c.entry-item.is c.loop-entry.invariant)

pub returns : goal.returns
returns c = λ other is holds.
    all_taken (EntryHolds other) c.args.entries.now c.loop-entry.entry-index (omega (arith, c.loop-entry-test.false))
    (c.loop-entry.invariant other is holds)
