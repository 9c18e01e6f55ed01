use Rattle.std.proofs.Common.{◌↔◌, ◌∙◌, All, IfOk, IsTrue, List, Option, ap, subst}
use Rattle.iam_match.specs.Entry.{EntryHolds}
use Rattle.iam_decision.specs.Code.Scan.{placed_value}
use Rattle.iam_decision.specs.declared.scan.Standing.{Standing}
use Rattle.iam_columns.specs.Slots.{Keeps}
use Rattle.iam_living.specs.declared.marks.Mark.{Mark}
use Rattle.iam_living.specs.declared.marks.Mark.TheVariants as mark
use Rattle.iam_living.proofs.MarkLemmas.{get_map, read_at, told_more}
use Rattle.iam_living.proofs.marks.conditions_hold.Goals as goal

pub returns-in-Some-Held-clause-held : goal.returns-in-Some-Held-clause-held
returns-in-Some-Held-clause-held c = λ p r derived standing at told there.
    let K : List (Option Mark) → Type 0 = λ slots. Keeps slots c.args.i (mark.Held c.in-Some-Held.held) in
    let M : Mark → Type 0 = λ m. Keeps c.as_slice.result.now c.args.i m in
    let kept = subst K c.as_slice.ensures.value (subst M c.in-Some-Held.field-0-is c.in-Some-Held.ensures.found) in
    told c.args.i c.in-Some-Held.held (placed_value standing) kept
    (get_map placed_value c.args.known.now.statements c.args.i standing there) r c.args.context.now at

pub returns-in-Some-Asks-clause-held : goal.returns-in-Some-Asks-clause-held
returns-in-Some-Asks-clause-held c = λ p r derived standing at told there.
    let found = c.index-statements-i.result in
    let same = read_at c.statements.result.now c.args.known.now.statements c.args.i found standing c.statements.ensures there in
    subst (λ entries. IfOk c.all_hold.result (λ held. IsTrue held ↔ All (EntryHolds c.args.context.now) entries))
    (c.conditions-entries.ensures ∙ ap (λ (s : Standing). s.statement.now.conditions) same) c.all_hold.ensures

pub returns-in_ok-held-in-None-clause-told : goal.returns-in_ok-held-in-None-clause-told
returns-in_ok-held-in-None-clause-told c = λ p r derived at told.
    let known = c.args.known.now in
    let found = c.index-statements-i.result in
    let held = c.in_ok-held-in-None.held in
    told_more known p r c.args.i derived c.args.context.now c.args.told.now.items c.keep.new.slots.items c.mark_of.result held at
    (λ standing there.
    let same = read_at c.statements.result.now known.statements c.args.i found standing c.statements.ensures there in
    subst (λ entries. IsTrue held ↔ All (EntryHolds c.args.context.now) entries)
    (c.conditions-entries.ensures ∙ ap (λ (s : Standing). s.statement.now.conditions) same) c.in_ok-held-in-None.ensures)
    c.mark_of.ensures c.keep.ensures.put c.keep.ensures.others c.keep.ensures.slots told

pub returns-in_ok-held-in-None-clause-held : goal.returns-in_ok-held-in-None-clause-held
returns-in_ok-held-in-None-clause-held c = λ p r derived standing at told there.
    let found = c.index-statements-i.result in
    let held = c.in_ok-held-in-None.held in
    let same = read_at c.statements.result.now c.args.known.now.statements c.args.i found standing c.statements.ensures there in
    subst (λ entries. IsTrue held ↔ All (EntryHolds c.args.context.now) entries)
    (c.conditions-entries.ensures ∙ ap (λ (s : Standing). s.statement.now.conditions) same) c.in_ok-held-in-None.ensures
