use Rattle.std.proofs.Common.{◌≡◌, ℕ, ◌+◌, ◌<◌, ◌≤◌, [], ◌∷◌, length, get_or, ap, ◌∙◌, subst, arith}
use Rattle.std.specs.Mem.Slots.{slots_items}
use Rattle.iam_lanes.specs.Code.LaneRule.{LaneRule}
use Rattle.iam_lanes.specs.Code.Words.{state_of}
use Rattle.iam_lanes.specs.Lanes.{offers_by, no_cell}
use Rattle.iam_lanes.specs.Code.Closing.{passed_below}
use Rattle.iam_lanes.proofs.Calls.{some_at, some_if, none_at, none_below}
use Rattle.iam_lanes.proofs.Closing.{known, once, inside, every, ended, looked, word_is, bound_offered, bound_below, bound_proper}
use Rattle.iam_lanes.proofs.lanes.Lanes.close.Goals as goal
use Rattle.iam_lanes.proofs.lanes.Lanes.close.Goals.{After-drop-plan}

-- the rule, of the one view in which all seats stand
rule : (c : After-drop-plan) → LaneRule c.args.self.lengths c.args.self.seats (state_of (slots_items c.close_with-closed.result.words) (c.gather-pass.result.me.0 ∷ []))
rule c =
    let pass = c.gather-pass.result in
    let closed = c.close_with-closed.result in
    let count = c.gather-pass.ensures.gathered.count in
    let few = c.requires.count in
    let ok = c.args.seats.ok.0 in
    known c.self.inside.table.shared.key c.self.inside.plan c.self.invariant.0 c.self.inside.table.shared.table_id c.args.self c.self.view_is
    pass.id pass.me.0 (slots_items closed.words) (slots_items closed.slots) c.close_with-closed.ensures.values.2 (omega arith)

pub returns-clause-once : goal.returns-clause-once
returns-clause-once c lane n =
    once c.args.self.lengths (slots_items c.close_with-closed.result.words) c.args.self.seats c.gather-pass.result.me.0 c.args.seats.items (rule c) c.gather-pass.ensures.gathered lane n

pub returns-clause-inside : goal.returns-clause-inside
returns-clause-inside c =
    inside c.args.self.lengths (slots_items c.close_with-closed.result.words) c.args.self.seats c.gather-pass.result.me.0 c.args.seats.items (rule c) c.gather-pass.ensures.gathered

pub returns-clause-all : goal.returns-clause-all
returns-clause-all c =
    every c.args.self.lengths (slots_items c.close_with-closed.result.words) c.args.self.seats c.gather-pass.result.me.0 c.args.seats.items (rule c) c.gather-pass.ensures.gathered

pub returns-clause-ended : goal.returns-clause-ended
returns-clause-ended c =
    let words = slots_items c.close_with-closed.result.words in
    let same = c.as_slice.ensures.value ∙ ap (λ l. l.lengths) c.self.view_is in
    c.count_ended-ended.ensures ∙ ap (λ ls. passed_below (length ls) words ls) same
    ∙ ended c.args.self.lengths words c.args.self.seats c.gather-pass.result.me.0 c.args.seats.items (rule c) c.gather-pass.ensures.gathered (length c.args.self.lengths)

pub returns-clause-looks : goal.returns-clause-looks
returns-clause-looks c =
    looked c.args.self.lengths (slots_items c.close_with-closed.result.words) c.args.self.seats c.gather-pass.result.me.0 c.args.seats.items (rule c) c.gather-pass.ensures.gathered

-- the word of the bound
bound_is : (c : After-drop-plan) → get_or (slots_items c.close_with-closed.result.words) 0 0 ≡ c.word.result
bound_is c = word_is (slots_items c.close_with-closed.result.words) 0 c.word.result c.word.ensures

-- no offer is below the bound
least : (c : After-drop-plan) → (other : ℕ) → 0 < offers_by other c.args.seats.items → c.word.result ≤ other
least c other offered =
    let e = bound_is c in
    let b = bound_below c.args.self.lengths (slots_items c.close_with-closed.result.words) c.args.self.seats c.gather-pass.result.me.0 c.args.seats.items (rule c) c.gather-pass.ensures.gathered other offered in
    omega arith

-- where the bound says so, no cell was offered
none_offered : (c : After-drop-plan) → c.word.result ≡ no_cell → (cell : ℕ) → offers_by cell c.args.seats.items ≡ 0
none_offered c none_yet cell =
    none_below (cell + 1) cell (offers_by cell c.args.seats.items)
    (λ offered.
    let l = least c cell offered in
    let p = bound_proper c.args.self.lengths (slots_items c.close_with-closed.result.words) c.args.self.seats c.gather-pass.result.me.0 c.args.seats.items (rule c) c.gather-pass.ensures.gathered cell offered in
    absurd (omega arith))
    (omega arith)

pub returns-clause-least : goal.returns-clause-least
returns-clause-least c =
    some_at c.cell_of-low.result c.word.result (λ cell. (other : ℕ) → 0 < offers_by other c.args.seats.items → cell ≤ other) c.cell_of-low.ensures.some (least c)

pub returns-clause-low : goal.returns-clause-low
returns-clause-low c =
    let words = slots_items c.close_with-closed.result.words in
    some_if c.cell_of-low.result c.word.result (λ cell. cell < no_cell) (λ cell. 0 < offers_by cell c.args.seats.items) c.cell_of-low.ensures.some c.cell_of-low.ensures.cell
    (λ proper. let P : ℕ → Type 0 = λ cell. 0 < offers_by cell c.args.seats.items in let e = bound_is c in
    subst P e (bound_offered c.args.self.lengths words c.args.self.seats c.gather-pass.result.me.0 c.args.seats.items (rule c) c.gather-pass.ensures.gathered (omega arith)))

pub returns-clause-none : goal.returns-clause-none
returns-clause-none c =
    none_at c.cell_of-low.result (c.word.result ≡ no_cell) ((cell : ℕ) → offers_by cell c.args.seats.items ≡ 0) c.cell_of-low.ensures.none
    (none_offered c)
