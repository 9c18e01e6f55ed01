use Rattle.std.proofs.Common.{[], ◌∷◌, map, ap, ◌∙◌, arith}
use Rattle.std.specs.Mem.Slots.{slots_items}
use Rattle.crossbeam_deque.specs.Handles.{stealer_deque}
use Rattle.iam_work.specs.Code.MarkRule.{MarkRule}
use Rattle.iam_work.specs.Code.Words.{state_of}
use Rattle.iam_work.specs.Code.Closing.{set_below}
use Rattle.iam_work.proofs.Closing.{known, once, inside, found, counted}
use Rattle.iam_work.proofs.work.Work.close.Goals as goal
use Rattle.iam_work.proofs.work.Work.close.Goals.{After-drop-self-inside}

-- the rule, of the one view in which all seats stand
rule : (c : After-drop-self-inside) → MarkRule c.args.self.grains c.args.self.seats (state_of (slots_items c.close_with-closed.result.words) (c.gather-pass.result.me.0 ∷ []))
rule c =
    let pass = c.gather-pass.result in
    let closed = c.close_with-closed.result in
    let count = c.gather-pass.ensures.gathered.count in
    let few = c.requires.count in
    known c.self.inside.table.shared.key c.self.inside.plan c.self.invariant.0 c.self.inside.table.shared.table_id (map stealer_deque c.self.inside.thieves.items) c.args.self c.self.view_is
    pass.id pass.me.0 (slots_items closed.words) (slots_items closed.slots) c.close_with-closed.ensures.values.2 (omega arith)

pub returns-clause-once : goal.returns-clause-once
returns-clause-once c =
    once (slots_items c.close_with-closed.result.words) c.args.self.grains c.args.self.seats c.gather-pass.result.me.0 c.args.seats.items (rule c) c.gather-pass.ensures.gathered

pub returns-clause-inside : goal.returns-clause-inside
returns-clause-inside c =
    inside (slots_items c.close_with-closed.result.words) c.args.self.grains c.args.self.seats c.gather-pass.result.me.0 c.args.seats.items (rule c) c.gather-pass.ensures.gathered

pub returns-clause-found : goal.returns-clause-found
returns-clause-found c =
    found (slots_items c.close_with-closed.result.words) c.args.self.grains c.args.self.seats c.gather-pass.result.me.0 c.args.seats.items (rule c) c.gather-pass.ensures.gathered

pub returns-clause-count : goal.returns-clause-count
returns-clause-count c =
    let words = slots_items c.close_with-closed.result.words in
    c.count_marked-marked.ensures ∙ ap (λ w. set_below w.grains words) c.self.view_is
    ∙ counted words c.args.self.grains c.args.self.seats c.gather-pass.result.me.0 c.args.seats.items (rule c) c.gather-pass.ensures.gathered c.args.self.grains
