use Rattle.std.proofs.Common.{◌≡◌, ◌∙◌, subst, sym, true}
use Rattle.std.proofs.lemmas.Result.{IfOk-weaker}
use Rattle.iam_match.specs.Entry.{EntryHolds}
use Rattle.iam_open.specs.Asks.{entry_keys, is_beyond}
use Rattle.iam_open.specs.Code.Certain.{Tells}
use Rattle.iam_open.specs.Code.Known.{AgreeOn}
use Rattle.iam_open.specs.declared.certain.Certain.{Certain}
use Rattle.iam_open.proofs.AgreeLemmas.{entry_same}
use Rattle.iam_open.proofs.AskLemmas.{entry_asks, if_open}
use Rattle.iam_open.proofs.CertainLemmas.{tells_known}
use Rattle.iam_open.proofs.entry.entry_certain.Goals as goal

pub returns-then-entry_beyond-clause-asks : goal.returns-then-entry_beyond-clause-asks
returns-then-entry_beyond-clause-asks c =
    let asks = entry_asks c.args.known.now c.args.context.now c.args.entry.now (sym c.entry_beyond.ensures ∙ c.if-entry_beyond.true) in
    IfOk-weaker c.beyond_certain.result _ _
    (λ certain told. if_open certain (is_beyond c.args.known.now (entry_keys c.args.entry.now) ≡ true) asks) c.beyond_certain.ensures.told

pub returns-clause-told : goal.returns-clause-told
returns-clause-told c =
    let known = c.args.known.now in
    let context = c.args.context.now in
    let entry = c.args.entry.now in
    let held = c.in_ok-holds.ensures in
    let free = sym c.entry_beyond.ensures ∙ c.if-entry_beyond.false in
    subst (λ (x : Certain). Tells x (AgreeOn known context) (λ other. EntryHolds other entry)) (sym c.of.ensures)
    (tells_known c.in_ok-holds.field-0 (AgreeOn known context) (λ other. EntryHolds other entry)
    (λ other agree.
    let same = entry_same c.unasked_keys.ensures.conditions known context other agree entry free in
    (λ t. same.0 (held.0 t), λ e. held.1 (same.1 e))))
