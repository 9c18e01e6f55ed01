use Rattle.std.proofs.Common.{◌≡◌, All, List, arith, false, ℕ, subst, sym, take, ◌+◌}
use Rattle.std.specs.List.{flat_map}
use Rattle.iam_condition.specs.Entry.{EntryValue}
use Rattle.iam_context.specs.Context.{ContextValue}
use Rattle.iam_match.specs.Entry.{EntryHolds}
use Rattle.iam_open.specs.Asks.{entry_keys, is_beyond}
use Rattle.iam_open.specs.Code.Certain.{Tells, UnlessNever}
use Rattle.iam_open.specs.Code.Known.{Follows}
use Rattle.iam_open.specs.declared.certain.Certain.{Certain}
use Rattle.iam_open.proofs.AskLemmas.{Asks, all_ask, asks_taken}
use Rattle.iam_open.proofs.CertainLemmas.{tells_all_more, tells_taken_all}
use Rattle.iam_open.proofs.ClosedLemmas.{closed_more, closed_taken}
use Rattle.iam_open.proofs.entry.conditions_certain.Goals as goal

abbrev IsClosed : List (List ℕ) → ContextValue → EntryValue → Type 0
IsClosed known context entry = is_beyond known (entry_keys entry) ≡ false → EntryHolds context entry

pub loop-entry-preserved : goal.loop-entry-preserved
loop-entry-preserved c =
    let Are = Follows c.args.known.now c.args.context.now in
    let entries = c.args.entries.now in
    let i = c.loop-entry.entry-index in
    record {
      told = subst (λ (x : Certain). Tells x Are (λ other. All (EntryHolds other) (take (i + 1) entries))) (sym c.and-certain.ensures)
          (tells_all_more (λ other entry. EntryHolds other entry) Are entries i c.entry-item.result c.loop-entry.certain c.in_ok-entry_from.field-0
          c.loop-entry-test.true c.entry-item.is c.loop-entry.invariant.told c.in_ok-entry_from.ensures.told);
      asks = subst (λ (x : Certain). Asks c.args.known.now x (flat_map entry_keys (take (i + 1) entries))) (sym c.and-certain.ensures)
          (all_ask entry_keys c.args.known.now entries i c.entry-item.result c.loop-entry.certain c.in_ok-entry_from.field-0
          c.loop-entry-test.true c.entry-item.is c.loop-entry.invariant.asks c.in_ok-entry_from.ensures.asks);
      closed = subst (λ (x : Certain). UnlessNever x (All (IsClosed c.args.known.now c.args.context.now) (take (i + 1) entries)))
          (sym c.and-certain.ensures)
          (closed_more (IsClosed c.args.known.now c.args.context.now) entries i c.entry-item.result c.loop-entry.certain
          c.in_ok-entry_from.field-0 c.loop-entry-test.true c.entry-item.is c.loop-entry.invariant.closed c.in_ok-entry_from.ensures.closed);
    }

pub returns : goal.returns
returns c =
    record {
      told = tells_taken_all (λ other entry. EntryHolds other entry) (Follows c.args.known.now c.args.context.now) c.args.entries.now
          c.loop-entry.entry-index c.loop-entry.certain (omega (arith, c.loop-entry-test.false)) c.loop-entry.invariant.told;
      asks = asks_taken entry_keys c.args.known.now c.args.entries.now c.loop-entry.entry-index c.loop-entry.certain (omega (arith, c.loop-entry-test.false))
          c.loop-entry.invariant.asks;
      closed = closed_taken (IsClosed c.args.known.now c.args.context.now) c.args.entries.now c.loop-entry.entry-index c.loop-entry.certain
          (omega (arith, c.loop-entry-test.false)) c.loop-entry.invariant.closed;
    }
