use Rattle.std.proofs.Common.{sym}
use Rattle.serde_json.specs.View.{view}
use Rattle.iam_policy.specs.Code.Sids.{contains_str}
use Rattle.iam_policy.proofs.SidLemmas.{repeats_filled, repeats_empty, noted}
use Rattle.iam_policy.proofs.sids.note_sid.Goals as goal

pub returns-then-not-is_empty : goal.returns-then-not-is_empty
returns-then-not-is_empty c = λ earlier has.
    let s = view c.args.statement.now in
    let sid = c.in-Some.sid in
    let found = contains_str c.args.sids.now sid.now in (
      repeats_filled earlier s sid.now found c.in_ok-is_new-in-Some.is_new c.in-Some.ensures (has sid.now) c.in_ok-is_new-in-Some.ensures.added
          (sym c.if-not-is_empty.ensures),
      noted c.args.sids.now c.insert.new.self sid s earlier c.in-Some.ensures has c.in_ok-is_new-in-Some.ensures.updates,
    )

pub returns-else-not-is_empty : goal.returns-else-not-is_empty
returns-else-not-is_empty c = λ earlier has.
    let s = view c.args.statement.now in
    let sid = c.in-Some.sid in
    let found = contains_str c.args.sids.now sid.now in (
      repeats_empty earlier s sid.now found c.is_empty.result c.in-Some.ensures (has sid.now) c.is_empty.ensures c.if-not-is_empty.false,
      noted c.args.sids.now c.insert.new.self sid s earlier c.in-Some.ensures has c.in_ok-is_new-in-Some.ensures.updates,
    )
