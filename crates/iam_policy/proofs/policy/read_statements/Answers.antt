use Rattle.std.proofs.Common.{ℕ, ◌≡◌, ◌+◌, ◌∙◌, ap, List, Some, None, refl, sym, subst, arith, take}
use Rattle.std.specs.List.{AllZip, slice_get}
use Rattle.serde_json.specs.View.{view}
use Rattle.iam_policy.specs.Code.First.{HasLeast}
use Rattle.iam_policy.specs.Code.Sids.{HasSids}
use Rattle.iam_policy.specs.Statement.{sid_of}
use Rattle.iam_policy.specs.Fault.{sids_before, statements_in}
use Rattle.iam_policy.specs.Reading.{ReadsStatement, StatementValue}
use Rattle.iam_policy.specs.Version.{version_of}
use Rattle.iam_text.specs.declared.version.Version.{Version}
use Rattle.iam_policy.proofs.ElementLemmas.{item_at, filter_map_next}
use Rattle.iam_policy.proofs.FaultLaws.{faultless_more, fault_not_memory}
use Rattle.iam_policy.proofs.ReadingLemmas.{readable, zip_more}
use Rattle.iam_policy.proofs.policy.read_statements.Goals as goal

pub returns-in-Some-clause-first : goal.returns-in-Some-clause-first
returns-in-Some-clause-first c = λ _.
    let d = view c.args.document.now in
    let i = c.loop-number.number in
    let s = view c.of-statement.result in
    let noted = c.in_ok-repeats.ensures (sids_before d i) c.loop-number.invariant.sids in (
      i,
      refl,
      record {
        before = c.loop-number.invariant.clean;
        statement = s;
        at = item_at view c.statements_in-value-items.result.now (statements_in d) i c.value-item.result c.statements_in-value-items.ensures c.loop-number-test.true c.value-item.is ∙ ap (λ v. Some (view v)) (sym c.of-statement.ensures);
        fault_is = record { bad = c.in_ok-bad_value.bad_value; decides = c.in_ok-bad_value.ensures; least = sym (c.statement_fault.ensures d i record { version = c.version_of-version.ensures; repeats = noted.0 }) ∙ c.in-Some.is };
      },
    )

pub returns-in-Some-clause-memory : goal.returns-in-Some-clause-memory
returns-in-Some-clause-memory c = λ memory.
    let d = view c.args.document.now in
    let i = c.loop-number.number in
    let noted = c.in_ok-repeats.ensures (sids_before d i) c.loop-number.invariant.sids in
    absurd (fault_not_memory c.args.kind d i (view c.of-statement.result) c.in_ok-bad_value.bad_value c.in-Some.fault (sym (c.statement_fault.ensures d i record { version = c.version_of-version.ensures; repeats = noted.0 }) ∙ c.in-Some.is) memory)

pub add-requires : goal.add-requires
add-requires c =
    let d = view c.args.document.now in
    let i = c.loop-number.number in
    let noted = c.in_ok-repeats.ensures (sids_before d i) c.loop-number.invariant.sids in
    rw c.version_of-version.ensures
    (readable c.args.kind d i (view c.of-statement.result)
    record { bad = c.in_ok-bad_value.bad_value; decides = c.in_ok-bad_value.ensures; least = sym (c.statement_fault.ensures d i record { version = c.version_of-version.ensures; repeats = noted.0 }) ∙ c.in_default.is })

pub loop-number-preserved : goal.loop-number-preserved
loop-number-preserved c =
    let d = view c.args.document.now in
    let i = c.loop-number.number in
    let s = view c.of-statement.result in
    let at : slice_get (statements_in d) i ≡ Some s =
    item_at view c.statements_in-value-items.result.now (statements_in d) i c.value-item.result c.statements_in-value-items.ensures c.loop-number-test.true c.value-item.is ∙ ap (λ v. Some (view v)) (sym c.of-statement.ensures) in
    let noted = c.in_ok-repeats.ensures (sids_before d i) c.loop-number.invariant.sids in
    let clean : HasLeast c.args.kind d i s None =
    record { bad = c.in_ok-bad_value.bad_value; decides = c.in_ok-bad_value.ensures; least = sym (c.statement_fault.ensures d i record { version = c.version_of-version.ensures; repeats = noted.0 }) ∙ c.in_default.is } in
    let added = c.in_ok-add.ensures.items in record {
      sids = let P : List (List ℕ) → Type 0 = λ sids. HasSids c.note_sid.new.sids sids in subst P (sym (filter_map_next sid_of (statements_in d) i s at)) noted.1;
      clean = faultless_more c.args.kind d i s c.loop-number.invariant.clean at clean;
      read =
          let P : List StatementValue → Type 0 = λ ys. AllZip (ReadsStatement (version_of d)) (take (i + 1) (statements_in d)) ys in
          subst P (sym added.added)
          (zip_more (ReadsStatement (version_of d)) (statements_in d) i s c.loop-number.read.items added.statement at c.loop-number.invariant.read (subst (λ (v : Version). ReadsStatement v s added.statement) c.version_of-version.ensures added.reads));
      len = omega (arith, c.in_ok-add.ensures.len, c.loop-number.invariant.len);
    }
