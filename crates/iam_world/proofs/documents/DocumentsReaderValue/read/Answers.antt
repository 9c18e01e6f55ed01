use Rattle.std.proofs.Common.{◌≡◌, inl, ◌+◌, length, refl, ap, subst, arith, rules}
use Rattle.serde_json.specs.View.{view}
use Rattle.iam_policy.specs.Fault.{statements_in}
use Rattle.iam_policy.specs.declared.fault.Fault.TheVariants.{OutOfMemory}
use Rattle.iam_world.specs.Code.Documents.{Leaves, document_at}
use Rattle.iam_world.proofs.Walks.{zip_length}
use Rattle.iam_world.proofs.documents.DocumentsReaderValue.read.Goals as goal

pub returns-in-Ok-clause-cleared : goal.returns-in-Ok-clause-cleared
returns-in-Ok-clause-cleared c =
    let reads = c.in-Ok.ensures.ok in
    let d = view c.args.document.now in
    let many : length (statements_in d) ≡ length c.in-Ok.policy.statements = zip_length _ _ c.in-Ok.policy.statements reads.statements in
    let lent : length c.statements.result.now ≡ length c.in-Ok.policy.statements = ap length c.statements.ensures.value in
    record {
      accepted = ((λ off. off reads.accepted), tt);
      counted = λ total leaves.
          let sum : total + length c.statements.result.now ≡ total + (0 + length (statements_in d)) = omega (arith, many, lent) in
          subst (Leaves c.count.new.self) sum (c.count.ensures total leaves);
    }

pub returns-in-Err-2-clause-fault : goal.returns-in-Err-2-clause-fault
returns-in-Err-2-clause-fault c = λ other.
    let kept : ¬ (c.in-Err.refused.fault ≡ OutOfMemory) = search rules in
    let least = c.in-Err.ensures.least kept in (
      c.path.result,
      c.in-Err.refused,
      refl,
      (document_at c.args.self.now c.args.i (view c.args.document.now), inl ((λ accepted. accepted _ _ least.holds), refl), c.path.ensures, least),
    )
