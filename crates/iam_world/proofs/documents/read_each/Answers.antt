use Rattle.std.proofs.Common.{take}
use Rattle.std.proofs.lemmas.Result.{err_from_is_err_and}
use Rattle.iam_shape.specs.Shape.{each}
use Rattle.iam_world.proofs.DocumentLemmas.{cleared_append, cleared_nil, each_next, each_refused}
use Rattle.iam_world.proofs.Walks.{zip_whole}
use Rattle.iam_world.proofs.documents.read_each.Goals as goal

pub returns-in_err-read-clause-fault : goal.returns-in_err-read-clause-fault
returns-in_err-read-clause-fault g c =
    let p = err_from_is_err_and c.from_residual.result c.from_residual.ensures.1 in
    rw (p.1, p.2)
    (
    λ other.
    each_refused (g.L.Reader.documents c.args.layer.now) c.args.list.now c.loop-i.i c.index-list-i.result c.in_err-read.field-0.0 c.loop-i-test.true c.index-list-i.is
    c.loop-i.invariant.cleared.accepted (c.in_err-read.ensures.fault other)
    )

pub loop-i-init : goal.loop-i-init
loop-i-init g c = record { read = rw c.new-read.ensures.items tt; cleared = cleared_nil c.args.budget.now }

pub loop-i-preserved : goal.loop-i-preserved
loop-i-preserved g c =
    let docs = g.L.Reader.documents c.args.layer.now in
    let list = c.args.list.now in
    let i = c.loop-i.i in
    let x = c.index-list-i.result in
    record {
      read =
          rw c.in_ok-push.ensures.items
          (zip_whole (g.L.Reader.reads c.args.layer.now) list i x c.loop-i.read.items c.in_ok-read.field-0 c.loop-i-test.true c.index-list-i.is c.loop-i.invariant.read
          c.in_ok-read.ensures.ok);
      cleared =
          rw (each_next docs list i x c.loop-i-test.true c.index-list-i.is)
          (cleared_append (each docs 0 (take i list)) (docs i x) c.args.budget.now c.loop-i.budget c.read.new.budget c.loop-i.invariant.cleared
          c.in_ok-read.ensures.cleared);
    }
