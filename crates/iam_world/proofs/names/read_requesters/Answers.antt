use Rattle.std.proofs.Common.{refl}
use Rattle.iam_shape.specs.Lent.{principal_of}
use Rattle.iam_world.specs.WorldFault.{IsNoRequester, IsRequesterAt}
use Rattle.iam_shape.specs.declared.path.Name.TheVariants.{Principals}
use Rattle.iam_shape.specs.declared.path.Path.TheVariants.{Item}
use Rattle.iam_world.proofs.Firsts.{at_here, at_later}
use Rattle.iam_world.proofs.Walks.{zip_more}
use Rattle.iam_world.proofs.names.read_requesters.Goals as goal

pub returns-in_default-clause-fault : goal.returns-in_default-clause-fault
returns-in_default-clause-fault c = λ other.
    let path = Item Principals c.loop-i.i in
    let none = rw c.in_default.is at c.in_ok-requester.ensures in (
      path,
      refl,
      c.loop-i.invariant.first path
          (at_here IsNoRequester (Item Principals) principal_of c.args.principals.now c.loop-i.i c.index-principals-i.result c.loop-i-test.true
          c.index-principals-i.is none),
    )

pub loop-i-preserved : goal.loop-i-preserved
loop-i-preserved c =
    let ps = c.args.principals.now in
    let i = c.loop-i.i in
    let p = c.index-principals-i.result in
    let r = c.in-Some.requester in
    let is : IsRequesterAt (principal_of p) r = rw c.in-Some.is at c.in_ok-requester.ensures in
    record {
      read =
          rw c.in_ok-push.ensures.items
          (zip_more IsRequesterAt principal_of ps i p c.loop-i.requesters.items r c.loop-i-test.true c.index-principals-i.is c.loop-i.invariant.read is);
      first = λ path later.
          c.loop-i.invariant.first path
          (at_later IsNoRequester (Item Principals) principal_of ps i p c.loop-i-test.true c.index-principals-i.is (λ none. none r is) path later);
    }
