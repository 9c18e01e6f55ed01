use Rattle.std.proofs.Common.{◌<◌, List, length, sym, subst, arith}
use Rattle.std.proofs.lemmas.Option.{slice_get_within}
use Rattle.iam_decision.specs.declared.scan.Standing.{Standing}
use Rattle.iam_world.specs.World.{WorldValue}
use Rattle.iam_index.specs.Index.{ListsResource}
use Rattle.iam_index.proofs.index.Index.resource_statements.Goals as goal

pub number-requires : goal.number-requires
number-requires c =
    let N : WorldValue → Type 0 = λ w. c.args.r < length w.resources in
    let there = subst N (sym c.self.view_is) c.requires in
    omega (arith, there, c.self.invariant.resources_count)

pub statements-requires : goal.statements-requires
statements-requires c =
    let lists = c.self.inside.resources.lists.items in
    let (listed, at, is) = c.self.invariant.resources_are c.args.r c.number.result c.number.ensures in
    slice_get_within lists c.number.result listed at

pub returns : goal.returns
returns c =
    let r = c.args.r in
    let (listed, at, is) = c.self.invariant.resources_are r c.number.result c.number.ensures in
    let W : WorldValue → Type 0 = λ w. ListsResource w r c.statements.result.now in
    let L : List Standing → Type 0 = ListsResource c.self.inside.world.now r in
    subst W c.self.view_is (subst L (sym (c.statements.ensures listed at)) is)
