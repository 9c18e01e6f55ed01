use Rattle.std.proofs.Common.{List}
use Rattle.iam_decision.specs.declared.scan.Standing.{Standing}
use Rattle.iam_index.specs.declared.lists.Listed.{Listed}
use Rattle.iam_index.specs.declared.lists.Org.{Org}
use Rattle.iam_index.proofs.NumberLemmas.{none_numbered}
use Rattle.iam_index.proofs.RowLemmas.{no_list_rows}
use Rattle.iam_index.proofs.index.Index.sparse.Goals as goal

pub invariant_of-result : goal.invariant_of-result
invariant_of-result c =
    let elements = c.in_ok-resources.ensures.right.elements_are in
    let known = c.resource_lists.new.elements.elements.items in
    let of_org : Org → List Standing = λ org. org.statements.items in
    let of_listed : Listed → List Standing = λ listed. listed.statements.items in
    let orgs = c.in_ok-orgs.orgs.orgs.items in
    let requesters = c.in_ok-requesters.requesters.items in
    let rows = c.new-5.result.rows.items in
    record {
      parts_are = c.in_ok-parts.ensures;
      elements_are = elements;
      orgs_are = c.in_ok-orgs.ensures.orgs;
      orgs_count = c.in_ok-orgs.ensures.count;
      requesters_are = c.in_ok-requesters.ensures.lists;
      requesters_count = c.in_ok-requesters.ensures.count;
      resources_are = c.in_ok-resources.ensures.lists;
      resources_count = c.in_ok-resources.ensures.count;
      org_acts_are = none_numbered of_org known orgs c.new-2.result.items c.new-2.ensures.items;
      requester_acts_are = none_numbered of_listed known requesters c.new-3.result.items c.new-3.ensures.items;
      resource_acts_are = none_numbered of_listed known c.in_ok-resources.resources.lists.items c.new-4.result.items c.new-4.ensures.items;
      rows_are = c.new-5.ensures c.args.world.now;
      org_rows_are = no_list_rows of_org rows orgs c.new-6.result.items c.new-6.ensures.items;
      requester_rows_are = no_list_rows of_listed rows requesters c.new-7.result.items c.new-7.ensures.items;
      columns_are = c.none.ensures c.args.world.now rows;
      given_are = tt;
    }
