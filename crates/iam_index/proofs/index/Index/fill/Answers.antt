use Rattle.std.proofs.Common.{List, subst}
use Rattle.iam_decision.specs.declared.scan.Standing.{Standing}
use Rattle.iam_index.specs.Rows.{AreListRows}
use Rattle.iam_index.specs.declared.lists.Listed.{Listed}
use Rattle.iam_index.specs.declared.lists.Org.{Org}
use Rattle.iam_index.proofs.RowLemmas.{list_rows_grow}
use Rattle.iam_index.proofs.index.Index.fill.Goals as goal

pub invariant_of-self : goal.invariant_of-self
invariant_of-self c =
    let own = c.self.invariant in
    let first = c.org_rows-orgs.new.rows.rows.items in
    let rows = c.requester_rows-requesters.new.rows.rows.items in
    let (more, grown) = c.requester_rows-requesters.ensures.more in
    let of_org : Org → List Standing = λ org. org.statements.items in
    let of_listed : Listed → List Standing = λ listed. listed.statements.items in
    let O : List Org → Type 0 = λ orgs. AreListRows of_org first orgs c.org_rows-orgs.result.items in
    let R : List Listed → Type 0 = λ lists. AreListRows of_listed rows lists c.requester_rows-requesters.result.items in
    let orgs = subst O c.as_slice.ensures.value c.org_rows-orgs.ensures.are in
    record {
      parts_are = own.parts_are;
      elements_are = own.elements_are;
      orgs_are = own.orgs_are;
      orgs_count = own.orgs_count;
      requesters_are = own.requesters_are;
      requesters_count = own.requesters_count;
      resources_are = own.resources_are;
      resources_count = own.resources_count;
      org_acts_are = own.org_acts_are;
      requester_acts_are = own.requester_acts_are;
      resource_acts_are = own.resource_acts_are;
      rows_are = c.requester_rows-requesters.ensures.right (c.org_rows-orgs.ensures.right (c.new-rows.ensures c.self.inside.world.now));
      org_rows_are = list_rows_grow of_org first more rows c.self.inside.orgs.orgs.items c.org_rows-orgs.result.items grown orgs;
      requester_rows_are = subst R c.as_slice-2.ensures.value c.requester_rows-requesters.ensures.are;
      columns_are = c.of.ensures (c.requester_rows-requesters.ensures.right (c.org_rows-orgs.ensures.right (c.new-rows.ensures c.self.inside.world.now)));
      given_are = c.given_keys.ensures;
    }
