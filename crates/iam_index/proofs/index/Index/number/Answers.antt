use Rattle.std.proofs.Common.{List, subst}
use Rattle.iam_index.specs.Numbers.{AreAllNumbered}
use Rattle.iam_index.specs.declared.lists.Listed.{Listed}
use Rattle.iam_index.specs.declared.lists.Org.{Org}
use Rattle.iam_index.proofs.index.Index.number.Goals as goal

pub invariant_of-self : goal.invariant_of-self
invariant_of-self c =
    let own = c.self.invariant in
    let elements = c.self.inside.elements.elements.items in
    let O : List Org → Type 0 = λ orgs. AreAllNumbered (λ org. org.statements.items) elements orgs c.in_ok-orgs.orgs.items in
    let P : List Listed → Type 0 = λ lists. AreAllNumbered (λ listed. listed.statements.items) elements lists c.in_ok-requesters.requesters.items in
    let R : List Listed → Type 0 = λ lists. AreAllNumbered (λ listed. listed.statements.items) elements lists c.in_ok-resources.resources.items in
    record {
      parts_are = own.parts_are;
      elements_are = own.elements_are;
      orgs_are = own.orgs_are;
      orgs_count = own.orgs_count;
      requesters_are = own.requesters_are;
      requesters_count = own.requesters_count;
      resources_are = own.resources_are;
      resources_count = own.resources_count;
      org_acts_are = subst O c.as_slice.ensures.value c.in_ok-orgs.ensures;
      requester_acts_are = subst P c.as_slice-2.ensures.value c.in_ok-requesters.ensures;
      resource_acts_are = subst R c.as_slice-3.ensures.value c.in_ok-resources.ensures;
      rows_are = own.rows_are;
      org_rows_are = own.org_rows_are;
      requester_rows_are = own.requester_rows_are;
      columns_are = own.columns_are;
      given_are = own.given_are;
    }
