use Rattle.std.proofs.Common.{List, sym, subst}
use Rattle.iam_index.specs.Elements.{AreElements}
use Rattle.iam_index.specs.declared.elements.Element.{Element}
use Rattle.iam_index.proofs.ElementLemmas.{elements_more}
use Rattle.iam_index.proofs.elements.Elements.add.Goals as goal

pub returns-clause-right : goal.returns-clause-right
returns-clause-right c = λ world is right.
    let P : List Element → Type 0 = AreElements world in record {
      elements_are = subst P (sym c.in-Ok.ensures.items) (elements_more world c.args.self.now.elements.items c.args.element is right.elements_are);
      services_are = right.services_are;
    }

pub returns-in-Err-clause-right : goal.returns-in-Err-clause-right
returns-in-Err-clause-right c = λ world is right.
    let P : List Element → Type 0 = AreElements world in record {
      elements_are = subst P (sym c.in-Err.ensures.items) right.elements_are;
      services_are = right.services_are;
    }
