use Rattle.std.proofs.Common.{Bool, List, Option, sym, subst}
use Rattle.iam_columns.specs.Slots.{Keeps}
use Rattle.iam_living.specs.Asker.{IsAsker}
use Rattle.iam_living.proofs.AskerLemmas.{concerns_more, has_list, has_number, none_concern}
use Rattle.iam_living.proofs.asking.Asking.none_concerns.Goals as goal

pub number-n-requires : goal.number-n-requires
number-n-requires c =
    let (world, p, asker, below) = c.requires in
    has_number world p c.args.r c.self.inside.asker (subst (IsAsker world p) (sym c.self.view_is) asker) below

pub returns-in-Some-clause-none : goal.returns-in-Some-clause-none
returns-in-Some-clause-none c = λ world p asker yes.
    let n = c.number-n.result in
    let inside = c.self.inside in
    let K : List (Option Bool) → Type 0 = λ slots. Keeps slots n c.in-Some.none in
    let B : Bool → Type 0 = Keeps inside.concerns.items n in
    let kept = subst B yes (subst K c.as_slice.ensures.value c.in-Some.ensures.found) in
    none_concern world p c.args.r n inside.asker (subst (IsAsker world p) (sym c.self.view_is) asker) c.number-n.ensures
    (λ listed there. c.self.invariant.1 n listed kept there)

pub none_concerns-none-requires : goal.none_concerns-none-requires
none_concerns-none-requires c =
    let (world, p, asker, below) = c.requires in
    has_list world p c.args.r c.number-n.result c.self.inside.asker (subst (IsAsker world p) (sym c.self.view_is) asker) c.number-n.ensures

pub invariant_of-self : goal.invariant_of-self
invariant_of-self c = (
  c.self.invariant.0,
  concerns_more c.self.inside.asker c.number-n.result c.self.inside.concerns.items c.keep.new.slots.items c.none_concerns-none.result
      c.none_concerns-none.ensures c.keep.ensures.put c.keep.ensures.others c.keep.ensures.slots c.self.invariant.1,
)

pub returns-clause-none : goal.returns-clause-none
returns-clause-none c = λ world p asker yes.
    none_concern world p c.args.r c.number-n.result c.self.inside.asker (subst (IsAsker world p) (sym c.self.view_is) asker) c.number-n.ensures
    (λ listed there. c.none_concerns-none.ensures listed there yes)
