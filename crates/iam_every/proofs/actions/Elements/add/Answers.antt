use Rattle.std.proofs.Common.{◌∷◌, [], ◌∙◌, Bor, Contains, IsSome, ap, arith, inl, inr, map, nat_cmp, subst}
use Rattle.std.proofs.lemmas.Grind.{common_steps}
use Rattle.std.proofs.lemmas.List.{map-append}
use Rattle.std.proofs.lemmas.List.Elements.{Contains-push_cases}
use Rattle.std.specs.BTreeMap.{get}
use Rattle.iam_element.specs.Reading.{ActionElement}
use Rattle.iam_every.specs.Elements.{elements_in, print_of}
use Rattle.iam_every.proofs.ElementLemmas.{adds_one, adds_same}
use Rattle.iam_every.proofs.actions.Elements.add.Goals as goal

pub returns-then-has-clause-adds : goal.returns-then-has-clause-adds
returns-then-has-clause-adds c = adds_same (elements_in c.args.self.now) c.args.element.now (c.has.ensures.0 c.if-has.true)

pub returns-clause-adds : goal.returns-clause-adds
returns-clause-adds c =
    let old = elements_in c.args.self.now in
    let element : ActionElement = c.args.element.now in
    let never : ¬ Contains old element = λ there. let yes = c.has.ensures.1 there in let no = c.if-has.false in let wrong : ⊥ = cc in wrong in
    adds_one old (map (λ (e : Bor ActionElement). e.now) c.push.new.self.items) element never
    (ap (map (λ (e : Bor ActionElement). e.now)) c.in_ok-push.ensures.items
    ∙ map-append (λ (e : Bor ActionElement). e.now) c.args.self.now.listed.items (c.args.element ∷ []))

pub returns-clause-prints : goal.returns-clause-prints
returns-clause-prints c = λ element among.
    let old = elements_in c.args.self.now in
    let own : ActionElement = c.args.element.now in
    let is = ap (map (λ (e : Bor ActionElement). e.now)) c.in_ok-push.ensures.items
    ∙ map-append (λ (e : Bor ActionElement). e.now) c.args.self.now.listed.items (c.args.element ∷ []) in
    elim (Contains-push_cases old own element (subst (λ l. Contains l element) is among)) [
      | inl before ↦ grind (arith, common_steps, c.requires element before)
      | inr same ↦
          subst (λ (x : ActionElement). IsSome (get nat_cmp c.insert.new.self (print_of 0 x.patterns))) same (grind (arith, common_steps))
    ]
