use Rattle.std.proofs.Common.{◌≡◌, ◌<◌, ◌∙◌, ◌++◌, [], ◌∷◌, ap, sym, subst, ℕ, List, map, true, false}
use Rattle.iam_kinds.specs.Code.{SameElements, group_goes_on, has_group, stepped}
use Rattle.iam_kinds.specs.Letters.{tails_of}
use Rattle.iam_kinds.specs.declared.table.Place.{Place}
use Rattle.iam_kinds.proofs.GoesLemmas.{goes_has, has_goes, has_same}
use Rattle.iam_kinds.proofs.NodeLemmas.{child_is, no_place}
use Rattle.iam_kinds.proofs.asked.Asked.child.Goals as goal

pub returns-then-not-goes_on_below-clause-none : goal.returns-then-not-goes_on_below-clause-none
returns-then-not-goes_on_below-clause-none c =
    let asked = c.args.self.now in
    let t = asked.table.now.patterns.items in
    let places = c.args.node.now.places.items in
    let letter = c.args.letter in
    no_place asked c.args.node.now (stepped t places letter) letter c.requires.ready c.requires.at (λ x. (λ h. h, λ h. h)) (λ all.
    let passed = c.goes_on_below.ensures.1 (λ g below.
    subst (λ l. group_goes_on t l letter g ≡ true) (sym c.deref.ensures.value)
    (has_goes t places letter g c.requires.ready.table c.requires.at.places_in (all g below))) in
    let wrong : true ≡ false = sym passed ∙ c.if-not-goes_on_below.true in cc)

pub returns-clause-at : goal.returns-clause-at
returns-clause-at c =
    let asked = c.args.self.now in
    let t = asked.table.now.patterns.items in
    let places = c.args.node.now.places.items in
    let letter = c.args.letter in
    let P : List Place → Type 0 = λ l. SameElements c.in_ok-places.places.items (stepped t l letter) in
    let same = subst P c.deref-2.ensures.value c.in_ok-places.ensures.same in
    let has : (g : ℕ) → g < asked.within → has_group t c.in_ok-places.places.items g ≡ true = λ g below.
    has_same t _ _ g same (goes_has t places letter g c.requires.ready.table c.requires.at.places_in
    (subst (λ l. group_goes_on t l letter g ≡ true) c.deref.ensures.value (c.goes_on_below.ensures.0 c.if-not-goes_on_below.false g below))) in
    let copied = c.in_ok-extend_from_slice.ensures.items ∙ ap (λ (l : List ℕ). l ++ c.deref-3.result.now) c.in_ok-text.ensures.items
    ∙ c.deref-3.ensures.value in
    let text = c.in_ok-push.ensures.items ∙ ap (λ (l : List ℕ). l ++ (letter ∷ [])) copied in
    let tails = c.in_ok-tails.ensures ∙ ap (λ l. tails_of letter (map (λ t. t.now) l)) c.deref-4.ensures.value in
    child_is asked c.args.node.now
    (record { text = c.push.new.self; stage = c.in-Some.stage; places = c.in_ok-places.places; tails = c.in_ok-tails.tails }) letter
    c.requires.ready c.requires.at text c.ranges.letter.0 (sym c.in-Some.ensures) c.in_ok-places.ensures.rising same has tails c.requires.letter
