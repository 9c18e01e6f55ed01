use Rattle.std.specs.List.{Contains}
use Rattle.std.specs.List.Sorted.{IsStrictlyIncreasing}
use Rattle.std.proofs.lemmas.List.Elements.{Contains-append_left, Contains-append_right}
use Rattle.iam_kinds.specs.Kinds.{IsBefore}
use Rattle.iam_kinds.proofs.OrderLemmas.{before_last}
use Rattle.std.proofs.Common.{List, ℕ, ◌++◌, [], ◌∷◌, ◌∙◌, ap, arith, refl, sym, subst, take}
use Rattle.std.proofs.lemmas.List.{take_all, take_more}
use Rattle.iam_kinds.specs.Walk.{IsTried}
use Rattle.iam_kinds.proofs.GoLemmas.{at_after, at_before, grown_length, rising_less, grows_none, grows_on, tried_all, tried_both, tried_more, tried_nothing}
use Rattle.iam_kinds.proofs.walk.Walk.expand.Goals as goal

pub loop-letter-init : goal.loop-letter-init
loop-letter-init c = record {
  walk = c.requires.walk;
  seen = c.requires.seen;
  grows = grows_none c.args.self.now c.args.self.now refl;
  tried = tried_nothing c.args.asked.now c.args.self.now c.args.head;
  only = λ node at text below before. below;
}

pub go-requires : goal.go-requires
go-requires c = record {
  ready = c.requires.ready;
  walk = c.loop-letter.invariant.walk;
  seen = c.loop-letter.invariant.seen;
  head = (let g = grown_length c.args.self.now c.loop-letter.self c.loop-letter.invariant.grows in let h = c.requires.head in omega (arith, g, h));
  letter = λ node at.
      let items = c.deref-letter-items.result.now in
      let letter = c.letter-item.result in
      let first = at_before c.args.self.now c.loop-letter.self c.args.head node c.requires.head c.loop-letter.invariant.grows at in
      let here : Contains items letter = (c.loop-letter.letter-index, c.loop-letter-test.true, sym c.letter-item.is) in
      (c.in_ok-letters.ensures.letters node first letter).0
      (subst (λ (l : List ℕ). Contains l letter) c.deref-letter-items.ensures.value here);
  below = λ node at.
      let items = c.deref-letter-items.result.now in
      let i = c.loop-letter.letter-index in
      let letter = c.letter-item.result in
      let first = at_before c.args.self.now c.loop-letter.self c.args.head node c.requires.head c.loop-letter.invariant.grows at in
      let rising = subst IsStrictlyIncreasing (sym c.deref-letter-items.ensures.value) c.in_ok-letters.ensures.rising in
      c.loop-letter.invariant.only node first (node.text.items ++ (letter ∷ [])) (c.requires.below node first letter)
      (λ d h. before_last node.text.items d letter (rising_less items i letter d rising c.loop-letter-test.true (sym c.letter-item.is) h));
}

pub loop-letter-preserved : goal.loop-letter-preserved
loop-letter-preserved c =
    let old = c.loop-letter.self in
    let new = c.go.new.self in
    let items = c.deref-letter-items.result.now in
    let i = c.loop-letter.letter-index in
    let letter = c.letter-item.result in
    let grows = rw c.if-not-branch.false at c.in_ok-go.ensures.grows in
    let longer = grown_length c.args.self.now old c.loop-letter.invariant.grows in
    let head = c.requires.head in
    let more = take_more items i letter c.loop-letter-test.true ∙ ap (λ x. take i items ++ (x ∷ [])) (sym c.letter-item.is) in record {
      walk = rw c.if-not-branch.false at c.in_ok-go.ensures.walk;
      seen = rw c.if-not-branch.false at c.in_ok-go.ensures.seen;
      grows = grows_on c.args.self.now old new c.loop-letter.invariant.grows grows;
      tried =
          subst (IsTried c.args.asked.now new c.args.head) (sym more)
          (tried_both c.args.asked.now new c.args.head (take i items) letter
          (tried_more c.args.asked.now old new c.args.head (take i items) (omega (arith, longer, head)) grows c.loop-letter.invariant.tried)
          (rw c.if-not-branch.false at c.in_ok-go.ensures.tried));
      only = λ node at text below before.
          let after = at_after c.args.self.now old c.args.head node head c.loop-letter.invariant.grows at in
          let all = subst (λ (l : List ℕ). (d : ℕ) → Contains l d → IsBefore (node.text.items ++ (d ∷ [])) text) more before in
          (rw c.if-not-branch.false at c.in_ok-go.ensures.only) node after text
          (c.loop-letter.invariant.only node at text below (λ d h. all d (Contains-append_left (take i items) (letter ∷ []) d h)))
          (λ d h. all d (Contains-append_right (take i items) (letter ∷ []) d h));
    }

pub returns-clause-only : goal.returns-clause-only
returns-clause-only c = λ node at text below before. c.loop-letter.invariant.only node at text below (λ d h. before d)

pub returns-clause-expanded : goal.returns-clause-expanded
returns-clause-expanded c =
    tried_all c.args.asked.now c.args.self.now c.loop-letter.self c.in_ok-letters.letters.items c.args.head c.requires.head c.loop-letter.invariant.grows
    c.in_ok-letters.ensures.tries c.in_ok-letters.ensures.letters
    (subst (IsTried c.args.asked.now c.loop-letter.self c.args.head)
    (take_all c.loop-letter.letter-index c.deref-letter-items.result.now c.loop-letter-test.false ∙ c.deref-letter-items.ensures.value) c.loop-letter.invariant.tried)
