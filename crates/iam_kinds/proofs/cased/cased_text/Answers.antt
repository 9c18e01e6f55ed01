use Rattle.std.proofs.Common.{◌++◌, [], ◌∷◌, ◌∙◌, List, ℕ, ap, map, subst, sym, take}
use Rattle.std.specs.List.{Contains}
use Rattle.std.proofs.lemmas.List.{map-append, take_more}
use Rattle.iam_glob.specs.Glob.{folded}
use Rattle.iam_kinds.specs.Code.{SameElements, stepped}
use Rattle.iam_kinds.specs.Spelled.{IsCasedAt}
use Rattle.iam_kinds.specs.States.{IsPlace}
use Rattle.iam_kinds.specs.Walk.{IsCasedFor, machine_at}
use Rattle.iam_kinds.specs.declared.table.Place.{Place}
use Rattle.iam_kinds.proofs.CasedLemmas.{case_same}
use Rattle.iam_kinds.proofs.NodeLemmas.{starts_placed, step_placed}
use Rattle.iam_kinds.proofs.ReachLemmas.{AreExactly}
use Rattle.iam_kinds.proofs.SpelledLemmas.{each_more, each_none}
use Rattle.iam_kinds.proofs.cased.cased_text.Goals as goal

pub loop-letter-init : goal.loop-letter-init
loop-letter-init c =
    let placed = starts_placed c.args.asked.now c.in_ok-places.places.items c.requires.ready c.in_ok-places.ensures.same in record {
      same = ap (map folded) c.in_ok-cased.ensures.items;
      cased = each_none _ c.in_ok-cased.cased.items c.in_ok-cased.ensures.items;
      within = placed.0;
      rising = c.in_ok-places.ensures.rising;
      placed = placed.1;
    }

pub loop-letter-preserved : goal.loop-letter-preserved
loop-letter-preserved c =
    let m = machine_at c.args.asked.now in
    let t = c.args.asked.now.table.now.patterns.items in
    let own = c.args.own.now.patterns.items in
    let text = c.args.text.now in
    let i = c.loop-letter.letter-index in
    let letter = c.letter-item.result in
    let old = c.loop-letter.cased.items in
    let shown = c.cased_letter.result in
    let places = c.loop-letter.places.items in
    let more = take_more text i letter c.loop-letter-test.true ∙ ap (λ x. take i text ++ (x ∷ [])) (sym c.letter-item.is) in
    let Q : List Place → Type 0 = λ l. SameElements c.in_ok-places-2.places.items (stepped t l letter) in
    let next = step_placed c.args.asked.now
    (take i text) places c.in_ok-places-2.places.items letter c.requires.ready c.loop-letter.invariant.within
    c.loop-letter.invariant.placed (subst Q c.deref-in-loop-letter.ensures.value c.in_ok-places-2.ensures.same) in
    let P : List Place → Type 0 = λ l. IsCasedAt (Contains l) t own shown in
    let here = case_same (Contains places) (IsPlace m (take i text)) t own shown c.loop-letter.invariant.placed
    (subst P c.deref.ensures.value c.cased_letter.ensures.cased) in
    let last = subst (λ (b : List ℕ). IsCasedAt (IsPlace m b) t own shown) (sym c.loop-letter.invariant.same) here in record {
      same =
          ap (map folded) c.in_ok-push.ensures.items ∙ map-append folded old (shown ∷ [])
          ∙ ap (λ l. l ++ (folded shown ∷ [])) c.loop-letter.invariant.same
          ∙ ap (λ x. take i text ++ (x ∷ [])) c.cased_letter.ensures.same ∙ sym more;
      cased =
          subst (IsCasedFor c.args.asked.now own) (sym c.in_ok-push.ensures.items)
          (each_more (λ before d. IsCasedAt (IsPlace m (map folded before)) t own d) old shown c.loop-letter.invariant.cased last);
      within = next.0;
      rising = c.in_ok-places-2.ensures.rising;
      placed = subst (λ (l : List ℕ). AreExactly m l c.in_ok-places-2.places.items) (sym more) next.1;
    }
