use Rattle.std.proofs.Common.{◌≡◌, ◌<◌, ◌≤◌, ◌+◌, ◌-◌, ◌*◌, ◌^◌, [], ◌∷◌, Bool, Bor, ℕ, List, drop, length, refl, sym, ap, ◌∙◌, subst, arith}
use Rattle.std.proofs.Math.Nat.{pow-le-pow_right}
use Rattle.std.proofs.lemmas.Grind.{pow_more}
use Rattle.std.proofs.lemmas.List.{drop_all, drop_more}
use Rattle.std.proofs.lemmas.Nat.{pow_pos}
use Rattle.std.proofs.lemmas.Option.{get_or_from_slice_get}
use Rattle.std.proofs.lemmas.Slice.Zip.{AllZip-long}
use Rattle.iam_decision.specs.Living.{LivingValue}
use Rattle.iam_index.specs.Elements.{AreActs, TellActs}
use Rattle.iam_index.proofs.ListLemmas.{get_within}
use Rattle.iam_index.proofs.elements.signature.Goals as goal

pub loop-i-init : goal.loop-i-init
loop-i-init c = record {
  bound = pow_pos (length c.args.rows.now - length c.args.rows.now);
  bits = λ world living text rows asked.
      let R : LivingValue → Bor (List Bool) → Type 0 = λ s r. TellActs world s.action r.now in
      let count : length c.args.rows.now ≡ length living = AllZip-long R living c.args.rows.now rows in
      let none : drop (length c.args.rows.now) living ≡ [] = drop_all (length c.args.rows.now) living (omega (arith, count)) in
      let P : List LivingValue → Type 0 = λ rest. AreActs text rest 0 in
      subst P (sym none) refl;
}

pub with_act-word-requires : goal.with_act-word-requires
with_act-word-requires c =
    let n = length c.args.rows.now in
    let i = c.loop-i.i in
    let few : 2 ^ (n - i) ≤ 2 ^ 63 = pow-le-pow_right {n = 2} (omega arith) {i = n - i} {j = 63} (omega arith) in
    omega (arith, few, c.loop-i.invariant.bound)

pub loop-i-preserved : goal.loop-i-preserved
loop-i-preserved c =
    let n = length c.args.rows.now in
    let i = c.loop-i.i in
    let at = i - 1 in record {
      bound =
          let longer : n - at ≡ (n - i) + 1 = omega arith in
          let twice : 2 ^ (n - at) ≡ 2 ^ (n - i) * 2 = ap (λ (k : ℕ). 2 ^ k) longer ∙ pow_more 2 (n - i) in
          omega (arith, twice, c.with_act-word.ensures.bound, c.loop-i.invariant.bound);
      bits = λ world living text rows asked.
          let R : LivingValue → Bor (List Bool) → Type 0 = λ s r. TellActs world s.action r.now in
          let count : n ≡ length living = AllZip-long R living c.args.rows.now rows in
          let below : at < length living = omega (arith, count, c.loop-i-test.true) in
          let (s, there) = get_within living at below in
          let next : at + 1 ≡ i = omega (arith, c.loop-i-test.true) in
          let first : drop at living ≡ s ∷ drop i living =
          drop_more living at s below ∙ ap (λ (x : LivingValue). x ∷ drop (at + 1) living) (get_or_from_slice_get living at s s there)
          ∙ ap (λ (k : ℕ). s ∷ drop k living) next in
          let P : List LivingValue → Type 0 = λ rest. AreActs text rest c.with_act-word.result in
          subst P (sym first)
          (
          c.with_act-word.ensures.bits text s (drop i living) (c.in_ok-act_of.ensures world living s text rows there asked)
          (c.loop-i.invariant.bits world living text rows asked)
          );
    }

pub returns : goal.returns
returns c = λ world living text rows asked.
    let none : c.loop-i.i ≡ 0 = omega (arith, c.loop-i-test.false) in
    let P : ℕ → Type 0 = λ n. AreActs text (drop n living) c.loop-i.word in
    subst P none (c.loop-i.invariant.bits world living text rows asked)
