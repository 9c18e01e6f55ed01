use Rattle.std.proofs.Common.{◌≡◌, ◌<◌, List, [], ℕ, Bor, Bool, true, false, not, get_or, length, map, refl, sym, ◌∙◌, arith}
use Rattle.std.specs.HashSet.{contains_by}
use Rattle.std.specs.Str.{bytes_eq}
use Rattle.std.proofs.lemmas.List.{get_or-map, length-map}
use Rattle.iam_changes.proofs.TwiceTexts.{all_once, none_more, seen_more, stands_again, stands_first}
use Rattle.iam_changes.proofs.twice.first_again.Goals as goal

not_false : (b : Bool) → not b ≡ false → b ≡ true
not_false true e = refl
not_false false e = absurd (let wrong : ⊥ = cc in wrong)

not_true : (b : Bool) → not b ≡ true → b ≡ false
not_true true e = absurd (let wrong : ⊥ = cc in wrong)
not_true false e = refl

pub returns-then-not-branch : goal.returns-then-not-branch
returns-then-not-branch c =
    let now : Bor (List ℕ) → List ℕ = λ text. text.now in
    let none : Bor (List ℕ) = record { ref_ptr = (0, 0); now = [] } in
    let i = c.loop-n.n in
    let texts = map now c.args.texts.now in
    let key = (get_or c.args.texts.now i none).now in
    let count = length-map c.args.texts.now now in
    let known : contains_by (λ (k : Bor (List ℕ)). bytes_eq key k.now) c.loop-n.seen ≡ true = not_false _ (sym c.in_ok-insert.ensures.added ∙ c.if-not-branch.true) in (
      stands_again texts i key (omega (arith, c.loop-n-test.true, count)) (sym (get_or-map now c.args.texts.now i none key c.loop-n-test.true)) (sym (c.loop-n.invariant.0 key) ∙ known),
      c.loop-n.invariant.1,
    )

pub loop-n-preserved : goal.loop-n-preserved
loop-n-preserved c =
    let now : Bor (List ℕ) → List ℕ = λ text. text.now in
    let none : Bor (List ℕ) = record { ref_ptr = (0, 0); now = [] } in
    let i = c.loop-n.n in
    let texts = map now c.args.texts.now in
    let key = (get_or c.args.texts.now i none).now in
    let count = length-map c.args.texts.now now in
    let inside : i < length texts = omega (arith, c.loop-n-test.true, count) in
    let is = sym (get_or-map now c.args.texts.now i none key c.loop-n-test.true) in
    let old : List ℕ → Bool = λ q. contains_by (λ (k : Bor (List ℕ)). bytes_eq q k.now) c.loop-n.seen in
    let new : List ℕ → Bool = λ q. contains_by (λ (k : Bor (List ℕ)). bytes_eq q k.now) c.insert.new.self in
    let unknown : old key ≡ false = not_true _ (sym c.in_ok-insert.ensures.added ∙ c.if-not-branch.false) in (
      seen_more texts i key old new inside is c.loop-n.invariant.0 (λ q. c.in_ok-insert.ensures.updates.0 (record { ref_ptr = (0, 0); now = q })),
      none_more texts i c.loop-n.invariant.1 (stands_first texts i key inside is (sym (c.loop-n.invariant.0 key) ∙ unknown)),
    )

pub returns : goal.returns
returns c =
    let now : Bor (List ℕ) → List ℕ = λ text. text.now in
    let texts = map now c.args.texts.now in
    all_once texts c.loop-n.n (omega (arith, c.loop-n-test.false, length-map c.args.texts.now now)) c.loop-n.invariant.1
