use Rattle.std.proofs.Common.{◌≡◌, ◌<◌, [], ◌∙◌, ℕ, List, get_or, length, map, ap, arith, sym}
use Rattle.std.proofs.lemmas.List.{get_or-map, length-map}
use Rattle.iam_glob.specs.declared.sign.Sign.{Sign}
use Rattle.iam_every.specs.Groups.{signs_of}
use Rattle.iam_every.specs.declared.pattern.Pattern.{Pattern}
use Rattle.iam_every_changes.proofs.distinct.have_same.Goals as goal

same_at : (ones others : List Pattern) (i : ℕ) (a b : Pattern) → i < length ones → i < length others → a ≡ get_or ones i a → b ≡ get_or others i b
    → map signs_of ones ≡ map signs_of others → signs_of a ≡ signs_of b
same_at ones others i a b below inside a_is b_is same =
    ap signs_of a_is ∙ sym (get_or-map signs_of ones i a [] below) ∙ ap (λ (l : List (List Sign)). get_or l i []) same
    ∙ get_or-map signs_of others i b [] inside ∙ sym (ap signs_of b_is)

pub returns-then-not-are_same : goal.returns-then-not-are_same
returns-then-not-are_same c =
    let ones = c.args.ones.now in
    let others = c.args.others.now in
    let i = c.loop-i.i in
    let a = c.index-ones-i.result in
    let b = c.index-others-i.result in (
      λ wrong. absurd (let no = wrong in let bad : ⊥ = cc in bad),
      λ same.
          let inside : i < length others = omega (arith, c.loop-i-test.true, length-map ones signs_of, length-map others signs_of, ap length same) in
          let equal = same_at ones others i a b c.loop-i-test.true inside c.index-ones-i.is c.index-others-i.is same in
          let yes = c.are_same.ensures.1 (c.signs.ensures ∙ equal ∙ sym c.signs-in-loop-i.ensures) in
          let no = c.if-not-are_same.true in
          absurd (let bad : ⊥ = cc in bad),
    )
