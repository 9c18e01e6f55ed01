use Rattle.std.proofs.Common.{◌↔◌, ◌∷◌, List, ℕ, Bor, IsTrue, map, sym, subst}
use Rattle.iam_match.specs.Entry.{PartsMatch}
use Rattle.iam_glob.specs.Signs.{signs_in}
use Rattle.iam_match.proofs.ColonLemmas.{parts_cut, parts_uncut}
use Rattle.iam_match.proofs.arn.+parts_match.Goals as goal

abbrev text_of : Bor (List ℕ) → List ℕ
text_of other = other.now

pub returns-then-matches : goal.returns-then-matches
returns-then-matches t c =
    let P : List (Bor (List ℕ)) → Type 0 = λ others. IsTrue c.parts_match.result ↔ PartsMatch (signs_in c.args.signs) (c.args.part.now ∷ map text_of others) in
    let cut = parts_cut (signs_in c.args.signs) (signs_in c.in-Some-cut_colon.first) (signs_in c.in-Some-cut_colon.rest) c.args.part.now c.in-Some.next.now.now
    (map text_of c.in-Some.others.now) c.in-Some-cut_colon.ensures.0 c.in-Some-cut_colon.ensures.1 in
    subst P (sym c.in-Some.ensures.cases.0) (
      λ yes. cut.0 (c.matches-in-Some-cut_colon.ensures.0 c.if-matches.true, c.parts_match.ensures.0 yes),
      λ matched. c.parts_match.ensures.1 (cut.1 matched).1,
    )

pub returns-else-matches : goal.returns-else-matches
returns-else-matches t c =
    let r = c.matches-in-Some-cut_colon.result in
    let P : List (Bor (List ℕ)) → Type 0 = λ others. IsTrue r ↔ PartsMatch (signs_in c.args.signs) (c.args.part.now ∷ map text_of others) in
    let cut = parts_cut (signs_in c.args.signs) (signs_in c.in-Some-cut_colon.first) (signs_in c.in-Some-cut_colon.rest) c.args.part.now c.in-Some.next.now.now
    (map text_of c.in-Some.others.now) c.in-Some-cut_colon.ensures.0 c.in-Some-cut_colon.ensures.1 in
    subst P (sym c.in-Some.ensures.cases.0) (
      λ yes. absurd (let wrong : ⊥ = cc in wrong),
      λ matched. c.matches-in-Some-cut_colon.ensures.1 (cut.1 matched).0,
    )

pub returns-in-None-cut_colon : goal.returns-in-None-cut_colon
returns-in-None-cut_colon t c = (
  λ yes. absurd (let wrong : ⊥ = cc in wrong),
  λ matched.
      let P : List (Bor (List ℕ)) → Type 0 = λ others. PartsMatch (signs_in c.args.signs) (c.args.part.now ∷ map text_of others) in
      absurd (parts_uncut (signs_in c.args.signs) c.args.part.now c.in-Some.next.now.now (map text_of c.in-Some.others.now) c.in-None-cut_colon.ensures
      (subst P c.in-Some.ensures.cases.0 matched)),
)
