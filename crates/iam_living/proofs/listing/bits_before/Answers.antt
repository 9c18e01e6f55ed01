use Rattle.std.proofs.Common.{◌≡◌, ◌+◌, ◌-◌, ◌<◌, ◌∷◌, ◌++◌, ℕ, List, drop, length, map, sym, ap, ◌∙◌, subst, arith}
use Rattle.std.proofs.lemmas.List.{drop_more}
use Rattle.std.proofs.lemmas.Option.{get_or_from_slice_get}
use Rattle.iam_match.specs.Request.{access_of}
use Rattle.iam_decision.specs.Code.Scan.{placed_value}
use Rattle.iam_decision.specs.declared.scan.Standing.{Standing}
use Rattle.iam_index.proofs.ListLemmas.{get_within}
use Rattle.iam_living.specs.Word.{AreBits}
use Rattle.iam_living.proofs.listing.bits_before.Goals as goal

pub lives-requires-clause-told : goal.lives-requires-clause-told
lives-requires-clause-told c =
    let (p, derived, at, told) = c.requires.told in (p, derived, at, c.loop-i.invariant.told p derived at told)

pub loop-i-preserved : goal.loop-i-preserved
loop-i-preserved c = record {
  word = λ others are.
      let statements = c.args.known.now.statements in
      let i = c.loop-i.i in
      let B : List Standing → Type 0 = λ z. i - 1 < length z in
      let below : i - 1 < length statements = subst B c.statements-statements.ensures (omega arith) in
      let (standing, there) = get_within statements (i - 1) below in
      let next : (i - 1) + 1 ≡ i = omega arith in
      let head = get_or_from_slice_get statements (i - 1) standing standing there in
      let first : drop (i - 1) statements ≡ standing ∷ drop i statements =
      drop_more statements (i - 1) standing below ∙ ap (λ (s : Standing). s ∷ drop ((i - 1) + 1) statements) head ∙ ap (λ (k : ℕ). standing ∷ drop k statements) next in
      let P : List Standing → Type 0 = λ z. AreBits (access_of c.args.access) (map placed_value z ++ others) c.in-Some.longer in
      subst P (sym first)
      (
      c.in-Some.ensures (access_of c.args.access) (placed_value standing) (map placed_value (drop i statements) ++ others)
      (c.in_ok-lives.ensures.lives standing there) (c.loop-i.invariant.word others are)
      );
  told = λ p derived at told. c.in_ok-lives.ensures.told p derived at (c.loop-i.invariant.told p derived at told);
}

pub returns-in_err-lives-clause-told : goal.returns-in_err-lives-clause-told
returns-in_err-lives-clause-told c = λ p derived at told. c.in_err-lives.ensures.told p derived at (c.loop-i.invariant.told p derived at told)

pub returns-in-None-clause-told : goal.returns-in-None-clause-told
returns-in-None-clause-told c = λ p derived at told. c.in_ok-lives.ensures.told p derived at (c.loop-i.invariant.told p derived at told)
