use Rattle.std.proofs.Common.{◌≡◌, ◌<◌, ℕ, arith, length, subst}
use Rattle.std.proofs.lemmas.Str.{IsCharBoundary-from_drop}
use Rattle.std.specs.Str.{IsCharBoundary}
use Rattle.iam_glob.specs.Code.Walk.{char_in}
use Rattle.iam_glob.specs.Signs.{signs_in}
use Rattle.iam_glob.proofs.AsciiLemmas.{ascii_head, along_ascii, ascii_wrong}
use Rattle.iam_glob.proofs.walk.walk_ascii.Goals as goal

pub range_from-requires : goal.range_from-requires
range_from-requires c = λ some. IsCharBoundary-from_drop c.args.text.now c.loop-i.i c.loop-i.invariant.0 c.loop-i.invariant.1

pub range_from-requires-then-not-is_ascii_at : goal.range_from-requires-then-not-is_ascii_at
range_from-requires-then-not-is_ascii_at c = λ some. IsCharBoundary-from_drop c.args.text.now c.loop-i.i c.loop-i.invariant.0 c.loop-i.invariant.1

pub range_from-requires-2 : goal.range_from-requires-2
range_from-requires-2 c =
    let B : ℕ → Type 0 = λ n. IsCharBoundary c.args.text.now n in
    let all : c.loop-i.i ≡ c.len-2.result = omega arith in
    λ some. subst B all (IsCharBoundary-from_drop c.args.text.now c.loop-i.i c.loop-i.invariant.0 c.loop-i.invariant.1)

pub returns-then-not-covers_at-clause-none : goal.returns-then-not-covers_at-clause-none
returns-then-not-covers_at-clause-none c =
    let below : c.loop-i.i < length (signs_in c.args.signs) = omega arith in
    let ascii = rw c.as_bytes-bytes.ensures.value at (c.is_ascii_at.ensures.0 c.if-not-is_ascii_at.false) in
    let covers = rw (c.as_bytes-bytes.ensures.value, c.at-sign.ensures) at c.covers_at.ensures in
    ascii_wrong (char_in c.args.case) (signs_in c.args.signs) c.args.text.now c.loop-i.i _ below ascii.0 c.loop-i.invariant.1 ascii.1
    (rw c.at-sign.ensures at c.in_default.not-Any) (λ here. let right = covers.1 (ascii.0, here) in absurd (let no : ⊥ = cc in no)) c.loop-i.invariant.2

pub loop-i-preserved : goal.loop-i-preserved
loop-i-preserved c =
    let below : c.loop-i.i < length (signs_in c.args.signs) = omega arith in
    let ascii = rw c.as_bytes-bytes.ensures.value at (c.is_ascii_at.ensures.0 c.if-not-is_ascii_at.false) in
    let covers = rw (c.as_bytes-bytes.ensures.value, c.at-sign.ensures) at (c.covers_at.ensures.0 c.if-not-covers_at.false) in
    let within = ascii.0 in (
      omega arith,
      (ascii_head c.args.text.now c.loop-i.i c.loop-i.invariant.1 ascii.0 ascii.1).0,
      along_ascii (char_in c.args.case) (signs_in c.args.signs) c.args.text.now c.loop-i.i _ below ascii.0 c.loop-i.invariant.1 ascii.1 covers.1 c.loop-i.invariant.2,
    )
