use Rattle.std.proofs.Common.{arith, map}
use Rattle.std.proofs.lemmas.List.{length-map}
use Rattle.std.specs.Str.{chars}
use Rattle.iam_glob.specs.Glob.{Matches}
use Rattle.iam_every.specs.Every.{LineValue, line_of}
use Rattle.iam_every.proofs.LineLemmas.{line_at, none_more, none_of_all}
use Rattle.iam_every.proofs.given.first_line.Goals as goal

pub returns-then-matches : goal.returns-then-matches
returns-then-matches c =
    let lines = c.args.lines.now in
    let k = c.loop-k.k in (
      line_of c.index-lines-k.result,
      record {
        at = line_at lines k c.index-lines-k.result c.loop-k-test.true c.index-lines-k.is;
        matches = c.matches.ensures.0 c.if-matches.true;
        first = c.loop-k.invariant;
      },
    )

pub loop-k-preserved : goal.loop-k-preserved
loop-k-preserved c =
    let lines = c.args.lines.now in
    let k = c.loop-k.k in
    let P : LineValue → Type 0 = λ line. Matches line.pattern (chars c.args.text.now) in
    none_more P (map line_of lines) k (line_of c.index-lines-k.result) c.loop-k.invariant
    (line_at lines k c.index-lines-k.result c.loop-k-test.true c.index-lines-k.is)
    (λ m. let yes = c.matches.ensures.1 m in let no = c.if-matches.false in let wrong : ⊥ = cc in wrong)

pub returns : goal.returns
returns c =
    let lines = c.args.lines.now in
    let P : LineValue → Type 0 = λ line. Matches line.pattern (chars c.args.text.now) in
    none_of_all P (map line_of lines) c.loop-k.k (omega (arith, c.loop-k-test.false, length-map lines line_of)) c.loop-k.invariant
