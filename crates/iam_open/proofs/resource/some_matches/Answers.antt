use Rattle.std.proofs.Common.{Any, arith, subst, sym, take, ◌+◌}
use Rattle.std.specs.List.{flat_map}
use Rattle.iam_match.specs.Statement.{TextMatches}
use Rattle.iam_open.specs.Asks.{text_keys}
use Rattle.iam_open.specs.Code.Certain.{Tells}
use Rattle.iam_open.specs.Code.Known.{AgreeOn}
use Rattle.iam_open.specs.declared.certain.Certain.{Certain}
use Rattle.iam_open.proofs.AskLemmas.{Asks, asks_taken, some_ask}
use Rattle.iam_open.proofs.CertainLemmas.{tells_some_more, tells_taken_some}
use Rattle.iam_open.proofs.resource.some_matches.Goals as goal

pub loop-text-preserved : goal.loop-text-preserved
loop-text-preserved c =
    let Are = AgreeOn c.args.known.now c.args.context.now in
    let texts = c.args.texts.now in
    let i = c.loop-text.text-index in
    record {
      told = subst (λ (x : Certain). Tells x Are (λ other. Any (TextMatches other c.args.resource.now) (take (i + 1) texts))) (sym c.or-certain.ensures)
          (tells_some_more (λ other text. TextMatches other c.args.resource.now text) Are texts i c.text-item.result c.loop-text.certain
          c.in_ok-text_matches.field-0 c.loop-text-test.true c.text-item.is c.loop-text.invariant.told c.in_ok-text_matches.ensures.told);
      asks = subst (λ (x : Certain). Asks c.args.known.now x (flat_map text_keys (take (i + 1) texts))) (sym c.or-certain.ensures)
          (some_ask text_keys c.args.known.now texts i c.text-item.result c.loop-text.certain c.in_ok-text_matches.field-0
          c.loop-text-test.true c.text-item.is c.loop-text.invariant.asks c.in_ok-text_matches.ensures.asks);
    }

pub returns : goal.returns
returns c =
    record {
      told = tells_taken_some (λ other text. TextMatches other c.args.resource.now text) (AgreeOn c.args.known.now c.args.context.now) c.args.texts.now
          c.loop-text.text-index c.loop-text.certain (omega (arith, c.loop-text-test.false)) c.loop-text.invariant.told;
      asks = asks_taken text_keys c.args.known.now c.args.texts.now c.loop-text.text-index c.loop-text.certain (omega (arith, c.loop-text-test.false))
          c.loop-text.invariant.asks;
    }
