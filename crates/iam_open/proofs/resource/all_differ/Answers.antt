use Rattle.std.proofs.Common.{All, arith, subst, sym, take, ◌+◌}
use Rattle.std.specs.List.{flat_map}
use Rattle.iam_match.specs.Code.Compared.{TextDiffers}
use Rattle.iam_open.specs.Asks.{text_keys}
use Rattle.iam_open.specs.Code.Certain.{Tells}
use Rattle.iam_open.specs.Code.Known.{AgreeOn}
use Rattle.iam_open.specs.declared.certain.Certain.{Certain}
use Rattle.iam_open.proofs.AskLemmas.{Asks, all_ask, asks_taken}
use Rattle.iam_open.proofs.CertainLemmas.{tells_all_more, tells_taken_all}
use Rattle.iam_open.proofs.resource.all_differ.Goals as goal

pub loop-text-preserved : goal.loop-text-preserved
loop-text-preserved c =
    let Are = AgreeOn c.args.known.now c.args.context.now in
    let texts = c.args.texts.now in
    let i = c.loop-text.text-index in
    record {
      told = subst (λ (x : Certain). Tells x Are (λ other. All (TextDiffers other c.args.resource.now) (take (i + 1) texts))) (sym c.and-certain.ensures)
          (tells_all_more (λ other text. TextDiffers other c.args.resource.now text) Are texts i c.text-item.result c.loop-text.certain
          c.in_ok-text_differs.field-0 c.loop-text-test.true c.text-item.is c.loop-text.invariant.told c.in_ok-text_differs.ensures.told);
      asks = subst (λ (x : Certain). Asks c.args.known.now x (flat_map text_keys (take (i + 1) texts))) (sym c.and-certain.ensures)
          (all_ask text_keys c.args.known.now texts i c.text-item.result c.loop-text.certain c.in_ok-text_differs.field-0
          c.loop-text-test.true c.text-item.is c.loop-text.invariant.asks c.in_ok-text_differs.ensures.asks);
    }

pub returns : goal.returns
returns c =
    record {
      told = tells_taken_all (λ other text. TextDiffers other c.args.resource.now text) (AgreeOn c.args.known.now c.args.context.now) c.args.texts.now
          c.loop-text.text-index c.loop-text.certain (omega (arith, c.loop-text-test.false)) c.loop-text.invariant.told;
      asks = asks_taken text_keys c.args.known.now c.args.texts.now c.loop-text.text-index c.loop-text.certain (omega (arith, c.loop-text-test.false))
          c.loop-text.invariant.asks;
    }
