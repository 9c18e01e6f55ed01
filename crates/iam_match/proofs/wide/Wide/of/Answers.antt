use Rattle.std.proofs.Common.{map, sym, ap, ◌∙◌}
use Rattle.std.proofs.lemmas.List.{take_all}
use Rattle.iam_context.specs.Wide.{wide_of}
use Rattle.iam_match.proofs.WideLemmas.{covers}
use Rattle.iam_match.proofs.wide.Wide.of.Goals as goal

pub returns : goal.returns
returns c =
    let texts = c.texts-texts.result.now in
    covers c.args.element.now c.loop-text.patterns.items (sym c.is_negated.ensures ∙ c.if-is_negated.false)
    (c.loop-text.invariant ∙ ap (map wide_of) (take_all c.loop-text.text-index texts c.loop-text-test.false ∙ c.texts-texts.ensures))
