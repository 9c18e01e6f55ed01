use Rattle.std.proofs.Common.{◌∙◌, length, refl, sym}
use Rattle.std.proofs.lemmas.Option.{slice_get_read}
use Rattle.iam_every.proofs.told.number_of_text.Goals as goal

pub returns-then-is_text : goal.returns-then-is_text
returns-then-is_text c =
    let lived = c.args.lived.now in
    let one = c.index-lived-n.result in (
      one,
      slice_get_read lived (length lived) c.loop-n.n one refl c.loop-n-test.true c.index-lived-n.is,
      sym c.as_str.ensures.value ∙ c.is_text.ensures c.if-is_text.true,
    )
