use Rattle.std.proofs.Common.{◌∙◌, length, refl, sym}
use Rattle.std.proofs.lemmas.Option.{slice_get_read}
use Rattle.iam_every.proofs.told.number_of.Goals as goal

pub returns-then-are_same : goal.returns-then-are_same
returns-then-are_same c =
    let known = c.args.known.now in
    let one = c.index-known-n.result in (
      one,
      slice_get_read known (length known) c.loop-n.n one refl c.loop-n-test.true c.index-known-n.is,
      sym c.as_slice.ensures.value ∙ c.are_same.ensures c.if-are_same.true,
    )
