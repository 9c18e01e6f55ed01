use Rattle.std.proofs.Common.{ℕ, refl, sym, subst}
use Rattle.std.proofs.lemmas.Option.{slice_get_read}
use Rattle.iam_layers.specs.Cell.{IsDerivedAt}
use Rattle.iam_living.specs.Keys.{AreKeys}
use Rattle.iam_living.proofs.keys.known.Goals as goal

pub returns-then-has_same_derived : goal.returns-then-has_same_derived
returns-then-has_same_derived c =
    let world = c.args.world.now in
    let i = c.loop-i.i in
    let keys = c.index-kept-i.result in
    let there = slice_get_read c.args.kept.now _ i keys refl c.loop-i-test.true c.index-kept-i.is in
    let right = subst (AreKeys world) (sym c.index-kept-i.is) (c.requires.keys i keys c.loop-i-test.true) in
    let D : ℕ → Type 0 = λ p. IsDerivedAt world p keys.resource keys.derived.items in
    let own = subst D c.if-keys-p.true right.derived in
    (keys, there, c.if-keys-p.true, c.has_same_derived.ensures c.if-has_same_derived.true c.args.p keys.derived.items own)
