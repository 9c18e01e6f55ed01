use Rattle.std.proofs.Common.{◌<◌, ◌∙◌, List, All, ap, arith, length, sym, subst}
use Rattle.std.proofs.lemmas.List.Elements.{All-set}
use Rattle.std.proofs.lemmas.Option.{slice_get_within}
use Rattle.iam_layers.specs.Cell.{IsDerivedAt}
use Rattle.iam_world.specs.World.{WorldValue}
use Rattle.iam_living.specs.Keys.{AreKeys, AreToldKeys}
use Rattle.iam_living.specs.declared.keys.Keys.{Keys}
use Rattle.iam_living.proofs.asking.lives_among.Goals as goal

pub known-requires-clause-keys : goal.known-requires-clause-keys
known-requires-clause-keys c =
    let kept = c.args.kept.now.items in
    let W : WorldValue → Type 0 = λ w. All (AreKeys w) kept in
    let L : List Keys → Type 0 = All (AreKeys c.world.result.now) in
    subst L (sym c.as_slice.ensures.value)
    (subst W (c.requires.asker.of ∙ sym c.world.ensures) (λ k d below. (c.requires.keys k d below).are))

pub index_mut-requires : goal.index_mut-requires
index_mut-requires c =
    let (keys, at, own, derived) = c.in-Some.ensures in
    let below = slice_get_within c.as_slice.result.now c.in-Some.n keys at in
    let len = c.as_slice.ensures.len in
    omega (arith, below, len)

pub lives_by-requires-clause-keys : goal.lives_by-requires-clause-keys
lives_by-requires-clause-keys c =
    let (keys, at, own, derived) = c.in-Some.ensures in
    let below = slice_get_within c.as_slice.result.now c.in-Some.n keys at in
    let within : c.in-Some.n < length c.args.kept.now.items = omega (arith, below, ap length c.as_slice.ensures.value) in
    subst (AreToldKeys c.args.asker.now) (sym c.index_mut.ensures.value) (c.requires.keys c.in-Some.n c.index_mut.result.now within)

pub lives_by-requires-2-clause-keys : goal.lives_by-requires-2-clause-keys
lives_by-requires-2-clause-keys c =
    let W : WorldValue → Type 0 = λ w. IsDerivedAt w c.args.p c.args.r c.in_ok-derived.field-0.items in
    let R : WorldValue → Type 0 = λ w. c.args.r < length w.resources in
    record {
      are = record { resource = subst R (sym c.requires.asker.of) c.requires.resource; derived = subst W (c.world-2.ensures ∙ sym c.requires.asker.of) c.in_ok-derived.ensures };
      told = c.none_told.ensures c.args.p c.in_ok-derived.field-0.items;
    }

pub returns-in-Some-clause-keys : goal.returns-in-Some-clause-keys
returns-in-Some-clause-keys c =
    All-set (AreToldKeys c.args.asker.now) c.args.kept.now.items c.in-Some.n c.lives_by.new.keys c.lives_by.ensures.keys c.requires.keys
