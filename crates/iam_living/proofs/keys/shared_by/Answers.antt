use Rattle.std.proofs.Common.{List, All, sym, subst}
use Rattle.iam_world.specs.World.{WorldValue}
use Rattle.iam_living.specs.Keys.{AreKeys, IsReady}
use Rattle.iam_living.specs.declared.keys.Keys.{Keys}
use Rattle.iam_living.proofs.keys.shared_by.Goals as goal

pub make_ready-requires-clause-keys : goal.make_ready-requires-clause-keys
make_ready-requires-clause-keys c =
    let W : WorldValue → Type 0 = λ w. All (AreKeys w) c.args.kept.now.items in subst W (sym c.world.ensures) c.requires.keys

pub returns-in_err-ready-clause-keys : goal.returns-in_err-ready-clause-keys
returns-in_err-ready-clause-keys c =
    let W : WorldValue → Type 0 = λ w. All (AreKeys w) c.make_ready.new.kept.items in subst W c.world.ensures c.in_err-ready.ensures.keys

pub keys_of-requires : goal.keys_of-requires
keys_of-requires c =
    let world = c.world.result.now in
    let L : List Keys → Type 0 = λ kept. IsReady world c.args.p c.args.r kept c.in_ok-ready.ready in
    (world, c.args.p, c.args.r, subst L (sym c.as_slice.ensures.value) c.in_ok-ready.ensures.ready)

pub returns-clause-keys : goal.returns-clause-keys
returns-clause-keys c =
    let W : WorldValue → Type 0 = λ w. All (AreKeys w) c.make_ready.new.kept.items in subst W c.world.ensures c.in_ok-ready.ensures.keys
