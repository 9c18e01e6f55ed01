use Rattle.std.proofs.Common.{◌≡◌, ◌+◌, ◌∷◌, [], ◌++◌, List, get_or, map, subst, sym, take}
use Rattle.std.proofs.lemmas.List.{map_more}
use Rattle.iam_layers.specs.declared.unnamed.Unnamed.TheVariants.{Like}
use Rattle.iam_every_changes.specs.Code.Given.{target_of}
use Rattle.iam_every_changes.specs.Code.Looked.{Adds}
use Rattle.iam_every_changes.specs.Made.{AreJoined, AreOfTarget, TargetValue}
use Rattle.iam_every_changes.specs.States.{both_of}
use Rattle.iam_every_changes.specs.declared.own.Target.{Target}
use Rattle.iam_every_changes.proofs.JoinLemmas.{adds_more}
use Rattle.iam_every_changes.proofs.TargetLemmas.{target_at}
use Rattle.iam_every_changes.proofs.rows.look_at_targets.Goals as goal

abbrev nothing : Target
nothing = record { text = record { ref_ptr = (0, 0); now = [] }; was = Like 0; now = Like 0 }

pub keys_of-requires-clause-was : goal.keys_of-requires-clause-was
keys_of-requires-clause-was c =
    (target_at (both_of c.args.given.both) c.args.targets.now c.loop-target.target-index nothing c.requires.given.both c.requires.targets c.loop-target-test.true).was

pub keys_of-requires-clause-now : goal.keys_of-requires-clause-now
keys_of-requires-clause-now c =
    (target_at (both_of c.args.given.both) c.args.targets.now c.loop-target.target-index nothing c.requires.given.both c.requires.targets c.loop-target-test.true).now

pub scenes_of-requires-clause-was : goal.scenes_of-requires-clause-was
scenes_of-requires-clause-was c =
    (target_at (both_of c.args.given.both) c.args.targets.now c.loop-target.target-index nothing c.requires.given.both c.requires.targets c.loop-target-test.true).was

pub scenes_of-requires-clause-now : goal.scenes_of-requires-clause-now
scenes_of-requires-clause-now c =
    (target_at (both_of c.args.given.both) c.args.targets.now c.loop-target.target-index nothing c.requires.given.both c.requires.targets c.loop-target-test.true).now

pub look_at-requires-clause-was : goal.look_at-requires-clause-was
look_at-requires-clause-was c =
    (target_at (both_of c.args.given.both) c.args.targets.now c.loop-target.target-index nothing c.requires.given.both c.requires.targets c.loop-target-test.true).was

pub look_at-requires-clause-now : goal.look_at-requires-clause-now
look_at-requires-clause-now c =
    (target_at (both_of c.args.given.both) c.args.targets.now c.loop-target.target-index nothing c.requires.given.both c.requires.targets c.loop-target-test.true).now

pub loop-target-preserved : goal.loop-target-preserved
loop-target-preserved c =
    let targets = c.args.targets.now in
    let i = c.loop-target.target-index in
    let target = get_or targets i nothing in
    let before = map target_of (take i targets) in
    let Of = AreOfTarget (both_of c.args.given.both) c.args.action.now in
    let taken : before ++ (target_of target ∷ []) ≡ map target_of (take (i + 1) targets) = sym (map_more target_of targets i nothing c.loop-target-test.true) in
    subst (λ (l : List TargetValue). Adds c.args.looked.now (AreJoined Of l) c.look_at.new.looked) taken
    (adds_more Of before (target_of target) c.args.looked.now c.loop-target.looked c.look_at.new.looked c.loop-target.invariant c.in_ok-look_at.ensures)
