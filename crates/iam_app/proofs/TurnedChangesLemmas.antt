-- How a run of `changes --any-key` ends without its report: by a fault of one of the worlds, or of both together.
use Rattle.std.proofs.Common.{◌≡◌, ℕ, List, Option, refl, sym, subst}
use Rattle.iam_world.specs.World.{WorldValue}
use Rattle.iam_options.specs.declared.options.RunOptions.{RunOptions}
use Rattle.iam_app.specs.AnyKeyChanges.{EndsTurnedChangesBy}
use Rattle.iam_app.specs.Changes.{HasBefore, HasSide}
use Rattle.iam_app.specs.Code.Sides.{IsNoSide, of_before}
use Rattle.iam_app.specs.Code.TurningSides.{IsUntold}
use Rattle.iam_app.specs.declared.changes_fault.ChangesFault.{ChangesFault}
use Rattle.iam_app.specs.declared.changes_fault.ChangesFault.TheVariants as c
use Rattle.iam_app.specs.declared.changes_fault.Side.TheVariants as side
use Rattle.iam_app.specs.declared.fault.RunFault.{RunFault}
use Rattle.iam_app.specs.declared.fault.RunFault.TheVariants.{Read, World, Matrix, Write, NoSuchCell, Cut, OutOfMemory}

-- one of the two inputs is not taken
pub no_before : (options : RunOptions) (first second held : Option (List ℕ)) (fault : ChangesFault) → IsNoSide side.Before first fault
    → EndsTurnedChangesBy options first second held held (of_before fault)
no_before options first second held (c.Run Read) h = refl
no_before options first second held (c.Run (World fault)) h = (refl, h)
no_before options first second held (c.Run OutOfMemory) h = refl
no_before options first second held (c.Twice world twice) (is, h) =
    subst (λ s. EndsTurnedChangesBy options first second held held (c.Twice s twice)) (sym is) (refl, h)
no_before options first second held fault h = absurd h

pub no_after : (options : RunOptions) (first second held : Option (List ℕ)) (fault : ChangesFault) → HasBefore first
    → IsNoSide side.After second fault → EndsTurnedChangesBy options first second held held fault
no_after options first second held (c.Run Read) has h = refl
no_after options first second held (c.Run (World fault)) has h = (refl, has, h)
no_after options first second held (c.Run OutOfMemory) has h = refl
no_after options first second held (c.Twice world twice) has (is, h) =
    subst (λ s. EndsTurnedChangesBy options first second held held (c.Twice s twice)) (sym is) (refl, has, h)
no_after options first second held fault has h = absurd h

-- there is no report of both, or it is not written
pub untold : (options : RunOptions) (first second old new : Option (List ℕ)) (before after : WorldValue) (fault : RunFault)
    → HasSide first before → HasSide second after → IsUntold options before after old new fault
    → EndsTurnedChangesBy options first second old new (c.Run fault)
untold options first second old new before after Read one two h = absurd h
untold options first second old new before after (World fault) one two h = absurd h
untold options first second old new before after (Matrix fault) one two (kept, is, unlawful) = (kept, is, unlawful, (before, after, one, two))
untold options first second old new before after Write one two (told, tells) = (told, (before, after, one, two, tells.0, tells.1))
untold options first second old new before after NoSuchCell one two h = absurd h
untold options first second old new before after (Cut fault) one two h = absurd h
untold options first second old new before after OutOfMemory one two h = h
