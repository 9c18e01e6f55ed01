-- How a run of `matrix --any-key` or `first --any-key` whose world is read ends without its report.
use Rattle.std.proofs.Common.{ℕ, List, Option}
use Rattle.iam_world.specs.World.{WorldValue}
use Rattle.iam_options.specs.declared.any_key.AnyKeyCommand.{AnyKeyCommand}
use Rattle.iam_app.specs.AnyKey.{EndsTurnedBy}
use Rattle.iam_app.specs.Ask.{HasWorld}
use Rattle.iam_app.specs.Code.Turning.{IsUnturned}
use Rattle.iam_app.specs.declared.fault.RunFault.{RunFault}
use Rattle.iam_app.specs.declared.fault.RunFault.TheVariants.{Read, World, Matrix, Write, NoSuchCell, Cut, OutOfMemory}

-- there is no report, or it is not written
pub unturned : (command : AnyKeyCommand) (input old new : Option (List ℕ)) (world : WorldValue) → HasWorld input world → (fault : RunFault)
    → IsUnturned command world old new fault → EndsTurnedBy command input old new fault
unturned command input old new world has Read h = absurd h
unturned command input old new world has (World fault) h = absurd h
unturned command input old new world has (Matrix fault) (kept, why) = (kept, why.0, why.1, (world, has))
unturned command input old new world has Write (report, told) = (told.0, (world, has, report, told.1))
unturned command input old new world has NoSuchCell h = absurd h
unturned command input old new world has (Cut fault) h = absurd h
unturned command input old new world has OutOfMemory h = h
