-- A run that has no report writes nothing.
use Rattle.std.proofs.Common.{inr, ℕ, ◌≤◌, length, List, Option, refl}
use Rattle.iam_app.specs.Output.{EndsBy, IsRefusal, IsWorldRefusal}
use Rattle.iam_app.specs.Streams.{AllRemained}
use Rattle.iam_app.specs.declared.fault.RunFault.{RunFault}
use Rattle.iam_app.specs.declared.fault.RunFault.TheVariants.{Read, Write, OutOfMemory}
use Rattle.iam_options.specs.declared.options.Options.{Options}
use Rattle.iam_options.specs.declared.options.Task.{Task}
use Rattle.iam_options.specs.declared.options.Task.TheVariants as t
use Rattle.iam_world.specs.World.{WorldValue}

-- no command is refused by a fault of the writer
pub not_of_writer : (task : Task) (options : Options) (world : WorldValue) → ¬ IsWorldRefusal task options world Write
not_of_writer t.Check options world is = let wrong : ⊥ = cc in wrong
not_of_writer (t.Decide p a r) options world h =
    let is = (h (λ e. let wrong : ⊥ = cc in wrong)).0 in
    let wrong : ⊥ = cc in wrong
not_of_writer t.Matrix options world h = h
not_of_writer t.First options world h = h

pub refuses : (options : Options) (input held : Option (List ℕ)) (bytes : List ℕ) → AllRemained input bytes → length bytes ≤ 8388608 → (fault : RunFault) → IsRefusal options bytes fault
    → EndsBy options input held held fault
refuses options input held bytes all few Read h = refl
refuses options input held bytes all few Write (world, is, h) = absurd (not_of_writer options.task options world h)
refuses options input held bytes all few OutOfMemory h = refl
refuses options input held bytes all few fault h = (refl, inr (bytes, all, few, h))
