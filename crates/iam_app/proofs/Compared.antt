-- How a run of two worlds ends without its report: by a fault of one of them, or of both together.
use Rattle.std.proofs.Common.{◌≡◌, inl, inr, ℕ, List, Option, refl, sym, subst}
use Rattle.iam_world.specs.World.{WorldValue}
use Rattle.iam_selection.specs.Selection.{SelectionValue}
use Rattle.iam_changes.specs.declared.change.Kinds.{Kinds}
use Rattle.iam_options.specs.declared.changes.ChangesOptions.{ChangesOptions}
use Rattle.iam_app.specs.Changes.{EndsChangesBy, HasBefore, HasSide, IsComparison, IsNoComparison, IsOfBefore}
use Rattle.iam_app.specs.Code.Sides.{IsNoSide, IsNotWritten, of_before}
use Rattle.iam_app.specs.declared.changes_fault.ChangesFault.{ChangesFault}
use Rattle.iam_app.specs.declared.changes_fault.ChangesFault.TheVariants as c
use Rattle.iam_app.specs.declared.changes_fault.Side.TheVariants as side
use Rattle.iam_app.specs.declared.fault.RunFault.{RunFault}
use Rattle.iam_app.specs.declared.fault.RunFault.TheVariants.{Read, World, Matrix, Write, NoSuchCell, Cut, OutOfMemory}

-- one of the two inputs is not taken
pub no_before : (options : ChangesOptions) (selection : SelectionValue) (first second held : Option (List ℕ)) (fault : ChangesFault) → IsNoSide side.Before first fault
    → EndsChangesBy options selection first second held held (of_before fault)
no_before options selection first second held (c.Run Read) h = refl
no_before options selection first second held (c.Run (World fault)) h = (refl, h)
no_before options selection first second held (c.Run OutOfMemory) h = refl
no_before options selection first second held (c.Twice world twice) (is, h) =
    subst (λ s. EndsChangesBy options selection first second held held (c.Twice s twice)) (sym is) (refl, h)
no_before options selection first second held fault h = absurd h

pub no_after : (options : ChangesOptions) (selection : SelectionValue) (first second held : Option (List ℕ)) (fault : ChangesFault) → HasBefore first
    → IsNoSide side.After second fault → EndsChangesBy options selection first second held held fault
no_after options selection first second held (c.Run Read) has h = refl
no_after options selection first second held (c.Run (World fault)) has h = (refl, has, h)
no_after options selection first second held (c.Run OutOfMemory) has h = refl
no_after options selection first second held (c.Twice world twice) has (is, h) =
    subst (λ s. EndsChangesBy options selection first second held held (c.Twice s twice)) (sym is) (refl, has, h)
no_after options selection first second held fault has h = absurd h

-- a fault of the world after, and one of writing, is none of the world before
pub not_of_before : (input : Option (List ℕ)) (fault : ChangesFault) → IsNoSide side.After input fault → ¬ IsOfBefore fault
not_of_before input (c.Run fault) h of = of
not_of_before input (c.Twice world twice) (is, h) of = subst (λ s. IsOfBefore (c.Twice s twice)) is of
not_of_before input (c.Before fault) h of = h

pub not_of_writing : (old new : Option (List ℕ)) (text : List ℕ) (fault : ChangesFault) → IsNotWritten old new text fault → ¬ IsOfBefore fault
not_of_writing old new text fault (inl (is, begins)) h = subst IsOfBefore is h
not_of_writing old new text fault (inr (is, kept)) h = subst IsOfBefore is h

-- there is no report of both
pub not_compared : (options : ChangesOptions) (selection : SelectionValue) (first second held : Option (List ℕ)) (before after : WorldValue) (fault : RunFault)
    → HasSide first before → HasSide second after → IsNoComparison options before after fault
    → EndsChangesBy options selection first second held held (c.Run fault)
not_compared options selection first second held before after Read one two h = absurd h
not_compared options selection first second held before after (World fault) one two h = absurd h
not_compared options selection first second held before after (Matrix fault) one two h = (refl, (before, after, one, two, h))
not_compared options selection first second held before after Write one two h = absurd h
not_compared options selection first second held before after NoSuchCell one two h = absurd h
not_compared options selection first second held before after (Cut fault) one two h = (refl, (before, after, one, two, h))
not_compared options selection first second held before after OutOfMemory one two h = refl

-- there is one, and the writer fails or there is no memory for it
pub not_written : (options : ChangesOptions) (selection : SelectionValue) (first second old new : Option (List ℕ)) (before after : WorldValue) (text : List ℕ)
    (kinds : Kinds) (fault : ChangesFault) → HasSide first before → HasSide second after → IsComparison options selection before after text kinds
    → IsNotWritten old new text fault → EndsChangesBy options selection first second old new fault
not_written options selection first second old new before after text kinds fault (bytes, all, one) (more, all_more, two) h (inl (is, begins)) =
    subst (EndsChangesBy options selection first second old new) (sym is) (bytes, more, all, all_more, (text, kinds, (before, after, one, two, h), begins))
not_written options selection first second old new before after text kinds fault one two h (inr (is, kept)) =
    subst (EndsChangesBy options selection first second old new) (sym is) kept
