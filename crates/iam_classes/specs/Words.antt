-- Classes that are found again by which statements live in a principal's requests. LOGIC 1.1.
use Rattle.std.specs.Prelude.{◌≡◌, ◌⊎◌, ◌++◌, ℕ, List, IfSome, Option, Some}
use Rattle.std.specs.List.{slice_get}
use Rattle.iam_match.specs.Statement.{AccessValue}
use Rattle.iam_decision.specs.Living.{AreLiving, LivingValue}
use Rattle.iam_decision.specs.Matched.{Placed}
use Rattle.iam_world.specs.World.{WorldValue}
use Rattle.iam_columns.specs.Slots.{AllAre, Keeps}
use Rattle.iam_living.specs.Asker.{AreBitsOf, IsAsker}
use Rattle.iam_living.specs.Listing.{LiveAt, statements_of}
use Rattle.iam_living.specs.declared.asker.Asker.{Asker}
use Rattle.iam_living.specs.declared.asker.Bits.{Bits}
use Rattle.iam_classes.specs.declared.memo.Class.{Class}
use Rattle.iam_classes.specs.declared.words.Word.{Word}
use Rattle.iam_classes.specs.declared.words.Words.{Words}

-- in each request that has these bits these are the living ones of the statements that are listed for the principal and of those that
-- stand with the resource
abbrev pub LiveByBits : Asker → Bits → List LivingValue → Type 0
LiveByBits asker bits living =
    (access : AccessValue) (statements : List Placed) → AreBitsOf asker access statements bits
    → AreLiving access (asker.listing.org ++ (statements ++ asker.listing.own)) living

-- the statements of the class are those that live by the bits
pub record IsWord (classes : List Class) (asker : Asker) (kept : Word) : Type 0 where
  pub class : Class
  pub at : slice_get classes kept.class ≡ Some class
  pub living : LiveByBits asker kept.bits class.shared.living

-- the class is that of principal p's requests for resource r, in which none lives of the statements that stand with the resource: it has
-- those of these that live in them
abbrev pub IsFoundAmong : WorldValue → List Class → ℕ → ℕ → List Placed → ℕ → Type 0
IsFoundAmong world classes p r statements n =
    (class : Class) × (slice_get classes n ≡ Some class) × LiveAt world p r statements class.shared.frame class.shared.living

-- by the number of alike resources the class of the principal's requests for one of them is kept
abbrev pub AreAlikeClasses : WorldValue → List Class → Asker → List (Option ℕ) → Type 0
AreAlikeClasses world classes asker kept =
    (number class : ℕ) → Keeps kept number class
    → (r : ℕ) × Keeps asker.listing.alikes r number × IsFoundAmong world classes asker.principal r (statements_of asker.listing) class

-- everything that is kept is right
abbrev pub AreWords : WorldValue → List Class → Words → Type 0
AreWords world classes words =
    IfSome words.asker
    (λ asker. IsAsker world asker.principal asker × AllAre (IsWord classes asker) words.slots.items
    × AreAlikeClasses world classes asker words.alikes.items)

-- nothing more is kept, but this under this number
abbrev pub GainsAt : List (Option ℕ) → List (Option ℕ) → Option ℕ → ℕ → Type 0
GainsAt old new number more = (i kept : ℕ) → Keeps new i kept → ((number ≡ Some i) × (kept ≡ more)) ⊎ Keeps old i kept
