-- What is decided on requests of a principal for up to 64 actions at once, and resources that follow one another. LOGIC 1.1.
use Rattle.std.specs.Prelude.{◌≡◌, ◌*◌, ◌+◌, ◌-◌, ◌/◌, ◌%◌, ◌≤◌, ℕ, All, Bool, List, Some, length, map, min}
use Rattle.std.specs.Borrow.{Bor}
use Rattle.std.specs.List.{slice_get}
use Rattle.iam_decision.specs.Living.{SharedValue}
use Rattle.iam_classes.specs.Batch.{AreDecided}
use Rattle.iam_classes.specs.declared.lanes.Decided.{Decided}
use Rattle.iam_layers.specs.Cell.{IsSharedAt}
use Rattle.iam_world.specs.World.{WorldValue}
use Rattle.iam_index.specs.Elements.{AreActRows}
use Rattle.iam_classes.specs.declared.span.Known.{Known}
use Rattle.iam_classes.specs.declared.span.Span.{Span}

-- how many actions the batch of this number has
abbrev pub count_of : WorldValue → ℕ → ℕ
count_of world number = min 64 (length world.actions - 64 * number)

-- this is decided on requests that share this for the actions of the batch of this number
pub record IsBatchOf (world : WorldValue) (shared : SharedValue) (number : ℕ) (decided : Decided) : Type 0 where
  pub rows : List (Bor (List Bool))
  pub tell : AreActRows world shared.living rows
  pub reach : All (λ row. 64 * number + count_of world number ≤ length row.now) rows
  pub are : AreDecided shared.frame (map (λ l. l.matched) shared.living) rows (64 * number) (count_of world number) decided

-- this is decided on principal p's requests for resource r and the actions of the batch of this number
abbrev pub IsDecidedAt : WorldValue → ℕ → ℕ → ℕ → Decided → Type 0
IsDecidedAt world p r number decided = (shared : SharedValue) × IsSharedAt world p r shared × IsBatchOf world shared number decided

-- the same of the resources from this one on, by turns
abbrev pub AreDecidedFrom : WorldValue → ℕ → ℕ → ℕ → List Decided → Type 0
AreDecidedFrom world p number from all = (i : ℕ) (decided : Decided) → slice_get all i ≡ Some decided → IsDecidedAt world p (from + i) number decided

-- what a span keeps is decided
abbrev pub IsSpan : WorldValue → Span → Type 0
IsSpan world span = AreDecidedFrom world span.principal span.number span.from span.decided.items

-- resource r is the next behind those that the span keeps, of this principal and this batch of actions
abbrev pub IsNext : Span → ℕ → ℕ → ℕ → Type 0
IsNext span p number r = (span.principal ≡ p) × (span.number ≡ number) × (span.from + length span.decided.items ≡ r)

-- this is known of principal p's requests for action a and the resources from r on
abbrev pub AreKnownFrom : WorldValue → ℕ → ℕ → ℕ → Known → Type 0
AreKnownFrom world p a r known = (known.action ≡ a % 64) × AreDecidedFrom world p (a / 64) r known.decided.now
