-- What is told of conditions that ask for no key that a resource gives. LOGIC 7.1.
use Rattle.std.specs.Prelude.{◌≡◌, ◌↔◌, ℕ, All, Bool, IsTrue, List, Option, Some}
use Rattle.std.specs.List.{slice_get}
use Rattle.iam_context.specs.Context.{ContextValue}
use Rattle.iam_match.specs.Entry.{EntryHolds}
use Rattle.iam_decision.specs.Matched.{Placed}
use Rattle.iam_layers.specs.Cell.{IsContextAt}
use Rattle.iam_world.specs.World.{WorldValue}
use Rattle.iam_columns.specs.Slots.{Keeps}
use Rattle.iam_living.specs.Listing.{ListingValue}
use Rattle.iam_living.specs.declared.marks.Mark.{Mark}
use Rattle.iam_living.specs.declared.marks.Mark.TheVariants.{Held}
use Rattle.iam_living.specs.declared.marks.ListingMarks.{ListingMarks}

-- whether the conditions of the statement hold in each context of principal p that has these derived keys
abbrev pub HeldBy : WorldValue → ℕ → ContextValue → Placed → Bool → Type 0
HeldBy world p derived s held =
    (r : ℕ) (context : ContextValue) → IsContextAt world p r derived context → IsTrue held ↔ All (EntryHolds context) s.statement.conditions

-- what is told of the conditions of these statements is right
abbrev pub AreMarks : WorldValue → ℕ → ContextValue → List Placed → List (Option Mark) → Type 0
AreMarks world p derived statements told =
    (i : ℕ) (held : Bool) (s : Placed) → Keeps told i (Held held) → slice_get statements i ≡ Some s
    → HeldBy world p derived s held

-- what is told of the statements of a listing is right
pub record AreListingMarks (listing : ListingValue) (p : ℕ) (derived : ContextValue) (told : ListingMarks) : Type 0 where
  pub org : AreMarks listing.world p derived listing.org told.org.items
  pub own : AreMarks listing.world p derived listing.own told.own.items
