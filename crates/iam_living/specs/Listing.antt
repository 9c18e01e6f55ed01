-- The statements that an index lists for all requests of a principal. LOGIC 11.1.
use Rattle.std.specs.Prelude.{◌≡◌, ◌++◌, ℕ, List, Option, map}
use Rattle.iam_match.specs.Statement.{AccessValue}
use Rattle.iam_decision.specs.Applicable.{ApplicableValue, frame_of}
use Rattle.iam_decision.specs.Code.Scan.{placed_value}
use Rattle.iam_decision.specs.Living.{AreCandidates, AreLiving, LivingValue}
use Rattle.iam_decision.specs.Matched.{Placed, placed}
use Rattle.iam_decision.specs.declared.frame.Frame.{Frame}
use Rattle.iam_decision.specs.declared.scan.Standing.{Standing}
use Rattle.iam_layers.specs.Cell.{IsAccessAt, IsApplicableAt}
use Rattle.iam_world.specs.World.{WorldValue}
use Rattle.iam_columns.specs.Slots.{Keeps}
use Rattle.iam_index.specs.Index.{ListsResource}
use Rattle.iam_living.specs.Living.{NoneConcerns, NoneLives}

-- statements of a world, those of an organisation and those of a principal, and the numbers of resources that are alike to them
pub record ListingValue : Type 0 where
  pub world : WorldValue
  pub org : List Placed
  pub own : List Placed
  pub alikes : List (Option ℕ)

-- all of them
abbrev pub statements_of : ListingValue → List Placed
statements_of listing = listing.org ++ listing.own

-- these statements, and between them those that are listed with a resource, are the candidates of principal p's requests for it
abbrev pub Lists : WorldValue → ℕ → List Placed → List Placed → Type 0
Lists world p org own =
    (r : ℕ) (a : ApplicableValue) (listed : List Standing) → IsApplicableAt world p r a → ListsResource world r listed
    → AreCandidates world.actions (placed a) (org ++ (map placed_value listed ++ own))

-- in principal p's requests for resource r none lives of the statements that are listed with it, these are the living ones of the
-- statements, and this is asked beside them
pub record LiveAt (world : WorldValue) (p r : ℕ) (statements : List Placed) (frame : Frame) (living : List LivingValue) : Type 0 where
  pub applicable : ApplicableValue
  pub access : AccessValue
  pub at : IsAccessAt world p r applicable access
  pub frame_is : frame ≡ frame_of applicable
  pub living_are : AreLiving access statements living
  pub none : NoneLives world r access

-- in a principal's requests for resources of one number the same of the statements live, and the same is asked beside them: where none
-- lives of those that are listed with the one, and none of those that are listed with the other is about the principal
abbrev pub AreAlikes : ListingValue → Type 0
AreAlikes listing =
    (p r other n : ℕ) (frame : Frame) (living : List LivingValue) → Keeps listing.alikes r n → Keeps listing.alikes other n
    → NoneConcerns listing.world p other → LiveAt listing.world p r (statements_of listing) frame living
    → LiveAt listing.world p other (statements_of listing) frame living
