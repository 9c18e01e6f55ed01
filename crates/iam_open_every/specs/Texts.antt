-- Texts of resources that policies do not tell apart, whatever values the keys have that nothing gives: AWS IAM User Guide, "IAM JSON
-- policy elements: Resource" and "NotResource". LOGIC 11.6 and 11.12.
use Rattle.std.specs.Prelude.{◌≡◌, ℕ, List, All, Contains, MatchOption, Option, Some}
use Rattle.std.specs.List.{slice_get}
use Rattle.std.specs.Str.{IsUtf8}
use Rattle.iam_decision.specs.Matched.{Selects}
use Rattle.iam_glob.specs.declared.sign.Sign.{Sign}
use Rattle.iam_kinds.specs.States.{PassesLimit}
use Rattle.iam_layers.specs.declared.unnamed.Unnamed.{Unnamed}
use Rattle.iam_every.specs.Code.Rows.{IsFirstOf, IsLined}
use Rattle.iam_every.specs.Every.{EveryValue, LineValue, line_question}
use Rattle.iam_every.specs.Made.{AreShown}
use Rattle.iam_open_every.specs.Looked.{AreOpenGroupsAt}
use Rattle.iam_open_every.specs.Turned.{AreTurnedAlike}
use Rattle.iam_world.specs.World.{WorldValue}

-- whatever the action, in each context in question the same is decided on both texts
abbrev pub AreTextsTurnedAlike : WorldValue → ℕ → Unnamed → List ℕ → List ℕ → Type 0
AreTextsTurnedAlike world p unnamed one other =
    (action : List ℕ) → AreTurnedAlike world p unnamed action one other × AreTurnedAlike world p unnamed action other one

-- texts of which line k is the first to speak, and that no resource of the world has; each such text is like one of them
pub record AreAllTexts (every : EveryValue) (p k : ℕ) (texts : List (List ℕ)) : Type 0 where
  pub lined : All (λ text. (unnamed : Unnamed) × IsLined every k text unnamed) texts
  pub whole : (text : List ℕ) (unnamed : Unnamed) → IsUtf8 text → IsLined every k text unnamed
      → (shown : List ℕ) × Contains texts shown × AreTextsTurnedAlike every.world p unnamed shown text

-- of the texts that are shown of line k, one of each kind by these groups, those of which the line is the first to speak
pub record AreFirstShown (every : EveryValue) (k : ℕ) (line : LineValue) (groups : List (List (List Sign))) (texts : List (List ℕ)) : Type 0 where
  pub kinds : List (List ℕ)
  pub shown : AreShown (line_question every k line groups) kinds
  pub first : Selects (λ text. IsFirstOf every.lines text k) kinds texts

-- by these groups there are too many kinds of texts, or these are shown, and are all, for whom the groups tell all texts apart
abbrev pub AreTextsBy : EveryValue → ℕ → List (List (List Sign)) → Option (List (List ℕ)) → Type 0
AreTextsBy every k groups found =
    (line : LineValue) → slice_get every.lines k ≡ Some line
    → MatchOption found (PassesLimit (line_question every k line groups))
    (λ texts. AreFirstShown every k line groups texts
    × ((p : ℕ) → AreOpenGroupsAt every.world p line.unnamed groups → AreAllTexts every p k texts))
