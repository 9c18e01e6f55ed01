-- What can be shown of the texts of a line, whatever values the keys have that nothing gives: AWS IAM User Guide, "IAM JSON policy elements:
-- Resource" and "NotResource". LOGIC 11.12 and 15.
use Rattle.std.specs.Prelude.{◌≡◌, ℕ, List, Some, length, map, string_bytes}
use Rattle.std.specs.List.{slice_get}
use Rattle.iam_glob.specs.declared.sign.Sign.{Sign}
use Rattle.iam_kinds.specs.States.{PassesLimit}
use Rattle.iam_layers.specs.Unnamed.{IsSaid, world_and}
use Rattle.iam_every.specs.Every.{EveryValue, LineValue, line_question}
use Rattle.iam_open_every.specs.Looked.{AreGroupsSeen, AreOpenGroupsAt, AsksBeyondAt}
use Rattle.iam_open_every.specs.Texts.{AreAllTexts, AreFirstShown}
use Rattle.iam_open_every.specs.declared.lines.LineTexts.{LineTexts}
use Rattle.iam_open_every.specs.declared.lines.LineTexts.TheVariants.{Shown, TooMany, Beyond}
use Rattle.iam_world.specs.World.{ResourceValue, WorldValue}

-- P holds where principal p asks for a resource that is like those of the line
abbrev pub OnLine : (WorldValue → ℕ → ℕ → Type 0) → EveryValue → ℕ → LineValue → Type 0
OnLine P every p line =
    (text : List ℕ) × ((action : List ℕ) (resource : ResourceValue) → IsSaid every.world line.unnamed text resource
    → P (world_and every.world action resource) p (length every.world.resources))

-- by the groups of the statements that may concern, which tell apart all texts that are not alike, there are too many kinds of texts
pub record AreTooMany (every : EveryValue) (p k : ℕ) (line : LineValue) : Type 0 where
  pub groups : List (List (List Sign))
  pub seen : OnLine (λ world q r. AreGroupsSeen world q r groups) every p line
  pub tell : AreOpenGroupsAt every.world p line.unnamed groups
  pub passes : PassesLimit (line_question every k line groups)

-- by such groups these texts are shown
pub record AreShownBy (every : EveryValue) (p k : ℕ) (line : LineValue) (texts : List (List ℕ)) : Type 0 where
  pub groups : List (List (List Sign))
  pub seen : OnLine (λ world q r. AreGroupsSeen world q r groups) every p line
  pub tell : AreOpenGroupsAt every.world p line.unnamed groups
  pub shown : AreFirstShown every k line groups texts

-- on a resource that is like those of the line, a text of a resource element asks for a key that is not known
abbrev pub AsksBeyondOn : EveryValue → ℕ → LineValue → Type 0
AsksBeyondOn = OnLine AsksBeyondAt

-- this holds of line k where principal p asks
abbrev pub AreLineTexts : EveryValue → ℕ → ℕ → LineTexts → Type 0
AreLineTexts every p k (Shown texts) =
    AreAllTexts every p k (map string_bytes texts.items)
    × ((line : LineValue) × (slice_get every.lines k ≡ Some line) × AreShownBy every p k line (map string_bytes texts.items))
AreLineTexts every p k TooMany = (line : LineValue) × (slice_get every.lines k ≡ Some line) × AreTooMany every p k line
AreLineTexts every p k Beyond = (line : LineValue) × (slice_get every.lines k ≡ Some line) × AsksBeyondOn every p line
