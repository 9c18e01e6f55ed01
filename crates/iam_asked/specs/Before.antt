-- What lines say of texts in another state of the same accounts: of the resource of the same text there, and of the account with the same
-- id. LOGIC 13.10.
use Rattle.std.specs.Prelude.{◌≡◌, ℕ, List, Some, take}
use Rattle.std.specs.List.{AllZip, slice_get}
use Rattle.iam_layers.specs.Unnamed.{HasAccount}
use Rattle.iam_world.specs.World.{WorldValue}
use Rattle.iam_asked.specs.TextLines.{SaidOfValue, TextLineValue, like_resource, of_account}
use Rattle.iam_asked.specs.Texts.{IsAt, IsFirstAt, IsNowhere, resource_texts}
use Rattle.iam_asked.specs.declared.text_fault.FaultyText.{FaultyText}
use Rattle.iam_asked.specs.declared.text_fault.TextFault.{TextFault}
use Rattle.iam_asked.specs.declared.text_fault.TextFault.TheVariants.{NoResource, NoAccount}

-- what is said after is this before
abbrev pub IsSaidBefore : WorldValue → WorldValue → SaidOfValue → SaidOfValue → Type 0
IsSaidBefore before after (like_resource n) was =
    (text : List ℕ) × (m : ℕ) × IsAt (resource_texts after) text n × IsFirstAt (resource_texts before) text m × (was ≡ like_resource m)
IsSaidBefore before after (of_account id) was = HasAccount before id × (was ≡ of_account id)

-- it can't be said before, for this fault
abbrev pub IsUnsaidBefore : WorldValue → WorldValue → SaidOfValue → TextFault → Type 0
IsUnsaidBefore before after (like_resource n) fault =
    (fault ≡ NoResource) × ((text : List ℕ) × IsAt (resource_texts after) text n × IsNowhere (resource_texts before) text)
IsUnsaidBefore before after (of_account id) fault = (fault ≡ NoAccount) × ¬ HasAccount before id

-- so is the line, of the same pattern
abbrev pub IsLineBefore : WorldValue → WorldValue → TextLineValue → TextLineValue → Type 0
IsLineBefore before after line was = (was.pattern ≡ line.pattern) × IsSaidBefore before after line.said was.said

abbrev pub AreLinesBefore : WorldValue → WorldValue → List TextLineValue → List TextLineValue → Type 0
AreLinesBefore before after lines were = AllZip (IsLineBefore before after) lines were

-- the first line of which it can't be said, behind those of which it can
pub record IsFirstUnsaid (before after : WorldValue) (lines : List TextLineValue) (faulty : FaultyText) : Type 0 where
  pub line : TextLineValue
  pub at : slice_get lines faulty.line ≡ Some line
  pub is : IsUnsaidBefore before after line.said faulty.fault
  pub were : List TextLineValue
  pub said : AreLinesBefore before after (take faulty.line lines) were
