-- Lines on texts that are cut off one by one.
use Rattle.std.specs.Prelude.{◌≡◌, ◌≤◌, ◌++◌, ℕ, List, length}
use Rattle.iam_world.specs.World.{WorldValue}
use Rattle.iam_asked.specs.File.{lines_of}
use Rattle.iam_asked.specs.TextLines.{AreTextLines, TextLineValue}

-- the lines before what is left of the bytes say this of texts, and are not too many
pub record HasTexts (world : WorldValue) (bytes left : List ℕ) (values : List TextLineValue) : Type 0 where
  pub lines : List (List ℕ)
  pub cut : lines_of bytes ≡ lines ++ lines_of left
  pub texts : AreTextLines world lines values
  pub few : length values ≤ 65536
