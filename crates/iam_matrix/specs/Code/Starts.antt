-- The first cells of tiles, beside the definition (`Cut`).
use Rattle.std.specs.Prelude.{◌≡◌, ℕ, ◌<◌, List, length, slice_index}
use Rattle.iam_matrix.specs.Cut.{start_of}

-- the first cell of each tile
pub record AreStarts (lengths starts : List ℕ) : Type 0 where
  pub count : length starts ≡ length lengths
  pub each : (tile : ℕ) → tile < length lengths → slice_index starts tile ≡ start_of lengths tile
