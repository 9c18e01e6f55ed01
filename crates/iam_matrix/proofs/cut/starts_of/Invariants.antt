use Rattle.std.proofs.Common.{◌≡◌, ◌<◌, ℕ, get_or, vec_len}
use Rattle.iam_matrix.specs.Cut.{start_of}
use Rattle.iam_matrix.proofs.cut.starts_of.Given as goal

abbrev pub invariant-loop-length : goal.invariant-loop-length
invariant-loop-length l = record {
  start : l.start ≡ start_of l.lengths l.length-index;
  count : vec_len l.starts ≡ l.length-index;
  each : (tile : ℕ) → tile < l.length-index → get_or l.starts.items tile 0 ≡ start_of l.lengths tile;
}
