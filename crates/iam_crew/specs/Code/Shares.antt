-- How tiles are dealt out to workers that begin.
use Rattle.std.specs.Prelude.{ℕ, ◌*◌, ◌/◌}

-- the first tile of a worker
unfoldable pub start_of : ℕ → ℕ → ℕ → ℕ
start_of tiles workers worker = worker * tiles / workers
