-- What the workers of a crew are at together.
use Rattle.std.specs.Prelude.{◌≡◌, ℕ, ◌<◌}
use Rattle.iam_lanes.specs.Lanes.{LanesId}
use Rattle.iam_lanes.specs.Work.{WorkId}
use Rattle.iam_crew.specs.declared.shares.Shares.{Shares}

-- the crew, the lanes that keep its bound, the work, whose grains are the crew's tiles, and how many of these there are
pub record JobView (C : Type 0) : Type 0 where
  pub crew : C
  pub lanes : LanesId
  pub work : WorkId
  pub tiles : ℕ

-- a work with a grain for each tile and a seat for each worker, and a crew that takes each tile
pub record IsJob {C : Type 0} (takes : C → ℕ → Type 0) (crew : C) (work : WorkId) (shares : Shares) : Type 0 where
  pub tiles : work.grains ≡ shares.tiles
  pub workers : work.seats ≡ shares.workers
  pub takes_each : (tile : ℕ) → tile < shares.tiles → takes crew tile
