-- The engines of two worlds, in a list.
use Rattle.std.proofs.Common.{◌≡◌, List, ap, ◌∙◌, slice_index_or, slice_set}
use Rattle.iam_matrix.specs.Engine.{EngineValue}
use Rattle.iam_compare.specs.Code.Walk.{AreEnginesOf}
use Rattle.iam_compare.specs.declared.walk.Workers.{Workers}

module _ (crew : Workers) (engines : List EngineValue) where
  -- the engine of AFTER
  pub second_engine : (engine : EngineValue) → AreEnginesOf crew engines → engine ≡ slice_index_or engines 1 engine → engine.world ≡ crew.after.now
  second_engine engine (before, after, both, (first, second)) is =
      let same : engine ≡ after = is ∙ ap (λ es. slice_index_or es 1 engine) both in
      ap (λ (e : EngineValue). e.world) same ∙ second

  -- the engine of BEFORE, where that of AFTER has been used
  pub first_engine : (used engine : EngineValue) → AreEnginesOf crew engines → engine ≡ slice_index_or (slice_set engines 1 used) 0 engine → engine.world ≡ crew.before.now
  first_engine used engine (before, after, both, (first, second)) is =
      let same : engine ≡ before = is ∙ ap (λ es. slice_index_or (slice_set es 1 used) 0 engine) both in
      ap (λ (e : EngineValue). e.world) same ∙ first

  -- what is read of an engine that has been used, and of both
  pub read_second : (used engine : EngineValue) → AreEnginesOf crew engines → engine ≡ slice_index_or (slice_set engines 1 used) 1 engine → engine ≡ used
  read_second used engine (before, after, both, (first, second)) is = is ∙ ap (λ es. slice_index_or (slice_set es 1 used) 1 engine) both

  pub read_first_of : (used other engine : EngineValue) → AreEnginesOf crew engines → engine ≡ slice_index_or (slice_set (slice_set engines 1 used) 0 other) 0 engine → engine ≡ other
  read_first_of used other engine (before, after, both, (first, second)) is = is ∙ ap (λ es. slice_index_or (slice_set (slice_set es 1 used) 0 other) 0 engine) both

  pub read_second_of : (used other engine : EngineValue) → AreEnginesOf crew engines → engine ≡ slice_index_or (slice_set (slice_set engines 1 used) 0 other) 1 engine → engine ≡ used
  read_second_of used other engine (before, after, both, (first, second)) is = is ∙ ap (λ es. slice_index_or (slice_set (slice_set es 1 used) 0 other) 1 engine) both

  -- they are of the same worlds once they have been used
  pub first_used : (other : EngineValue) → AreEnginesOf crew engines → other.world ≡ crew.before.now → AreEnginesOf crew (slice_set engines 0 other)
  first_used other (before, after, both, (first, second)) world = (other, after, ap (λ es. slice_set es 0 other) both, (world, second))

  pub both_used : (used other : EngineValue) → AreEnginesOf crew engines → used.world ≡ crew.after.now → other.world ≡ crew.before.now
      → AreEnginesOf crew (slice_set (slice_set engines 1 used) 0 other)
  both_used used other (before, after, both, (first, second)) last world = (other, used, ap (λ es. slice_set (slice_set es 1 used) 0 other) both, (world, last))
