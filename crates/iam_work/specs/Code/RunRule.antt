-- The rule of a deque of runs, and what a call on it does to a view.
use Rattle.std.specs.Prelude.{◌≡◌, ℕ, ◌+◌, Bool, true, false, List, [], ◌∷◌, ◌++◌, length, drop, All}
use mathlib.Core.Option.{some}
use lib.ListN.{get_elem?}
use Rattle.iam_work.specs.declared.run.Run.{Run}
use Rattle.iam_work.specs.declared.view.DequeView.{DequeView}
use Rattle.iam_work.specs.Work.{IsWithin}

-- The rule: the deque holds non-empty runs within the grains. Each pass knows how many grains there are, and where one of them is alone there is no other, and it
-- knows what the deque holds
pub record HoldsRuns (items : List Run) (views : List DequeView) : Type 0 where
  pub grains : ℕ
  pub runs : All (IsWithin grains) items
  pub known : (port : ℕ) (v : DequeView) → get_elem? views port ≡ some v → v.grains ≡ grains
  pub alone : (port : ℕ) (v : DequeView) → get_elem? views port ≡ some v → v.alone ≡ true → (length views ≡ 1) × (items ≡ v.held)

-- a view of a pass that pushed and took nothing
abbrev pub idle_view : ℕ → Bool → DequeView
idle_view grains alone = record { grains = grains; alone = alone; held = []; pushed = []; taken = [] }

-- the owner's view before it is told of the grains
abbrev pub founder : DequeView
founder = idle_view 0 true

-- the owner's view once it is told of the grains by the run of them all
abbrev pub told : List Run → DequeView → DequeView
told [] v = v
told (run ∷ runs) v = record v { grains = run.first + run.count; held = v.held ++ run ∷ runs }

-- the owner's view once it has taken that run out again
abbrev pub cleared : List Run → DequeView → DequeView
cleared runs v = record v { held = drop (length runs) v.held }

-- a view that gains runs among those that it pushed, and among those that it took
abbrev pub with_pushed : List Run → DequeView → DequeView
with_pushed runs v = record v { held = v.held ++ runs; pushed = v.pushed ++ runs }

abbrev pub with_taken : List Run → DequeView → DequeView
with_taken runs v = record v { held = drop (length runs) v.held; taken = v.taken ++ runs }

-- the owner's view once another pass was made, and the view of that pass
abbrev pub accompanied : DequeView → DequeView
accompanied v = record v { alone = false }

abbrev pub companion : DequeView → DequeView
companion v = idle_view v.grains false
