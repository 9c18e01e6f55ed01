use Rattle.std.proofs.Common.{ℕ, Option, Some, None, subst, arith}
use Rattle.std.specs.Prelude.{⊤}
use Rattle.iam_world.specs.World.{WorldValue, world_cells}
use Rattle.iam_matrix.specs.Matrix.{IsFirstAllowed}
use Rattle.iam_matrix.specs.Code.Tiles.{IsFirstIn}
use Rattle.iam_matrix.proofs.search.first.Goals as goal

-- all cells are asked about
first_of_all : (world : WorldValue) (first : Option ℕ) → IsFirstIn (λ _. ⊤) world 0 (world_cells world) first → IsFirstAllowed world first
first_of_all world None none = λ cell below. none cell (omega arith) (omega arith) tt
first_of_all world (Some found) (is, within, lower) = (is.below, is.allowed, λ cell less. lower cell (omega arith) less tt)

pub returns-clause-ok : goal.returns-clause-ok
returns-clause-ok g c =
    let found = c.in_ok-first_asked.field-0 in
    let W : WorldValue → Type 0 = λ w. IsFirstAllowed w found in
    subst W c.in_ok-index.ensures (first_of_all c.in_ok-index.index found c.in_ok-first_asked.ensures)
