-- What is told grows by what is looked at.
use Rattle.std.specs.Prelude.{◌≡◌, ◌++◌, ◌||◌, List, filter, map}
use Rattle.iam_every_changes.specs.Changes.{ChangedValue, changed_of, is_told}
use Rattle.iam_every_changes.specs.Made.{has_rows}
use Rattle.iam_every_changes.specs.declared.looked.Looked.{Looked}

-- so much more was looked at
pub record Gains (old : Looked) (more : List ChangedValue) (new : Looked) : Type 0 where
  pub rows : map changed_of new.rows.items ≡ map changed_of old.rows.items ++ filter is_told more
  pub some : new.some ≡ (old.some || has_rows more)

-- so was this, of which P holds
abbrev pub Adds : Looked → (List ChangedValue → Type 0) → Looked → Type 0
Adds old P new = (more : List ChangedValue) × P more × Gains old more new
