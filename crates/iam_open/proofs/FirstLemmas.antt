-- The first request of those that are selected of which it is not seen that it is never allowed.
use Rattle.std.proofs.Common.{◌≡◌, ◌≢◌, ◌∙◌, ℕ, zero, suc, ◌+◌, ◌*◌, ◌/◌, ◌<◌, ◌≤◌, List, [], ◌∷◌, Option, Some, None, ⊎_elim, ap, arith, length, refl, subst, sym, ◌++◌, true}
use Rattle.std.specs.List.{slice_get}
use Rattle.std.proofs.Math.Nat.{div-mul-le_self, lt-div-mul-add}
use Rattle.std.proofs.lemmas.Bool.{cases_lt}
use Rattle.std.proofs.lemmas.List.{append-nil}
use Rattle.std.proofs.lemmas.Nat.{le-div}
use Rattle.iam_open.specs.Asked.{AskedValue, IsSelected}
use Rattle.iam_open.specs.Code.Parts.{AreNeverBelow, IsFirstIn, IsFoundHere, found_report, from_of, to_of}
use Rattle.iam_open.specs.First.{IsFirstTurnedReport, IsNeverAt}
use Rattle.iam_open.specs.InQuestion.{IsNever}
use Rattle.iam_open.specs.Rows.{opening_text, word_of}
use Rattle.iam_open.specs.Turned.{IsTurned}
use Rattle.iam_open.specs.declared.answer.Turned.{Turned}
use Rattle.iam_open.specs.declared.answer.Turned.TheVariants.{Always, Never, Possible, Open}
use Rattle.iam_open.specs.declared.asked.Word.TheVariants as word
use Rattle.iam_open.specs.declared.first.Found.{Found}
use Rattle.iam_row.specs.declared.quoted.Format.TheVariants.{Csv}
use Rattle.iam_world.specs.World.{WorldValue, world_cells}

-- a request that is told to be never allowed is
pub never_said : (worlds : List WorldValue) (world : WorldValue) (p a r : ℕ) (turned : Turned) → word_of turned ≡ word.Never
    → IsTurned worlds world p a r turned → IsNever worlds world p a r
never_said worlds world p a r Always same told = absurd (let wrong : ⊥ = cc in wrong)
never_said worlds world p a r Never same told = told
never_said worlds world p a r (Possible example) same told = absurd (let wrong : ⊥ = cc in wrong)
never_said worlds world p a r Open same told = absurd (let wrong : ⊥ = cc in wrong)

-- one more cell
pub never_more : (asked : AskedValue) (world : WorldValue) (from to cell : ℕ) → (IsSelected asked world cell → IsNeverAt world cell)
    → AreNeverBelow asked world from to cell → AreNeverBelow asked world from to (cell + 1)
never_more asked world from to cell here before k above inside below selected =
    ⊎_elim (λ lower. before k above inside lower selected)
    (λ past.
    let same : cell ≡ k = omega (arith, past, below) in
    subst (λ n. IsSelected asked world n → IsNeverAt world n) same here selected)
    (cases_lt k cell)

-- no cell so far
pub never_none : (asked : AskedValue) (world : WorldValue) (from to : ℕ) → AreNeverBelow asked world from to from
never_none asked world from to k above inside below selected = absurd (let wrong : ⊥ = omega (arith, above, below) in wrong)

-- all cells were looked at
pub never_all : (asked : AskedValue) (world : WorldValue) (from to cell : ℕ) → to ≤ cell → AreNeverBelow asked world from to cell
    → AreNeverBelow asked world from to to
never_all asked world from to cell past before k above inside below selected = before k above inside (omega (arith, past, inside)) selected

-- nothing was found here
pub none_here : (asked : AskedValue) (world : WorldValue) (cell : ℕ) (found : Option Found) → ((one : Found) → found ≢ Some one)
    → IsFoundHere asked world cell found → IsSelected asked world cell → IsNeverAt world cell
none_here asked world cell None none here = here
none_here asked world cell (Some found) none here = absurd (none found refl)

pub none_in : (asked : AskedValue) (world : WorldValue) (from to : ℕ) (found : Option Found) → ((one : Found) → found ≢ Some one)
    → IsFirstIn asked world from to found → AreNeverBelow asked world from to to
none_in asked world from to None none are = are
none_in asked world from to (Some found) none are = absurd (none found refl)

-- the first of these cells was found
pub found_here : (asked : AskedValue) (world : WorldValue) (from to cell : ℕ) (found : Found) → from ≤ cell → cell < to
    → AreNeverBelow asked world from to cell → IsFoundHere asked world cell (Some found) → IsFirstIn asked world from to (Some found)
found_here asked world from to cell found above inside before (same, other) = record {
  more = omega (arith, above, same);
  less = omega (arith, inside, same);
  other = other;
  lower = subst (λ n. AreNeverBelow asked world from to n) (sym same) before;
}

some_at : {O : Type 0} (xs : List O) (i : ℕ) → i < length xs → (x : O) × (slice_get xs i ≡ Some x)
some_at [] i below = absurd (let wrong : ⊥ = omega (arith, below) in wrong)
some_at (x ∷ xs) zero below = (x, refl)
some_at (x ∷ xs) (suc i) below = some_at xs i (omega (arith, below))

-- each cell lies in a tile
pub tiles_never : {O : Type 0} (asked : AskedValue) (world : WorldValue) (each bound : ℕ) (outputs : List O) → 0 < each
    → length outputs ≡ world_cells world / each + 1
    → ((tile : ℕ) (output : O) → slice_get outputs tile ≡ Some output
    → AreNeverBelow asked world (from_of world each tile) (to_of world each tile) bound)
    → (cell : ℕ) → cell < world_cells world → cell < bound → IsSelected asked world cell → IsNeverAt world cell
tiles_never asked world each bound outputs some count given cell inside below =
    let tile = cell / each in
    let low : tile * each ≤ cell = div-mul-le_self cell each in
    let high : cell < tile * each + each = lt-div-mul-add some in
    let few : tile ≤ world_cells world / each = le-div tile (world_cells world) each some (omega (arith, low, inside)) in
    let (output, there) = some_at outputs tile (omega (arith, few, count)) in
    given tile output there cell (omega (arith, low)) (omega (arith, low, high, inside)) below

-- the report, where no cell that is below the one from which on was looked is to be told
pub first_whole : (asked : AskedValue) (world : WorldValue) (from : ℕ)
    → ((cell : ℕ) → cell < world_cells world → cell < from → IsSelected asked world cell → IsNeverAt world cell) → (found : Option Found)
    → IsFirstIn asked world from (world_cells world) found → (text : List ℕ) → text ≡ found_report found → IsFirstTurnedReport asked world text
first_whole asked world from before None none text is = record {
  first = None;
  found = λ cell inside selected.
      ⊎_elim (λ lower. before cell inside lower selected) (λ past. none cell past inside inside selected) (cases_lt cell from);
  is = is ∙ sym (append-nil (opening_text Csv true));
}
first_whole asked world from before (Some found) is_found text is = record {
  first = Some (record { cell = found.cell; row = is_found.other.row });
  found = (
    is_found.other.selected,
    is_found.other.is_row,
    is_found.other.other,
    λ lower less selected.
        ⊎_elim (λ low. before lower (omega (arith, less, is_found.less)) low selected)
        (λ past. is_found.lower lower past (omega (arith, less, is_found.less)) less selected) (cases_lt lower from),
  );
  is = is ∙ ap (λ it. opening_text Csv true ++ it) is_found.other.text;
}
