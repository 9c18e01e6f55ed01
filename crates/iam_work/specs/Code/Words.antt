-- The words and views of a table as a state of marks, and what a step on a word tells its seat.
use Rattle.std.specs.Prelude.{◌≡◌, ℕ, ◌+◌, ◌-◌, ◌*◌, ◌/◌, ◌%◌, ◌^◌, List, length, slice_index}
use Rattle.std.specs.Int.{bit_at}
use Rattle.atomic_table.specs.Table.{State}
use Rattle.iam_work.specs.declared.view.MarkView.{MarkView}
use Rattle.iam_work.specs.Code.MarkRule.{MarkState, MarkRule, after_mark, empty_view}
use Rattle.iam_work.specs.Work.{times}

-- the bit of a grain, 64 to a word
abbrev pub bit_of : List ℕ → ℕ → ℕ
bit_of words grain = bit_at (slice_index words (grain / 64)) (grain % 64)

-- the words for so many grains, and one where there is none
abbrev pub words_for : ℕ → ℕ
words_for grains = (grains - 1) / 64 + 1

abbrev pub state_of : List ℕ → List MarkView → MarkState
state_of words views = record { bits = bit_of words; views = views }

-- the rule of the table: its words are those of the grains, and with the views they keep the rule of the marks
pub record IsRuled (grains all : ℕ) (s : State (Unit {0}) MarkView) : Type 0 where
  pub wide : length s.words ≡ words_for grains
  pub rule : MarkRule grains all (state_of s.words s.views)

-- the opener's view, in which all seats stand at first
abbrev pub opened : ℕ → ℕ → MarkView
opened grains all = empty_view grains all all

-- a mark that found the bit: the view is that after such a mark, and had nothing of the grain where the bit was not set
pub record FindsBit (grain bit : ℕ) (v w : MarkView) : Type 0 where
  pub view : w ≡ after_mark grain bit v
  pub fresh : bit ≡ 0 → (times grain v.marked ≡ 0) × (times grain v.found ≡ 0)

-- what a mark by the mask of a grain, on its word, tells its seat
abbrev pub tells_mark : ℕ → ℕ → MarkView → ℕ → MarkView → Type 0
tells_mark word mask v found w =
    (grain : ℕ) → word ≡ grain / 64 → mask ≡ 1 * 2 ^ (grain % 64) % 2 ^ 64 → FindsBit grain (bit_at found (grain % 64)) v w
