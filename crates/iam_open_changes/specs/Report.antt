-- The report on all requests of two worlds, whatever values the keys have that nothing gives. It names no worker. LOGIC 13.12.
use Rattle.std.specs.Prelude.{◌≡◌, ◌⊎◌, ℕ, List, [], ◌∷◌, ◌++◌, Bool, true, false, ◌||◌, MatchOption, Option, Some, None}
use Rattle.iam_changes.specs.Requests.{AreOfCells, Has}
use Rattle.iam_decision.specs.declared.verdict.Verdict.{Verdict}
use Rattle.iam_layers.specs.Cell.{IsVerdictAt}
use Rattle.iam_open_changes.specs.Rows.{RowValue, all_rows, kinds_of, report_text}
use Rattle.iam_open_changes.specs.Told.{IsChange}
use Rattle.iam_open_changes.specs.declared.change.Change.{Change}
use Rattle.iam_open_changes.specs.declared.change.Told.{Told}
use Rattle.iam_open_changes.specs.declared.change.Told.TheVariants as told
use Rattle.iam_open_changes.specs.declared.numbers.Numbers.{Numbers}
use Rattle.iam_open_changes.specs.declared.row.Word.{Word}
use Rattle.iam_open_changes.specs.declared.row.Word.TheVariants.{Gained, Lost, Open}
use Rattle.iam_open_changes.specs.declared.rows.Kinds.{Kinds}
use Rattle.iam_row.specs.Report.{CellTexts, HasTexts}
use Rattle.iam_row.specs.declared.quoted.Format.{Format}
use Rattle.iam_world.specs.World.{WorldValue}

-- these are the numbers in the world of the request with these texts; there are none where the world does not have it
abbrev pub IsAt : WorldValue → CellTexts → Option Numbers → Type 0
IsAt world texts at = MatchOption at (¬ Has world texts) (λ it. HasTexts world it.principal it.action it.resource texts)

-- the verdict on the request as the world has it, without other keys and at its moment
abbrev pub IsGivenVerdict : WorldValue → Option Numbers → Option Verdict → Type 0
IsGivenVerdict world at said =
    MatchOption at (said ≡ None) (λ it.
    (verdict : Verdict) × (said ≡ Some verdict) × IsVerdictAt world it.principal it.action it.resource verdict)

-- the row of an example
abbrev pub shown_rows : CellTexts → Word → Told → List RowValue
shown_rows texts word told.Never = []
shown_rows texts word (told.Shown example) =
    record {
      texts = texts;
      word = word;
      before = example.before;
      after = example.after;
      example = Some (record { own = example.own.items; moment = example.moment });
    }
    ∷ []
shown_rows texts word told.Open = []

abbrev pub is_untold : Told → Bool
is_untold told.Never = false
is_untold (told.Shown example) = false
is_untold told.Open = true

-- where something is open there is a row with the verdicts on the request as it is given
abbrev pub AreOpenRows : WorldValue → WorldValue → Option Numbers → Option Numbers → CellTexts → Bool → List RowValue → Type 0
AreOpenRows before after was now texts false rows = rows ≡ []
AreOpenRows before after was now texts true rows =
    (said says : Option Verdict) × IsGivenVerdict before was said × IsGivenVerdict after now says
    × (rows ≡ record { texts = texts; word = Open; before = said; after = says; example = None } ∷ [])

-- the rows of the request with these texts: one of an example of a gain, one of an example of a loss, and one where something is open
pub record AreRows (before after : WorldValue) (texts : CellTexts) (rows : List RowValue) : Type 0 where
  pub was : Option Numbers
  pub now : Option Numbers
  pub change : Change
  pub opens : List RowValue
  pub at_before : IsAt before texts was
  pub at_after : IsAt after texts now
  pub told : IsChange before after was now change
  pub opens_are : AreOpenRows before after was now texts (is_untold change.gained || is_untold change.lost) opens
  pub rows_are : rows ≡ shown_rows texts Gained change.gained ++ (shown_rows texts Lost change.lost ++ opens)

-- those of a request of BEFORE, where AFTER does not have it; one that AFTER has too has its rows there
abbrev pub AreLeftRows : WorldValue → WorldValue → CellTexts → List RowValue → Type 0
AreLeftRows before after texts rows = (Has after texts × (rows ≡ [])) ⊎ (¬ Has after texts × AreRows before after texts rows)

-- the report has the rows of each request of AFTER, in their order, then those of each that BEFORE alone has, in theirs
pub record IsAnyKeyChanges (format : Format) (brief : Bool) (before after : WorldValue) (text : List ℕ) (kinds : Kinds) : Type 0 where
  pub firsts : List (List RowValue)
  pub lasts : List (List RowValue)
  pub of_after : AreOfCells after (AreRows before after) firsts
  pub of_before : AreOfCells before (AreLeftRows before after) lasts
  pub is : text ≡ report_text format brief (all_rows (firsts ++ lasts))
  pub kinds_are : kinds ≡ kinds_of (all_rows (firsts ++ lasts))
