-- The rows of a request.
use Rattle.std.proofs.Common.{◌≡◌, ◌≢◌, ◌∙◌, ◌++◌, ◌||◌, List, [], ◌∷◌, Bool, false, true, None, Option, ap, refl}
use Rattle.iam_decision.specs.declared.verdict.Verdict.{Verdict}
use Rattle.iam_open_changes.specs.Code.Adds.{Adds}
use Rattle.iam_open_changes.specs.Report.{AreOpenRows, AreRows, IsAt, IsGivenVerdict, is_untold, shown_rows}
use Rattle.iam_open_changes.specs.Rows.{RowValue}
use Rattle.iam_open_changes.specs.Told.{IsChange}
use Rattle.iam_open_changes.specs.declared.change.Change.{Change}
use Rattle.iam_open_changes.specs.declared.change.Told.{Told}
use Rattle.iam_open_changes.specs.declared.change.Told.TheVariants as told
use Rattle.iam_open_changes.specs.declared.example.Example.{Example}
use Rattle.iam_open_changes.specs.declared.numbers.Numbers.{Numbers}
use Rattle.iam_open_changes.specs.declared.row.Word.{Word}
use Rattle.iam_open_changes.specs.declared.row.Word.TheVariants.{Gained, Lost, Open}
use Rattle.iam_open_changes.specs.declared.rows.Part.{Part}
use Rattle.iam_open_changes.proofs.AddsLemmas.{adds_both}
use Rattle.iam_row.specs.Report.{CellTexts}
use Rattle.iam_row.specs.declared.quoted.Format.{Format}
use Rattle.iam_world.specs.World.{WorldValue}

pub texts_same : (one other : CellTexts) → one.principal ≡ other.principal → one.action ≡ other.action → one.resource ≡ other.resource → one ≡ other
texts_same one other principal action resource =
    ap (λ x. record { principal = x; action = one.action; resource = one.resource }) principal
    ∙ ap (λ x. record { principal = other.principal; action = x; resource = one.resource }) action
    ∙ ap (λ x. record { principal = other.principal; action = other.action; resource = x }) resource

-- the row of an example, where there is one
pub no_example : (texts : CellTexts) (word : Word) (it : Told) → ((example : Example) → it ≢ told.Shown example) → shown_rows texts word it ≡ []
no_example texts word told.Never none = refl
no_example texts word (told.Shown example) none = absurd (none example refl)
no_example texts word told.Open none = refl

pub no_open : (before after : WorldValue) (was now : Option Numbers) (texts : CellTexts) (one other : Bool) → one ≡ false → other ≡ false
    → AreOpenRows before after was now texts (one || other) []
no_open before after was now texts false false x y = refl
no_open before after was now texts true other x y = absurd (let wrong : ⊥ = cc in wrong)
no_open before after was now texts false true x y = absurd (let wrong : ⊥ = cc in wrong)

pub some_open : (before after : WorldValue) (was now : Option Numbers) (texts : CellTexts) (unknown : Bool) (said says : Option Verdict) → unknown ≡ true
    → IsGivenVerdict before was said → IsGivenVerdict after now says
    → AreOpenRows before after was now texts unknown
    (record { texts = texts; word = Open; before = said; after = says; example = None } ∷ [])
some_open before after was now texts true said says is given given' = (said, says, given, given', refl)
some_open before after was now texts false said says is given given' = absurd (let wrong : ⊥ = cc in wrong)

pub request_rows : (format : Format) (brief : Bool) (before after : WorldValue) (was now : Option Numbers) (texts : CellTexts) (change : Change)
    (opens : List RowValue) (a b c d : Part) → IsAt before texts was → IsAt after texts now → IsChange before after was now change
    → AreOpenRows before after was now texts (is_untold change.gained || is_untold change.lost) opens
    → Adds format brief a (shown_rows texts Gained change.gained) b → Adds format brief b (shown_rows texts Lost change.lost) c
    → Adds format brief c opens d → (rows : List RowValue) × AreRows before after texts rows × Adds format brief a rows d
request_rows format brief before after was now texts change opens a b c d at at' is unknown one two three =
    let gained = shown_rows texts Gained change.gained in
    let lost = shown_rows texts Lost change.lost in (
      gained ++ (lost ++ opens),
      record {
        was = was;
        now = now;
        change = change;
        opens = opens;
        at_before = at;
        at_after = at';
        told = is;
        opens_are = unknown;
        rows_are = refl;
      },
      adds_both format brief a b d gained (lost ++ opens) one (adds_both format brief b c d lost opens two three),
    )
