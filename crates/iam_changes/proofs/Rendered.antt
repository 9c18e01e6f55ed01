-- A row that is put together from the pieces of a change's request and what is kept of it is the change's.
use Rattle.std.proofs.Common.{◌≡◌, ℕ, List, [], ◌∷◌, ◌++◌, Option, Some, None, Bool, true, false, codes, refl, ap, ◌∙◌}
use Rattle.serde_json.specs.Data.{Data, string, object, no_members, member}
use Rattle.serde_json.specs.Written.{compact_text}
use Rattle.iam_decision.specs.declared.verdict.Verdict.{Verdict}
use Rattle.iam_row.specs.Changes.{ChangeRow, brief_fields, brief_object, change_word, full_fields, full_object, is_allowed, kind_by, said_data, said_word}
use Rattle.iam_row.specs.Code.ChangeParts.{change_pieces, change_row, text_behind}
use Rattle.iam_row.specs.Report.{CellTexts, csv_line}
use Rattle.iam_row.specs.declared.changes.Change.{Change}
use Rattle.iam_row.specs.declared.changes.Change.TheVariants.{Gained, Lost, Differs}
use Rattle.iam_row.specs.declared.quoted.Format.{Format}
use Rattle.iam_row.specs.declared.quoted.Format.TheVariants.{Csv, Json}
use Rattle.iam_row.proofs.ChangedLines.{pieces_row}
use Rattle.iam_changes.specs.Change.{ChangeValue, Changes, SaidValue, is_said_allowed, verdict_of}
use Rattle.iam_changes.specs.Code.Kept.{kept_said, pair_in}
use Rattle.iam_changes.specs.Code.Pieces.{pair_kind, pair_tail}
use Rattle.iam_changes.specs.Report.{row_of}
use Rattle.iam_changes.specs.declared.pair.Pair.{Pair}

-- the row of a change of these texts, with what is kept of it
abbrev pub row_at : CellTexts → Pair → ChangeRow
row_at texts pair = record { texts = texts; change = Some (pair_kind pair); before = pair.before; after = pair.after }

-- ---- what is kept of a change shows it

kept_allowed : (brief : Bool) (said : Option Verdict) → is_allowed (kept_said brief said) ≡ is_allowed said
kept_allowed true None = refl
kept_allowed true (Some verdict) = refl
kept_allowed false said = refl

kept_word : (said : Option Verdict) → said_word (kept_said true said) ≡ said_word said
kept_word None = refl
kept_word (Some verdict) = refl

kept_data : (said : Option Verdict) → said_data (kept_said true said) ≡ said_data said
kept_data None = refl
kept_data (Some verdict) = refl

differs_by : (b c : Bool) → b ≡ c → kind_by b c ≡ Differs
differs_by true true e = refl
differs_by false false e = refl
differs_by true false e = absurd (let wrong : ⊥ = cc in wrong)
differs_by false true e = absurd (let wrong : ⊥ = cc in wrong)

-- the kind that a row shows is that of the change
kind_is : (all : Bool) (before after : Option SaidValue) (change : Change) → Changes all before after change
    → kind_by (is_said_allowed before) (is_said_allowed after) ≡ change
kind_is all before after Gained (off, on) = ap (λ b. kind_by b (is_said_allowed after)) off ∙ ap (kind_by false) on
kind_is all before after Lost (on, off) = ap (λ b. kind_by b (is_said_allowed after)) on ∙ ap (kind_by true) off
kind_is all before after Differs (every, same, more) = differs_by (is_said_allowed before) (is_said_allowed after) same

kept_kind : (brief all : Bool) (change : ChangeValue) → Changes all change.before change.after change.change
    → pair_kind (pair_in brief change) ≡ change.change
kept_kind brief all change is =
    let before = verdict_of change.before in
    let after = verdict_of change.after in
    ap (λ b. kind_by b (is_allowed (kept_said brief after))) (kept_allowed brief before) ∙ ap (kind_by (is_allowed before)) (kept_allowed brief after)
    ∙ kind_is all change.before change.after change.change is

kept_fields : (all : Bool) (change : ChangeValue) → Changes all change.before change.after change.change
    → brief_fields (row_at change.texts (pair_in true change)) ≡ brief_fields (row_of change)
kept_fields all change is =
    let texts = change.texts in
    let fields : Change → List ℕ → List ℕ → List (List ℕ) = λ kind before after.
    change_word kind ∷ texts.principal ∷ texts.action ∷ texts.resource ∷ before ∷ after ∷ [] in
    let before = verdict_of change.before in
    let after = verdict_of change.after in
    let last = said_word (kept_said true after) in
    ap (λ kind. fields kind (said_word (kept_said true before)) last) (kept_kind true all change is)
    ∙ ap (λ word. fields change.change word last) (kept_word before) ∙ ap (fields change.change (said_word before)) (kept_word after)

kept_object : (all : Bool) (change : ChangeValue) → Changes all change.before change.after change.change
    → brief_object (row_at change.texts (pair_in true change)) ≡ brief_object (row_of change)
kept_object all change is =
    let texts = change.texts in
    let made : Change → Data → Data → Data = λ kind before after.
    object (member (codes "action") (string texts.action) (member (codes "after") after (member (codes "before") before (member (codes "change") (string (change_word kind))
    (member (codes "principal") (string texts.principal) (member (codes "resource") (string texts.resource) no_members)))))) in
    let before = verdict_of change.before in
    let after = verdict_of change.after in
    let last = said_data (kept_said true after) in
    ap (λ kind. made kind (said_data (kept_said true before)) last) (kept_kind true all change is)
    ∙ ap (λ shown. made change.change shown last) (kept_data before) ∙ ap (made change.change (said_data before)) (kept_data after)

kept_full : (all : Bool) (change : ChangeValue) → Changes all change.before change.after change.change
    → row_at change.texts (pair_in false change) ≡ row_of change
kept_full all change is =
    let made : Change → ChangeRow = λ kind. record { texts = change.texts; change = Some kind; before = verdict_of change.before; after = verdict_of change.after } in
    ap made (kept_kind false all change is)

kept_row : (format : Format) (brief all : Bool) (comma : List ℕ) (change : ChangeValue) → Changes all change.before change.after change.change
    → change_row format brief comma (row_at change.texts (pair_in brief change)) ≡ change_row format brief comma (row_of change)
kept_row Csv true all comma change is = ap csv_line (kept_fields all change is)
kept_row Json true all comma change is = ap (λ d. comma ++ compact_text d) (kept_object all change is)
kept_row Csv false all comma change is = ap (λ row. csv_line (full_fields row)) (kept_full all change is)
kept_row Json false all comma change is = ap (λ row. comma ++ compact_text (full_object row)) (kept_full all change is)

-- a row put together from the pieces of a change's request and what is kept of it is the change's
pub rendered : (format : Format) (brief all : Bool) (comma : List ℕ) (change : ChangeValue) → Changes all change.before change.after change.change
    → text_behind format comma (change_pieces format change.texts) (pair_tail format brief (pair_in brief change)) ≡ change_row format brief comma (row_of change)
rendered format brief all comma change is =
    pieces_row format brief comma (row_at change.texts (pair_in brief change)) ∙ kept_row format brief all comma change is
