-- The report of the rows of all cells of two worlds is that of their changes, with its kinds.
use Rattle.std.proofs.Common.{◌≡◌, ◌↔◌, ◌⊎◌, ℕ, ◌+◌, ◌<◌, zero, suc, Bool, true, false, List, [], ◌∷◌, Option, Some, None, get_or, length, map, sum, refl, sym, ap, subst, ◌∙◌, ⊎_elim, inl, inr, arith}
use Rattle.std.specs.List.{AllByRecursion, AllZip, Any}
use Rattle.std.proofs.lemmas.Bool.{cases_lt}
use Rattle.iam_layers.specs.Laws.{OneTriple}
use Rattle.iam_world.specs.World.{world_cells}
use Rattle.iam_row.specs.Changes.{changes_text}
use Rattle.iam_row.specs.Report.{CellTexts, IsCellTexts}
use Rattle.iam_row.specs.declared.changes.Change.{Change}
use Rattle.iam_row.specs.declared.changes.Change.TheVariants.{Gained, Lost, Differs}
use Rattle.iam_row.specs.declared.quoted.Format.{Format}
use Rattle.iam_row.specs.declared.quoted.Quoted.{Quoted}
use Rattle.iam_row.specs.declared.tail.Tail.{Tail}
use Rattle.iam_matrix.specs.Matrix.{AreEntriesFrom}
use Rattle.iam_changes.specs.Code.Found.{RequestsValue}
use Rattle.iam_changes.specs.Lists.{somes}
use Rattle.iam_changes.specs.Requests.{AreRequests, IsCount}
use Rattle.iam_changes.specs.Change.{AreChanges, AskedValue, ChangeValue, IsRow}
use Rattle.iam_changes.specs.Code.Kept.{kinds_in, no_kinds, with_kind}
use Rattle.iam_changes.specs.Code.Pieces.{ArePiecesOf, PartValue, ReportValue, lead_of, report_text, rows_in}
use Rattle.iam_changes.specs.Report.{HasKinds, IsChangesReport, row_of}
use Rattle.iam_changes.specs.declared.change.Kinds.{Kinds}
use Rattle.iam_changes.specs.declared.text.Pieces.{Pieces}
use Rattle.iam_changes.proofs.Cells.{inside}
use Rattle.iam_changes.proofs.Listed.{IsBehind, IsLed, IsWritten, cell_row, change_in, listed}
use Rattle.iam_changes.proofs.Pieced.{row_after, row_before}
use Rattle.iam_compare.specs.Code.Walk.{AreParts, IsRowAt, kinds_with, numbered, reached}
use Rattle.iam_compare.proofs.Reaches.{reach_first, reach_past}
use Rattle.iam_compare.proofs.Wholes.{all_parts, changes_of}

-- ---- numbered rows

-- the first entry, and the others
first_entry : {X : Type 0} (Is : ℕ → X → Type 0) (from : ℕ) (x : X) (xs : List X) → AreEntriesFrom Is from (x ∷ xs) → Is from x
first_entry Is from x xs each = let same : from + 0 ≡ from = omega arith in subst (λ k. Is k x) same (each 0 x refl)

other_entries : {X : Type 0} (Is : ℕ → X → Type 0) (from : ℕ) (x : X) (xs : List X) → AreEntriesFrom Is from (x ∷ xs) → AreEntriesFrom Is (from + 1) xs
other_entries Is from x xs each i y at = let same : from + suc i ≡ from + 1 + i = omega arith in subst (λ k. Is k y) same (each (suc i) y at)

-- what holds of each entry that is there holds of its row
numbered_each : (Is : ℕ → Option ChangeValue → Type 0) (P : ℕ × ChangeValue → Type 0) → ((cell : ℕ) (change : ChangeValue) → Is cell (Some change) → P (cell, change))
    → (from : ℕ) (entries : List (Option ChangeValue)) → AreEntriesFrom Is from entries → AllByRecursion P (numbered from entries)
numbered_each Is P up from [] each = tt
numbered_each Is P up from (None ∷ entries) each = numbered_each Is P up (from + 1) entries (other_entries Is from None entries each)
numbered_each Is P up from (Some change ∷ entries) each =
    (up from change (first_entry Is from (Some change) entries each), numbered_each Is P up (from + 1) entries (other_entries Is from (Some change) entries each))

-- the changes of numbered rows
changes_in : (from : ℕ) (entries : List (Option ChangeValue)) → map change_in (numbered from entries) ≡ somes entries
changes_in from [] = refl
changes_in from (None ∷ entries) = changes_in (from + 1) entries
changes_in from (Some change ∷ entries) = ap (λ cs. change ∷ cs) (changes_in (from + 1) entries)

-- they are of cells from this one on
all_behind : (lead from : ℕ) (entries : List (Option ChangeValue)) → lead < from → AllByRecursion (IsBehind lead) (numbered from entries)
all_behind lead from [] above = tt
all_behind lead from (None ∷ entries) above = all_behind lead (from + 1) entries (omega (arith, above))
all_behind lead from (Some change ∷ entries) above = (record { above = above }, all_behind lead (from + 1) entries (omega (arith, above)))

numbered_led : (from : ℕ) (entries : List (Option ChangeValue)) → IsLed (numbered from entries)
numbered_led from [] = tt
numbered_led from (None ∷ entries) = numbered_led (from + 1) entries
numbered_led from (Some change ∷ entries) = all_behind from (from + 1) entries (omega arith)

-- ---- their rows are written as they have to be

row_written : (asked : AskedValue) (requests : RequestsValue) (pieces : Pieces) (format : Format) (brief : Bool) → ArePiecesOf requests.before pieces.before → ArePiecesOf requests.after pieces.after
    → pieces.before.format ≡ format → pieces.after.format ≡ format → pieces.cells ≡ world_cells requests.after
    → (cell : ℕ) (change : ChangeValue) → IsRowAt asked requests cell (Some change) → IsWritten pieces format brief (cell, change)
row_written asked requests pieces format brief of_before of_after before after cells cell change (texts, place) =
    ⊎_elim
    (λ (is, (selects, same, changed)).
    let below : cell < pieces.cells = omega (arith, inside requests.after cell texts is, cells) in
    let has = subst (IsCellTexts requests.after cell) (sym same) is in
    record { text = row_after requests.after pieces format brief asked.all cell change of_after after below has changed.is })
    (λ (own, number, is, (absent, (selects, same, changed))).
    let has = subst (IsCellTexts requests.before own) (sym same) is in
    record { text = row_before requests.before pieces format brief asked.all cell own change of_before before (number ∙ ap (λ n. n + own) (sym cells)) has changed.is })
    place

-- ---- kinds

any_here : {X : Type 0} (P : X → Type 0) (x : X) (xs : List X) → P x → Any P (x ∷ xs)
any_here P x xs is = (0, x, omega arith, refl, is)

any_behind : {X : Type 0} (P : X → Type 0) (x : X) (xs : List X) → Any P xs → Any P (x ∷ xs)
any_behind P x xs (k, y, below, at, is) = (suc k, y, omega (arith, below), at, is)

any_first : {X : Type 0} (P : X → Type 0) (x : X) (xs : List X) (k : ℕ) (y : X) → k < length (x ∷ xs) → get_or (x ∷ xs) k y ≡ y → P y → P x ⊎ Any P xs
any_first P x xs zero y below at is = inl (subst P (sym at) is)
any_first P x xs (suc k) y below at is = inr (k, y, omega (arith, below), at, is)

-- whether there is one of a kind is told by one part of what is kept
abbrev Tells : (Kinds → Bool) → Change → Type 0
Tells part kind = (kinds : Kinds) (change : Change) → (part (with_kind kinds change) ≡ true) ↔ ((part kinds ≡ true) ⊎ (change ≡ kind))

tells_gained : Tells (λ kinds. kinds.gained) Gained
tells_gained kinds Gained = (λ on. inr refl, λ some. refl)
tells_gained kinds Lost = (λ on. inl on, λ some. ⊎_elim (λ on. on) (λ other. absurd (let wrong : ⊥ = cc in wrong)) some)
tells_gained kinds Differs = (λ on. inl on, λ some. ⊎_elim (λ on. on) (λ other. absurd (let wrong : ⊥ = cc in wrong)) some)

tells_lost : Tells (λ kinds. kinds.lost) Lost
tells_lost kinds Gained = (λ on. inl on, λ some. ⊎_elim (λ on. on) (λ other. absurd (let wrong : ⊥ = cc in wrong)) some)
tells_lost kinds Lost = (λ on. inr refl, λ some. refl)
tells_lost kinds Differs = (λ on. inl on, λ some. ⊎_elim (λ on. on) (λ other. absurd (let wrong : ⊥ = cc in wrong)) some)

tells_differs : Tells (λ kinds. kinds.differs) Differs
tells_differs kinds Gained = (λ on. inl on, λ some. ⊎_elim (λ on. on) (λ other. absurd (let wrong : ⊥ = cc in wrong)) some)
tells_differs kinds Lost = (λ on. inl on, λ some. ⊎_elim (λ on. on) (λ other. absurd (let wrong : ⊥ = cc in wrong)) some)
tells_differs kinds Differs = (λ on. inr refl, λ some. refl)

kind_found : (part : Kinds → Bool) (kind : Change) → Tells part kind → (kinds : Kinds) (changes : List ChangeValue) → part (kinds_with kinds changes) ≡ true
    → (part kinds ≡ true) ⊎ Any (λ change. change.change ≡ kind) changes
kind_found part kind tells kinds [] on = inl on
kind_found part kind tells kinds (c ∷ changes) on =
    ⊎_elim
    (λ before. ⊎_elim (λ old. inl old) (λ is. inr (any_here (λ (change : ChangeValue). change.change ≡ kind) c changes is)) ((tells kinds c.change).0 before))
    (λ behind. inr (any_behind (λ (change : ChangeValue). change.change ≡ kind) c changes behind))
    (kind_found part kind tells (with_kind kinds c.change) changes on)

kind_told : (part : Kinds → Bool) (kind : Change) → Tells part kind → (kinds : Kinds) (changes : List ChangeValue) → (part kinds ≡ true) ⊎ Any (λ change. change.change ≡ kind) changes
    → part (kinds_with kinds changes) ≡ true
kind_told part kind tells kinds [] some = ⊎_elim (λ on. on) (λ (k, c, below, at, is). absurd (omega (arith, below))) some
kind_told part kind tells kinds (c ∷ changes) some =
    kind_told part kind tells (with_kind kinds c.change) changes
    (⊎_elim (λ on. inl ((tells kinds c.change).1 (inl on)))
    (λ (k, d, below, at, is).
    ⊎_elim (λ here. inl ((tells kinds c.change).1 (inr here))) (λ behind. inr behind) (any_first (λ (change : ChangeValue). change.change ≡ kind) c changes k d below at is)) some)

kind_is : (part : Kinds → Bool) (kind : Change) → Tells part kind → part no_kinds ≡ false → (changes : List ChangeValue)
    → (part (kinds_with no_kinds changes) ≡ true) ↔ Any (λ change. change.change ≡ kind) changes
kind_is part kind tells none changes = (
  λ on. ⊎_elim (λ some. absurd (let wrong : ⊥ = cc in wrong)) (λ any. any) (kind_found part kind tells no_kinds changes on),
  λ any. kind_told part kind tells no_kinds changes (inr any),
)

has_kinds : (changes : List ChangeValue) → HasKinds changes (kinds_with no_kinds changes)
has_kinds changes = record {
  gained_is = kind_is (λ kinds. kinds.gained) Gained tells_gained refl changes;
  lost_is = kind_is (λ kinds. kinds.lost) Lost tells_lost refl changes;
  differs_is = kind_is (λ kinds. kinds.differs) Differs tells_differs refl changes;
}

-- ---- the changes

none_of : {X : Type 0} (xs : List X) → length xs ≡ 0 → xs ≡ []
none_of [] none = refl
none_of (x ∷ xs) none = absurd (omega (arith, none))

-- without requests there are no entries
no_changes : (asked : AskedValue) (requests : RequestsValue) (entries : List (Option ChangeValue)) (list : List CellTexts) → AreRequests requests.before requests.after list → length list ≡ 0
    → length entries ≡ 0 → AreChanges asked requests.before requests.after (somes entries)
no_changes asked requests entries list are none empty =
    (list, [], are, subst (λ l. AllZip (IsRow asked requests.before requests.after) l []) (sym (none_of list none)) tt, ap somes (none_of entries empty))

-- else they are those of all cells
all_changes : OneTriple → (asked : AskedValue) (requests : RequestsValue) (from to : ℕ) (entries : List (Option ChangeValue)) (list : List CellTexts) → AreRequests requests.before requests.after list
    → from ≡ 0 → to ≡ world_cells requests.after + world_cells requests.before → from + length entries ≡ to → AreEntriesFrom (IsRowAt asked requests) from entries
    → AreChanges asked requests.before requests.after (somes entries)
all_changes triples asked requests from to entries list are first last count each =
    changes_of triples asked requests entries list (omega (arith, first, last, count)) (subst (λ k. AreEntriesFrom (IsRowAt asked requests) k entries) first each) are

are_changes : OneTriple → (asked : AskedValue) (requests : RequestsValue) (n : ℕ) (entries : List (Option ChangeValue)) → IsCount requests.before requests.after requests.count → n ≡ requests.count
    → reached requests 0 + length entries ≡ reached requests n → AreEntriesFrom (IsRowAt asked requests) (reached requests 0) entries
    → AreChanges asked requests.before requests.after (somes entries)
are_changes triples asked requests n entries (list, are, counted) all count each =
    let first = world_cells requests.after in
    let last = world_cells requests.before in
    let end : reached requests n ≡ first + last = reach_past first last requests.count n (omega (arith, all)) in
    ⊎_elim
    (λ some.
    let start : reached requests 0 ≡ 0 = reach_first first last requests.count 0 some (omega arith) in
    all_changes triples asked requests (reached requests 0) (reached requests n) entries list are start end count each)
    (λ none.
    let start : reached requests 0 ≡ first + last = reach_past first last requests.count 0 none in
    no_changes asked requests entries list are (omega (arith, counted, none)) (omega (arith, start, end, count)))
    (cases_lt 0 requests.count)

-- ---- the report

abbrev pub report_of : RequestsValue → Quoted → Quoted → Bool → List PartValue → ReportValue
report_of requests before after brief parts = record {
  pieces = record { before = before; after = after; cells = world_cells requests.after; lead = lead_of (rows_in parts) };
  brief = brief;
  rows = rows_in parts;
  kinds = kinds_in parts;
}

pub reported : OneTriple → (asked : AskedValue) (requests : RequestsValue) (format : Format) (brief : Bool) (lengths : List ℕ) (parts : List PartValue) (before after : Quoted)
    → IsCount requests.before requests.after requests.count → sum lengths ≡ requests.count → ArePiecesOf requests.before before → ArePiecesOf requests.after after
    → before.format ≡ format → after.format ≡ format → AreParts asked requests format brief lengths parts
    → IsChangesReport format brief asked requests.before requests.after (report_text (report_of requests before after brief parts)) (kinds_in parts)
reported triples asked requests format brief lengths parts before after counted whole of_before of_after before_is after_is are =
    let made = all_parts asked requests format brief 0 lengths parts are in
    let Is = IsRowAt asked requests in
    let start = reached requests 0 in
    let entries = made.entries in
    let rows = numbered start entries in
    let pieces : List (ℕ × Tail) → Pieces = λ shown. record { before = before; after = after; cells = world_cells requests.after; lead = lead_of shown } in
    let value : List (ℕ × Tail) → ReportValue = λ shown. record { pieces = pieces shown; brief = brief; rows = shown; kinds = kinds_in parts } in
    let shown = map (cell_row format brief) rows in
    let all : 0 + sum lengths ≡ requests.count = omega (arith, whole) in
    let written = numbered_each Is (IsWritten (pieces shown) format brief) (row_written asked requests (pieces shown) format brief of_before of_after before_is after_is refl) start entries made.are.each in
    let text = listed format brief (pieces shown) (kinds_in parts) rows after_is refl written (numbered_led start entries) in (
      somes entries,
      are_changes triples asked requests (0 + sum lengths) entries counted all made.count made.are.each,
      ap (λ rs. report_text (value rs)) made.rows_are ∙ text ∙ ap (λ (cs : List ChangeValue). changes_text format brief (map row_of cs)) (changes_in start entries),
      subst (HasKinds (somes entries)) (sym made.kinds_are) (has_kinds (somes entries)),
    )
