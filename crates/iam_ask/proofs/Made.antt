-- Rows that are put together from pieces are the report of requests.
use Rattle.std.proofs.Common.{◌≡◌, ℕ, zero, suc, ◌+◌, ◌<◌, ◌==◌, Bool, true, false, List, [], ◌∷◌, ◌++◌, Some, codes, if◌then◌else◌, length, map, refl, sym, ap, ◌∙◌, subst, arith, append_assoc}
use Rattle.std.specs.List.{concat, slice_get}
use Rattle.std.proofs.lemmas.Bool.Decides.{nat_tests}
use Rattle.std.proofs.lemmas.Option.{get_or_from_slice_get}
use Rattle.serde_json.specs.Data.{Data}
use Rattle.serde_json.specs.View.{items_of}
use Rattle.serde_json.specs.Written.{compact_text, items_text}
use Rattle.iam_decision.specs.declared.verdict.Verdict.{Verdict}
use Rattle.iam_world.specs.World.{WorldValue}
use Rattle.iam_layers.specs.Cell.{principal_text}
use Rattle.iam_row.specs.Piece.{IsQuotedOf, closing_text, comma_before, full_tail, opening_text, pieces_at, pieces_of, row_at, row_text, tail_of}
use Rattle.iam_row.specs.Report.{CellTexts, brief_layout, full_layout, json_text}
use Rattle.iam_row.specs.declared.quoted.Format.{Format}
use Rattle.iam_row.specs.declared.quoted.Format.TheVariants.{Csv, Json}
use Rattle.iam_row.specs.declared.quoted.Quoted.{Quoted}
use Rattle.iam_row.specs.declared.tail.Tail.{Tail}
use Rattle.iam_row.proofs.Rendered.{brief_rendered, full_rendered}
use Rattle.iam_row.proofs.Rows.{found}
use Rattle.iam_row.proofs.Texts.{pieces_there}
use Rattle.iam_matrix.specs.Matrix.{AreEntriesFrom}
use Rattle.iam_asked.specs.Request.{AskedValue, RequestsValue}
use Rattle.iam_ask.specs.Report.{AreRows, HasAskedTexts, IsAskReport, IsDecisionOn, IsRowOf, IsVerdictOn}
use Rattle.iam_ask.specs.Code.Rows.{IsAnswerTo, IsBareOn, IsOn, IsThere, none_asked, position_at, position_of, rows_text}

-- ---- one row

-- a request that is there has texts
texts_of : (world : WorldValue) (asked : AskedValue) → IsThere world asked → (texts : CellTexts) × HasAskedTexts world asked texts
texts_of world asked there =
    let principal = found world.principals asked.principal there.principal in
    let action = found world.actions asked.action there.action in
    let resource = found world.resources asked.resource there.resource in (
      record { principal = principal_text principal.0; action = action.0; resource = resource.0.arn },
      record { principal = (principal.0, principal.1, refl); action = action.1; resource = (resource.0, resource.1, refl) },
    )

-- its row has their pieces
pieced : (format : Format) (requests : RequestsValue) (quoted : Quoted) (n : ℕ) (asked : AskedValue) (texts : CellTexts) (tail : Tail)
    → IsQuotedOf requests.world quoted → quoted.format ≡ format → slice_get requests.asked n ≡ Some asked → HasAskedTexts requests.world asked texts
    → row_at quoted (position_at requests.asked n) tail ≡ row_text format n (pieces_of format texts) tail
pieced format requests quoted n asked texts tail same is at has =
    ap (λ (a : AskedValue). row_at quoted (position_of n a) tail) (get_or_from_slice_get requests.asked n asked none_asked at)
    ∙ ap (λ f. row_text f n (pieces_at quoted (position_of n asked)) tail) is
    ∙ ap (λ p. row_text format n p tail) (pieces_there requests.world quoted (position_of n asked) texts same has ∙ ap (λ f. pieces_of f texts) is)

-- the row of an entry, as it is shown
abbrev Shows : {X B : Type 0} → RequestsValue → Quoted → (WorldValue → AskedValue → X → Type 0) → (ℕ → CellTexts → X → B) → (ℕ → B → List ℕ) → Tail → ℕ → Type 0
Shows {X} {B} requests quoted Is row shown tail n =
    (made : B) × IsRowOf requests Is row n made × (row_at quoted (position_at requests.asked n) tail ≡ shown n made)

abbrev line : ℕ → List ℕ → List ℕ
line n made = made

abbrev object : ℕ → Data → List ℕ
object n made = comma_before n ++ compact_text made

full_csv : (requests : RequestsValue) (quoted : Quoted) → IsQuotedOf requests.world quoted → quoted.format ≡ Csv → (n : ℕ) (verdict : Verdict)
    → IsOn IsVerdictOn requests n verdict → Shows requests quoted IsVerdictOn full_layout.line line (full_tail Csv verdict) n
full_csv requests quoted same format n verdict (asked, at, (there, is)) =
    let (texts, has) = texts_of requests.world asked there in (
      full_layout.line n texts verdict,
      (asked, at, (texts, verdict, has, is, refl)),
      pieced Csv requests quoted n asked texts (full_tail Csv verdict) same format at has ∙ full_rendered Csv n texts verdict,
    )

full_json : (requests : RequestsValue) (quoted : Quoted) → IsQuotedOf requests.world quoted → quoted.format ≡ Json → (n : ℕ) (verdict : Verdict)
    → IsOn IsVerdictOn requests n verdict → Shows requests quoted IsVerdictOn full_layout.object object (full_tail Json verdict) n
full_json requests quoted same format n verdict (asked, at, (there, is)) =
    let (texts, has) = texts_of requests.world asked there in (
      full_layout.object n texts verdict,
      (asked, at, (texts, verdict, has, is, refl)),
      pieced Json requests quoted n asked texts (full_tail Json verdict) same format at has ∙ full_rendered Json n texts verdict,
    )

brief_csv : (requests : RequestsValue) (quoted : Quoted) → IsQuotedOf requests.world quoted → quoted.format ≡ Csv → (n : ℕ) (verdict : Verdict)
    → IsOn IsBareOn requests n verdict → Shows requests quoted IsDecisionOn brief_layout.line line (tail_of Csv true verdict) n
brief_csv requests quoted same format n verdict (asked, at, (there, (decision, is, bare))) =
    let (texts, has) = texts_of requests.world asked there in (
      brief_layout.line n texts decision,
      (asked, at, (texts, decision, has, is, refl)),
      pieced Csv requests quoted n asked texts (tail_of Csv true verdict) same format at has
          ∙ ap (λ (v : Verdict). row_text Csv n (pieces_of Csv texts) (tail_of Csv true v)) bare ∙ brief_rendered Csv n texts decision,
    )

brief_json : (requests : RequestsValue) (quoted : Quoted) → IsQuotedOf requests.world quoted → quoted.format ≡ Json → (n : ℕ) (verdict : Verdict)
    → IsOn IsBareOn requests n verdict → Shows requests quoted IsDecisionOn brief_layout.object object (tail_of Json true verdict) n
brief_json requests quoted same format n verdict (asked, at, (there, (decision, is, bare))) =
    let (texts, has) = texts_of requests.world asked there in (
      brief_layout.object n texts decision,
      (asked, at, (texts, decision, has, is, refl)),
      pieced Json requests quoted n asked texts (tail_of Json true verdict) same format at has
          ∙ ap (λ (v : Verdict). row_text Json n (pieces_of Json texts) (tail_of Json true v)) bare ∙ brief_rendered Json n texts decision,
    )

-- ---- all rows

-- what is said from a number on is said of the first, and of those behind it
first_of : {X : Type 0} (P : ℕ → X → Type 0) (from : ℕ) (x : X) (xs : List X) → AreEntriesFrom P from (x ∷ xs) → P from x
first_of P from x xs are = let same : from + 0 ≡ from = omega arith in subst (λ k. P k x) same (are 0 x refl)

rest_of : {X : Type 0} (P : ℕ → X → Type 0) (from : ℕ) (x : X) (xs : List X) → AreEntriesFrom P from (x ∷ xs) → AreEntriesFrom P (from + 1) xs
rest_of P from x xs are i y at = let same : from + suc i ≡ from + 1 + i = omega arith in subst (λ k. P k y) same (are (suc i) y at)

in_front : {X : Type 0} (P : ℕ → X → Type 0) (from : ℕ) (x : X) (xs : List X) → P from x → AreEntriesFrom P (from + 1) xs → AreEntriesFrom P from (x ∷ xs)
in_front P from x xs here rest zero y at =
    let same : x ≡ y = cc in
    let number : from ≡ from + 0 = omega arith in
    subst (λ k. P k y) number (subst (P from) same here)
in_front P from x xs here rest (suc i) y at = let same : from + 1 + i ≡ from + suc i = omega arith in subst (λ k. P k y) same (rest i y at)

nothing : {X : Type 0} (P : ℕ → X → Type 0) (from : ℕ) → AreEntriesFrom P from []
nothing P from i x at = absurd (let wrong : ⊥ = cc in wrong)

-- rows of entries from this number on, with their text
record Rows {X B : Type 0} (requests : RequestsValue) (quoted : Quoted) (Is : WorldValue → AskedValue → X → Type 0) (row : ℕ → CellTexts → X → B) (from : ℕ) (tails : List Tail) (text : List B → List ℕ) (end : List ℕ) : Type 0 where
  rows : List B
  count : length rows ≡ length tails
  each : AreEntriesFrom (IsRowOf requests Is row) from rows
  whole : rows_text quoted requests.asked from tails ++ end ≡ text rows

lines_of : {X : Type 0} (requests : RequestsValue) (quoted : Quoted) (Is : WorldValue → AskedValue → X → Type 0) (row : ℕ → CellTexts → X → List ℕ) (tail : Verdict → Tail) (P : ℕ → Verdict → Type 0)
    → ((n : ℕ) (verdict : Verdict) → P n verdict → Shows requests quoted Is row line (tail verdict) n) → (from : ℕ) (entries : List Verdict) → AreEntriesFrom P from entries
    → Rows requests quoted Is row from (map tail entries) (λ rows. concat rows) []
lines_of requests quoted Is row tail P shows from [] are = record { rows = []; count = refl; each = nothing (IsRowOf requests Is row) from; whole = refl }
lines_of requests quoted Is row tail P shows from (v ∷ vs) are =
    let (made, is, text) = shows from v (first_of P from v vs are) in
    let rest = lines_of requests quoted Is row tail P shows (from + 1) vs (rest_of P from v vs are) in
    let behind = rows_text quoted requests.asked (from + 1) (map tail vs) in
    record {
      rows = made ∷ rest.rows;
      count = omega (arith, rest.count);
      each = in_front (IsRowOf requests Is row) from made rest.rows is rest.each;
      whole = ap (λ t. (t ++ behind) ++ []) text ∙ append_assoc made behind [] ∙ ap (λ t. made ++ t) rest.whole;
    }

a_comma : (n : ℕ) → 0 < n → comma_before n ≡ codes ","
a_comma n some = let other : (n == 0) ≡ false = grind (arith, nat_tests) in ap (λ b. if b then [] else codes ",") other

-- objects behind the first
objects_behind : {X : Type 0} (requests : RequestsValue) (quoted : Quoted) (Is : WorldValue → AskedValue → X → Type 0) (row : ℕ → CellTexts → X → Data) (tail : Verdict → Tail) (P : ℕ → Verdict → Type 0)
    → ((n : ℕ) (verdict : Verdict) → P n verdict → Shows requests quoted Is row object (tail verdict) n) → (from : ℕ) → 0 < from → (entries : List Verdict) → AreEntriesFrom P from entries
    → Rows requests quoted Is row from (map tail entries) (λ rows. items_text true (items_of rows)) (codes "]")
objects_behind requests quoted Is row tail P shows from some [] are = record { rows = []; count = refl; each = nothing (IsRowOf requests Is row) from; whole = refl }
objects_behind requests quoted Is row tail P shows from some (v ∷ vs) are =
    let (made, is, text) = shows from v (first_of P from v vs are) in
    let rest = objects_behind requests quoted Is row tail P shows (from + 1) (omega arith) vs (rest_of P from v vs are) in
    let behind = rows_text quoted requests.asked (from + 1) (map tail vs) in
    record {
      rows = made ∷ rest.rows;
      count = omega (arith, rest.count);
      each = in_front (IsRowOf requests Is row) from made rest.rows is rest.each;
      whole =
          ap (λ t. (t ++ behind) ++ codes "]") (text ∙ ap (λ c. c ++ compact_text made) (a_comma from some))
          ∙ append_assoc (codes "," ++ compact_text made) behind (codes "]")
          ∙ append_assoc (codes ",") (compact_text made) (behind ++ codes "]")
          ∙ ap (λ t. codes "," ++ (compact_text made ++ t)) rest.whole;
    }

objects_of : {X : Type 0} (requests : RequestsValue) (quoted : Quoted) (Is : WorldValue → AskedValue → X → Type 0) (row : ℕ → CellTexts → X → Data) (tail : Verdict → Tail) (P : ℕ → Verdict → Type 0)
    → ((n : ℕ) (verdict : Verdict) → P n verdict → Shows requests quoted Is row object (tail verdict) n) → (entries : List Verdict) → AreEntriesFrom P 0 entries
    → Rows requests quoted Is row 0 (map tail entries) (λ rows. items_text false (items_of rows)) (codes "]")
objects_of requests quoted Is row tail P shows [] are = record { rows = []; count = refl; each = nothing (IsRowOf requests Is row) 0; whole = refl }
objects_of requests quoted Is row tail P shows (v ∷ vs) are =
    let (made, is, text) = shows 0 v (first_of P 0 v vs are) in
    let rest = objects_behind requests quoted Is row tail P shows 1 (omega arith) vs (rest_of P 0 v vs are) in
    let behind = rows_text quoted requests.asked 1 (map tail vs) in
    record {
      rows = made ∷ rest.rows;
      count = omega (arith, rest.count);
      each = in_front (IsRowOf requests Is row) 0 made rest.rows is rest.each;
      whole = ap (λ t. (t ++ behind) ++ codes "]") text ∙ append_assoc (compact_text made) behind (codes "]") ∙ ap (λ t. compact_text made ++ t) rest.whole;
    }

-- ---- the report

line_text : (header rows lines : List ℕ) → rows ++ [] ≡ lines → header ++ (rows ++ []) ≡ header ++ lines
line_text header rows lines e = ap (λ t. header ++ t) e

object_text : (rows : List ℕ) (objects : List Data) → rows ++ codes "]" ≡ items_text false (items_of objects) → codes "[" ++ (rows ++ codes "]\n") ≡ json_text objects
object_text rows objects e = ap (λ t. codes "[" ++ t) (sym (append_assoc rows (codes "]") (codes "\n")) ∙ ap (λ t. t ++ codes "\n") e)

-- as many rows as requests
all_rows : {X B : Type 0} (requests : RequestsValue) (quoted : Quoted) (Is : WorldValue → AskedValue → X → Type 0) (row : ℕ → CellTexts → X → B) (tails : List Tail) (text : List B → List ℕ) (end : List ℕ)
    → length tails ≡ length requests.asked → (made : Rows requests quoted Is row 0 tails text end) → AreRows requests Is row made.rows
all_rows requests quoted Is row tails text end e made = record { count = made.count ∙ e; each = made.each }

pub reported : (format : Format) (brief : Bool) (requests : RequestsValue) (quoted : Quoted) (entries : List Verdict) → IsQuotedOf requests.world quoted → quoted.format ≡ format
    → AreEntriesFrom (IsAnswerTo brief requests) 0 entries → length (map (tail_of format brief) entries) ≡ length requests.asked
    → IsAskReport format brief requests
    (opening_text format brief ++ (rows_text quoted requests.asked 0 (map (tail_of format brief) entries) ++ closing_text format))
reported Csv false requests quoted entries same format are count =
    let made = lines_of requests quoted IsVerdictOn full_layout.line (full_tail Csv) (IsAnswerTo false requests) (full_csv requests quoted same format) 0 entries are in
    (made.rows, all_rows requests quoted IsVerdictOn full_layout.line _ _ _ count made, line_text full_layout.header _ _ made.whole)
reported Csv true requests quoted entries same format are count =
    let made = lines_of requests quoted IsDecisionOn brief_layout.line (tail_of Csv true) (IsAnswerTo true requests) (brief_csv requests quoted same format) 0 entries are in
    (made.rows, all_rows requests quoted IsDecisionOn brief_layout.line _ _ _ count made, line_text brief_layout.header _ _ made.whole)
reported Json false requests quoted entries same format are count =
    let made = objects_of requests quoted IsVerdictOn full_layout.object (full_tail Json) (IsAnswerTo false requests) (full_json requests quoted same format) entries are in
    (made.rows, all_rows requests quoted IsVerdictOn full_layout.object _ _ _ count made, object_text _ made.rows made.whole)
reported Json true requests quoted entries same format are count =
    let made = objects_of requests quoted IsDecisionOn brief_layout.object (tail_of Json true) (IsAnswerTo true requests) (brief_json requests quoted same format) entries are in
    (made.rows, all_rows requests quoted IsDecisionOn brief_layout.object _ _ _ count made, object_text _ made.rows made.whole)
