-- A row that is put together from its quoted texts and a tail is the row of the report.
use Rattle.std.proofs.Common.{◌≡◌, ℕ, Bool, true, false, List, [], ◌∷◌, ◌++◌, Option, Some, None, codes, decimal, refl, sym, ap, ◌∙◌, append_assoc, append-nil}
use Rattle.csv.specs.Writing.{default_writer, field_text, fields_text, is_blank}
use Rattle.serde_json.proofs.OnLiterals.{serde_json_on_literals}
use Rattle.serde_json.specs.Data.{Data, array, member, no_members, number, object, string, unsigned}
use Rattle.serde_json.specs.View.{items_of}
use Rattle.serde_json.specs.Written.{compact_text}
use Rattle.iam_decision.specs.declared.verdict.Verdict.{Verdict}
use Rattle.iam_row.specs.Piece.{back_of, brief_tail, comma_before, front_of, pieces_of, quote_of, tail_of}
use Rattle.iam_row.specs.Piece as piece
use Rattle.iam_row.specs.Report.{CellTexts, csv_line}
use Rattle.iam_row.specs.declared.quoted.Format.{Format}
use Rattle.iam_row.specs.declared.quoted.Format.TheVariants.{Csv, Json}
use Rattle.iam_row.specs.declared.tail.Tail.{Tail}
use Rattle.iam_row.proofs.Plain.{field_plain, plain_decimal}
use Rattle.iam_row.proofs.Rendered.{brief_rendered, full_rendered}
use Rattle.iam_every.specs.Every.{RowValue}
use Rattle.iam_every.specs.Report.{row_text, texts_of, unshown_word}
use Rattle.iam_every.specs.Code.Texts.{quoted_row, quoted_texts, tail_in, unshown_tail}

-- quoted texts and what stands beside them are pieces
quoted_parts : (format : Format) (cell : ℕ) (texts : CellTexts) (tail : Tail)
    → quoted_row format cell (quoted_texts format texts) tail ≡ piece.row_text format cell (pieces_of format texts) tail
quoted_parts Csv cell texts tail = simp append_assoc
quoted_parts Json cell texts tail = simp append_assoc

-- in brief nothing but the decision of a verdict stands in a row
brief_tails : (format : Format) (verdict : Verdict) → tail_of format true verdict ≡ brief_tail format verdict.decision
unfolding front_of back_of
brief_tails Csv verdict = refl
brief_tails Json verdict = refl

shown : (format : Format) (brief : Bool) (cell : ℕ) (texts : CellTexts) (verdict : Verdict)
    → quoted_row format cell (quoted_texts format texts) (tail_of format brief verdict) ≡ row_text format brief cell texts (Some verdict)
shown format true cell texts verdict =
    quoted_parts format cell texts (tail_of format true verdict) ∙ ap (piece.row_text format cell (pieces_of format texts)) (brief_tails format verdict)
    ∙ brief_rendered format cell texts verdict.decision
shown format false cell texts verdict = quoted_parts format cell texts (tail_of format false verdict) ∙ full_rendered format cell texts verdict

-- the line of five fields, and of seven
line_of_five : (a b c d e : List ℕ) → csv_line (a ∷ b ∷ c ∷ d ∷ e ∷ [])
    ≡ field_text default_writer a ++ (codes "," ++ (field_text default_writer b ++ (codes "," ++ (field_text default_writer c ++ (codes "," ++ (field_text default_writer d
    ++ (codes "," ++ (field_text default_writer e ++ codes "\n"))))))))
unfolding fields_text is_blank
line_of_five a b c d e = simp (append_assoc, append-nil)

line_of_seven : (a b c d e f g : List ℕ) → csv_line (a ∷ b ∷ c ∷ d ∷ e ∷ f ∷ g ∷ [])
    ≡ field_text default_writer a ++ (codes "," ++ (field_text default_writer b ++ (codes "," ++ (field_text default_writer c ++ (codes "," ++ (field_text default_writer d
    ++ (codes "," ++ (field_text default_writer e ++ (codes "," ++ (field_text default_writer f ++ (codes "," ++ (field_text default_writer g ++ codes "\n"))))))))))))
unfolding fields_text is_blank
line_of_seven a b c d e f g = simp (append_assoc, append-nil)

-- the number of a row and what stands behind its resource
line_ends : (n m p a r s t : List ℕ) → n ≡ m → s ≡ t
    → n ++ (codes "," ++ (p ++ (codes "," ++ (a ++ (codes "," ++ (r ++ s)))))) ≡ m ++ (codes "," ++ (p ++ (codes "," ++ (a ++ (codes "," ++ (r ++ t))))))
line_ends n m p a r s t e f = ap (λ x. x ++ (codes "," ++ (p ++ (codes "," ++ (a ++ (codes "," ++ (r ++ s))))))) e ∙ ap (λ x. m ++ (codes "," ++ (p ++ (codes "," ++ (a ++ (codes "," ++ (r ++ x))))))) f

word_field : field_text default_writer unshown_word ≡ unshown_word
word_field = field_plain unshown_word refl

empty_field : field_text default_writer [] ≡ []
empty_field = field_plain [] refl

full_end : codes "," ++ (field_text default_writer unshown_word ++ (codes "," ++ (field_text default_writer [] ++ (codes "," ++ (field_text default_writer [] ++ codes "\n"))))) ≡ codes ",notShown,,\n"
full_end =
    ap (λ w. codes "," ++ (w ++ (codes "," ++ (field_text default_writer [] ++ (codes "," ++ (field_text default_writer [] ++ codes "\n")))))) word_field
    ∙ ap (λ w. codes "," ++ (unshown_word ++ (codes "," ++ (w ++ (codes "," ++ (w ++ codes "\n")))))) empty_field

-- its object
object_of_five : (action cell principal resource : Data)
    → compact_text (object (member (codes "action") action (member (codes "cell") cell (member (codes "decision") (string unshown_word) (member (codes "principal") principal
    (member (codes "resource") resource no_members))))))
    ≡ codes "{\"action\":" ++ (compact_text action ++ (codes ",\"cell\":" ++ (compact_text cell ++ (codes ",\"decision\":\"notShown\",\"principal\":"
    ++ (compact_text principal ++ (codes ",\"resource\":" ++ (compact_text resource ++ codes "}")))))))
unfolding serde_json_on_literals
object_of_five action cell principal resource = refl

object_of_seven : (action cell principal resource : Data)
    → compact_text (object (member (codes "action") action (member (codes "cell") cell (member (codes "decision") (string unshown_word)
    (member (codes "lacks") (array (items_of [])) (member (codes "principal") principal
    (member (codes "resource") resource (member (codes "statements") (array (items_of [])) no_members))))))))
    ≡ codes "{\"action\":" ++ (compact_text action ++ (codes ",\"cell\":" ++ (compact_text cell ++ (codes ",\"decision\":\"notShown\",\"lacks\":[],\"principal\":"
    ++ (compact_text principal ++ (codes ",\"resource\":" ++ (compact_text resource ++ codes ",\"statements\":[]}")))))))
unfolding serde_json_on_literals
object_of_seven action cell principal resource = refl

unshown : (format : Format) (brief : Bool) (cell : ℕ) (texts : CellTexts)
    → quoted_row format cell (quoted_texts format texts) (unshown_tail format brief) ≡ row_text format brief cell texts None
unshown Csv true cell texts =
    sym
    (line_of_five (decimal cell) texts.principal texts.action texts.resource unshown_word
    ∙ line_ends _ _ _ _ _ _ _ (field_plain (decimal cell) (plain_decimal cell)) (ap (λ w. codes "," ++ (w ++ codes "\n")) word_field))
unshown Csv false cell texts =
    sym
    (line_of_seven (decimal cell) texts.principal texts.action texts.resource unshown_word [] []
    ∙ line_ends _ _ _ _ _ _ _ (field_plain (decimal cell) (plain_decimal cell)) full_end)
unshown Json true cell texts =
    ap (λ t. comma_before cell ++ t) (sym (object_of_five (string texts.action) (number (unsigned cell)) (string texts.principal) (string texts.resource)))
unshown Json false cell texts =
    ap (λ t. comma_before cell ++ t) (sym (object_of_seven (string texts.action) (number (unsigned cell)) (string texts.principal) (string texts.resource)))

is_row : (format : Format) (brief : Bool) (cell : ℕ) (texts : CellTexts) (verdict : Option Verdict)
    → quoted_row format cell (quoted_texts format texts) (tail_in format brief verdict) ≡ row_text format brief cell texts verdict
is_row format brief cell texts None = unshown format brief cell texts
is_row format brief cell texts (Some verdict) = shown format brief cell texts verdict

-- an object, from what stands in it
pub is_object : (format : Format) (cell : ℕ) (texts : CellTexts) (tail : Tail) (comma front back : List ℕ) → format ≡ Json → comma ≡ comma_before cell → front ≡ tail.front
    → back ≡ tail.back
    → comma ++ (codes "{\"action\":" ++ (texts.action ++ (codes ",\"cell\":" ++ (decimal cell ++ (front ++ (texts.principal ++ (codes ",\"resource\":" ++ (texts.resource ++ back))))))))
    ≡ quoted_row format cell texts tail
is_object format cell texts tail comma front back json commas fronts backs =
    let whole : List ℕ → List ℕ → List ℕ → List ℕ = λ x y z.
    x ++ (codes "{\"action\":" ++ (texts.action ++ (codes ",\"cell\":" ++ (decimal cell ++ (y ++ (texts.principal ++ (codes ",\"resource\":" ++ (texts.resource ++ z)))))))) in
    ap (λ x. whole x front back) commas ∙ ap (λ y. whole (comma_before cell) y back) fronts ∙ ap (λ z. whole (comma_before cell) tail.front z) backs
    ∙ ap (λ (f : Format). quoted_row f cell texts tail) (sym json)

-- a row, from what stands in it
pub is_named_row : (format : Format) (brief : Bool) (cell : ℕ) (named : List ℕ) (row : RowValue) (text p a r : List ℕ) (tail : Tail)
    → text ≡ quoted_row format cell (record { principal = p; action = a; resource = r }) tail → p ≡ quote_of format named → a ≡ quote_of format row.action
    → r ≡ quote_of format row.resource → tail ≡ tail_in format brief row.verdict
    → text ≡ row_text format brief cell (texts_of (record { principal = named; row = row })) row.verdict
is_named_row format brief cell named row text p a r tail is principal action resource last =
    let whole : List ℕ → List ℕ → List ℕ → Tail → List ℕ = λ x y z t. quoted_row format cell (record { principal = x; action = y; resource = z }) t in
    let n = quote_of format named in
    let m = quote_of format row.action in
    is ∙ ap (λ x. whole x a r tail) principal ∙ ap (λ y. whole n y r tail) action ∙ ap (λ z. whole n m z tail) resource
    ∙ ap (λ (t : Tail). whole n m (quote_of format row.resource) t) last ∙ is_row format brief cell (texts_of (record { principal = named; row = row })) row.verdict

-- ---- a row of CSV is added part by part
pub parts_added : (t0 t1 t2 t3 t4 t5 t6 t7 t8 count principal action resource back : List ℕ) → t1 ≡ t0 ++ count → t2 ≡ t1 ++ codes "," → t3 ≡ t2 ++ principal
    → t4 ≡ t3 ++ codes "," → t5 ≡ t4 ++ action → t6 ≡ t5 ++ codes "," → t7 ≡ t6 ++ resource → t8 ≡ t7 ++ back
    → t8 ≡ t0 ++ (count ++ (codes "," ++ (principal ++ (codes "," ++ (action ++ (codes "," ++ (resource ++ back)))))))
parts_added t0 t1 t2 t3 t4 t5 t6 t7 t8 count principal action resource back e1 e2 e3 e4 e5 e6 e7 e8 =
    let further : (old new more rest : List ℕ) → new ≡ old ++ more → new ++ rest ≡ old ++ (more ++ rest) =
    λ old new more rest e. ap (λ t. t ++ rest) e ∙ append_assoc old more rest in
    let behind = codes "," ++ (resource ++ back) in
    e8 ∙ further t6 t7 resource back e7 ∙ further t5 t6 (codes ",") (resource ++ back) e6 ∙ further t4 t5 action behind e5
    ∙ further t3 t4 (codes ",") (action ++ behind) e4 ∙ further t2 t3 principal (codes "," ++ (action ++ behind)) e3
    ∙ further t1 t2 (codes ",") (principal ++ (codes "," ++ (action ++ behind))) e2
    ∙ further t0 t1 count (codes "," ++ (principal ++ (codes "," ++ (action ++ behind)))) e1
