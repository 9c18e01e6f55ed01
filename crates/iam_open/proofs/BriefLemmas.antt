-- Rows in brief, from texts with what stands beside them in each row.
use Rattle.std.proofs.Common.{◌≡◌, ◌∙◌, ℕ, List, [], ◌∷◌, ◌++◌, ap, append_assoc, codes, decimal, refl, sym, true}
use Rattle.iam_open.specs.Code.Parts.{comma_behind, middle_text, pieces_text}
use Rattle.iam_open.specs.Rows.{TurnedRow, brief_text, quoted_texts, row_text, together, word_of, word_text}
use Rattle.iam_open.specs.declared.asked.Word.{Word}
use Rattle.iam_row.specs.Piece.{IsQuotedOf, pieces_at, pieces_of, quote_of}
use Rattle.iam_row.specs.Report.{CellTexts, HasTexts}
use Rattle.iam_row.specs.declared.position.Position.{Position}
use Rattle.iam_row.specs.declared.quoted.Format.{Format}
use Rattle.iam_row.specs.declared.quoted.Format.TheVariants.{Csv, Json}
use Rattle.iam_row.specs.declared.quoted.Quoted.{Quoted}
use Rattle.iam_row.proofs.Texts.{pieces_there}
use Rattle.iam_world.specs.World.{WorldValue}

csv_row : (d p a r w comma end : List ℕ)
    → d ++ ((comma ++ (p ++ comma)) ++ ((a ++ comma) ++ (r ++ (comma ++ (w ++ end)))))
    ≡ (d ++ (comma ++ (p ++ (comma ++ (a ++ (comma ++ (r ++ (comma ++ w)))))))) ++ end
csv_row d p a r w comma end = simp append_assoc refl

json_row : (d p a r w one two three four five six end : List ℕ)
    → (one ++ (a ++ two)) ++ (d ++ ((three ++ (w ++ (four ++ five))) ++ (p ++ ((six ++ r) ++ end))))
    ≡ (one ++ (a ++ (two ++ (d ++ (three ++ (w ++ four)))))) ++ (five ++ (p ++ (six ++ (r ++ end))))
json_row d p a r w one two three four five six end = simp append_assoc refl

pub pieces_row : (format : Format) (cell : ℕ) (texts : CellTexts) (word : Word)
    → pieces_text format cell (pieces_of format texts) word ≡ brief_text format cell (quoted_texts format texts) (word_text word)
pieces_row Csv cell texts word =
    csv_row (decimal cell) (quote_of Csv texts.principal) (quote_of Csv texts.action) (quote_of Csv texts.resource) (word_text word) (codes ",") (codes "\n")
pieces_row Json cell texts word =
    json_row (decimal cell) (quote_of Json texts.principal) (quote_of Json texts.action) (quote_of Json texts.resource) (word_text word)
    (codes "{\"action\":") (codes ",\"cell\":") (codes ",\"decision\":\"") (codes "\"") (codes ",\"principal\":") (codes ",\"resource\":") (codes "}")

-- the pieces at the position of a cell make its row
pub brief_made : (world : WorldValue) (quoted : Quoted) (at : Position) (row : TurnedRow) (old new : List ℕ) → IsQuotedOf world quoted
    → HasTexts world at.principal at.action at.resource row.texts
    → new ≡ together quoted.format old (pieces_text quoted.format at.cell (pieces_at quoted at) (word_of row.turned))
    → new ≡ together quoted.format old (row_text quoted.format true at.cell row)
brief_made world quoted at row old new same has made =
    made
    ∙ ap (λ (pieces : CellTexts). together quoted.format old (pieces_text quoted.format at.cell pieces (word_of row.turned)))
    (pieces_there world quoted at row.texts same has)
    ∙ ap (λ text. together quoted.format old text) (pieces_row quoted.format at.cell row.texts (word_of row.turned))

-- ---- texts that are put one behind the other

further : (old new more rest : List ℕ) → new ≡ old ++ more → new ++ rest ≡ old ++ (more ++ rest)
further old new more rest is = ap (λ t. t ++ rest) is ∙ append_assoc old more rest

pub five_put : (t0 t1 t2 t3 t4 t5 a b c d e : List ℕ) → t1 ≡ t0 ++ a → t2 ≡ t1 ++ b → t3 ≡ t2 ++ c → t4 ≡ t3 ++ d → t5 ≡ t4 ++ e
    → t5 ≡ t0 ++ (a ++ (b ++ (c ++ (d ++ e))))
five_put t0 t1 t2 t3 t4 t5 a b c d e e1 e2 e3 e4 e5 =
    e5 ∙ further t3 t4 d e e4 ∙ further t2 t3 c (d ++ e) e3 ∙ further t1 t2 b (c ++ (d ++ e)) e2 ∙ further t0 t1 a (b ++ (c ++ (d ++ e))) e1

pub two_more : (t0 t1 t2 t3 a b rest : List ℕ) → t1 ≡ t0 ++ a → t2 ≡ t1 ++ b → t3 ≡ t2 ++ rest → t3 ≡ t0 ++ (a ++ (b ++ rest))
two_more t0 t1 t2 t3 a b rest e1 e2 e3 = e3 ∙ further t1 t2 b rest e2 ∙ further t0 t1 a (b ++ rest) e1

-- an object is put behind rows with a comma before it, where there are some
comma_put : (old front rest : List ℕ) (c : ℕ) → old ++ (comma_behind old ++ (front ++ c ∷ rest)) ≡ together Json old (front ++ c ∷ rest)
comma_put [] front rest c = refl
comma_put (x ∷ old) [] rest c = refl
comma_put (x ∷ old) (y ∷ front) rest c = refl

pub object_put : (old new : List ℕ) (cell : ℕ) (pieces : CellTexts) (word : Word)
    → new ≡ old ++ (comma_behind old ++ pieces_text Json cell pieces word) → new ≡ together Json old (pieces_text Json cell pieces word)
object_put old new cell pieces word is =
    let behind = pieces.principal ++ (pieces.resource ++ codes "}") in
    let front = pieces.action ++ decimal cell in
    let text = middle_text word ++ behind in
    let apart : front ++ text ≡ pieces_text Json cell pieces word = append_assoc pieces.action (decimal cell) text in
    is ∙ ap (λ it. old ++ (comma_behind old ++ it)) (sym apart)
    ∙ comma_put old front (codes "\"decision\":\"" ++ (word_text word ++ codes "\",\"principal\":") ++ behind) 44
    ∙ ap (λ it. together Json old it) apart

pub line_put : (quoted : Quoted) (at : Position) (word : Word) (pieces : CellTexts) (old new : List ℕ) → quoted.format ≡ Csv → pieces ≡ pieces_at quoted at
    → new ≡ old ++ pieces_text Csv at.cell pieces word
    → new ≡ together quoted.format old (pieces_text quoted.format at.cell (pieces_at quoted at) word)
line_put quoted at word pieces old new csv same is =
    is ∙ ap (λ (it : CellTexts). old ++ pieces_text Csv at.cell it word) same
    ∙ ap (λ (format : Format). together format old (pieces_text format at.cell (pieces_at quoted at) word)) (sym csv)

pub json_put : (quoted : Quoted) (at : Position) (word : Word) (pieces : CellTexts) (old new : List ℕ) → quoted.format ≡ Json → pieces ≡ pieces_at quoted at
    → new ≡ together Json old (pieces_text Json at.cell pieces word)
    → new ≡ together quoted.format old (pieces_text quoted.format at.cell (pieces_at quoted at) word)
json_put quoted at word pieces old new json same is =
    is ∙ ap (λ (it : CellTexts). together Json old (pieces_text Json at.cell it word)) same
    ∙ ap (λ (format : Format). together format old (pieces_text format at.cell (pieces_at quoted at) word)) (sym json)
