-- Rows made from quoted texts are the rows of the report.
use Rattle.std.proofs.Common.{◌≡◌, ℕ, ◌≤◌, List, [], ◌∷◌, ◌++◌, true, codes, decimal, length, take, map, refl, sym, ap, ◌∙◌, append_assoc, append-nil}
use Rattle.std.specs.List.{flat_map, join_by}
use Rattle.std.proofs.lemmas.List.{take_all}
use Rattle.csv.specs.Writing.{default_writer, field_text, fields_text, is_blank}
use Rattle.json.specs.Print.{escape_byte}
use Rattle.serde_json.specs.Data.{Data, unsigned, number, string, object, no_members, member}
use Rattle.serde_json.specs.View.{items_of}
use Rattle.serde_json.specs.Written.{compact_text, items_text}
use Rattle.iam_decision.specs.declared.verdict.Decision.{Decision}
use Rattle.iam_decision.specs.declared.verdict.Verdict.{Verdict}
use Rattle.iam_row.specs.Piece.{back_of, brief_tail, cell_row, comma_before, front_of, full_tail, pieces_of, row_text}
use Rattle.iam_row.specs.Report.{CellTexts, brief_layout, csv_line, full_layout, words_of}
use Rattle.iam_row.specs.Words.{decision_word, layer_word, marked, place_text}
use Rattle.iam_row.specs.declared.quoted.Format.{Format}
use Rattle.iam_row.specs.declared.quoted.Format.TheVariants.{Csv, Json}
use Rattle.iam_row.proofs.Plain.{are_plain, escape_plain, field_plain, plain_decimal, plain_decision, plain_joined, plain_layer, plain_place}

-- the first word and then all others are all words
pub all_marked : {A : Type 0} (word : A → List ℕ) (mark between : List ℕ) (first : A) (shown : List ℕ) (rest all : List A) (i : ℕ) → shown ≡ word first → all ≡ first ∷ rest → length rest ≤ i
    → (mark ++ (shown ++ mark)) ++ flat_map (λ x. between ++ (mark ++ (word x ++ mark))) (take i rest) ≡ marked word mark between all
unfolding marked
all_marked word mark between first shown rest all i f e h =
    ap (λ s. (mark ++ (s ++ mark)) ++ flat_map (λ x. between ++ (mark ++ (word x ++ mark))) (take i rest)) f
    ∙ ap (λ xs. (mark ++ (word first ++ mark)) ++ flat_map (λ x. between ++ (mark ++ (word x ++ mark))) xs) (take_all i rest h) ∙ ap (marked word mark between) (sym e)

-- empty marks change nothing
pub unmarked : {A : Type 0} (word : A → List ℕ) (between : List ℕ) (xs : List A) → marked word (codes "") between xs ≡ join_by word between xs
unfolding marked
unmarked word between [] = refl
unmarked word between (x ∷ xs) = simp append-nil

-- the line of seven fields, and of five
line_of_seven : (a b c d e f g : List ℕ) → csv_line (a ∷ b ∷ c ∷ d ∷ e ∷ f ∷ g ∷ [])
    ≡ field_text default_writer a ++ (codes "," ++ (field_text default_writer b ++ (codes "," ++ (field_text default_writer c ++ (codes "," ++ (field_text default_writer d
    ++ (codes "," ++ (field_text default_writer e ++ (codes "," ++ (field_text default_writer f ++ (codes "," ++ (field_text default_writer g ++ codes "\n"))))))))))))
unfolding fields_text is_blank
line_of_seven a b c d e f g = simp (append_assoc, append-nil)

line_of_five : (a b c d e : List ℕ) → csv_line (a ∷ b ∷ c ∷ d ∷ e ∷ [])
    ≡ field_text default_writer a ++ (codes "," ++ (field_text default_writer b ++ (codes "," ++ (field_text default_writer c ++ (codes "," ++ (field_text default_writer d
    ++ (codes "," ++ (field_text default_writer e ++ codes "\n"))))))))
unfolding fields_text is_blank
line_of_five a b c d e = simp (append_assoc, append-nil)

-- the pieces of a line
pub line_parts : (n p a r b : List ℕ) → n ++ ((codes "," ++ (p ++ codes ",")) ++ ((a ++ codes ",") ++ (r ++ b)))
    ≡ n ++ (codes "," ++ (p ++ (codes "," ++ (a ++ (codes "," ++ (r ++ b))))))
line_parts n p a r b = simp append_assoc

full_csv : (cell : ℕ) (texts : CellTexts) (verdict : Verdict) → row_text Csv cell (pieces_of Csv texts) (full_tail Csv verdict) ≡ full_layout.line cell texts verdict
unfolding back_of
full_csv cell texts verdict =
    let parts = line_parts (decimal cell) (field_text default_writer texts.principal) (field_text default_writer texts.action) (field_text default_writer texts.resource)
    (codes "," ++ (decision_word verdict.decision ++ (codes "," ++ (marked place_text (codes "") (codes " ") verdict.statements
    ++ (codes "," ++ (marked layer_word (codes "") (codes " ") verdict.lacks ++ codes "\n")))))) in
    let number = field_plain (decimal cell) (plain_decimal cell) in
    let word = field_plain (decision_word verdict.decision) (plain_decision verdict.decision) in
    let statements = field_plain (join_by place_text (codes " ") verdict.statements) (plain_joined place_text plain_place verdict.statements) in
    let lacks = field_plain (join_by layer_word (codes " ") verdict.lacks) (plain_joined layer_word plain_layer verdict.lacks) in
    let places = unmarked place_text (codes " ") verdict.statements in
    let layers = unmarked layer_word (codes " ") verdict.lacks in
    let line = line_of_seven (decimal cell) texts.principal texts.action texts.resource (decision_word verdict.decision) (join_by place_text (codes " ") verdict.statements)
    (join_by layer_word (codes " ") verdict.lacks) in cc

brief_csv : (cell : ℕ) (texts : CellTexts) (decision : Decision) → row_text Csv cell (pieces_of Csv texts) (brief_tail Csv decision) ≡ brief_layout.line cell texts decision
unfolding back_of
brief_csv cell texts decision =
    let parts = line_parts (decimal cell) (field_text default_writer texts.principal) (field_text default_writer texts.action) (field_text default_writer texts.resource)
    (codes "," ++ (decision_word decision ++ codes "\n")) in
    let number = field_plain (decimal cell) (plain_decimal cell) in
    let word = field_plain (decision_word decision) (plain_decision decision) in
    let line = line_of_five (decimal cell) texts.principal texts.action texts.resource (decision_word decision) in cc

-- a list of words, each in quotes
more_words : {A : Type 0} (word : A → List ℕ) → ((x : A) → are_plain (word x) ≡ true) → (xs : List A)
    → items_text true (items_of (map (λ x. string (word x)) xs)) ≡ flat_map (λ x. codes "," ++ (codes "\"" ++ (word x ++ codes "\""))) xs ++ codes "]"
more_words word plain [] = refl
more_words word plain (x ∷ xs) =
    let tail = more_words word plain xs in
    let e = escape_plain (word x) (plain x) in
    ap (λ s. 44 ∷ 34 ∷ ((s ++ 34 ∷ []) ++ items_text true (items_of (map (λ y. string (word y)) xs)))) e
    ∙ ap (λ t. 44 ∷ 34 ∷ ((word x ++ 34 ∷ []) ++ t)) tail
    ∙ simp append_assoc

pub words_text : {A : Type 0} (word : A → List ℕ) → ((x : A) → are_plain (word x) ≡ true) → (xs : List A)
    → compact_text (words_of word xs) ≡ codes "[" ++ (marked word (codes "\"") (codes ",") xs ++ codes "]")
unfolding marked
words_text word plain [] = refl
words_text word plain (x ∷ xs) =
    let tail = more_words word plain xs in
    let e = escape_plain (word x) (plain x) in
    ap (λ s. 91 ∷ 34 ∷ ((s ++ 34 ∷ []) ++ items_text true (items_of (map (λ y. string (word y)) xs)))) e
    ∙ ap (λ t. 91 ∷ 34 ∷ ((word x ++ 34 ∷ []) ++ t)) tail
    ∙ simp append_assoc

-- a word in quotes
pub word_text : (s : List ℕ) → are_plain s ≡ true → compact_text (string s) ≡ codes "\"" ++ (s ++ codes "\"")
word_text s h = ap (λ t. 34 ∷ (t ++ 34 ∷ [])) (escape_plain s h)

-- what stands behind an enclosed text
pub enclosed : (text inside : List ℕ) (first last : ℕ) (rest other : List ℕ) → text ≡ first ∷ (inside ++ last ∷ []) → rest ≡ other → text ++ rest ≡ first ∷ (inside ++ last ∷ other)
enclosed text inside first last rest other e f =
    ap (λ t. t ++ rest) e ∙ ap (λ t. first ∷ t) (append_assoc inside (last ∷ []) rest) ∙ ap (λ t. first ∷ (inside ++ last ∷ t)) f

-- the object of seven members, and of five
object_of_seven : (action cell decision lacks principal resource statements : Data) (word layers places : List ℕ) → compact_text decision ≡ codes "\"" ++ (word ++ codes "\"")
    → compact_text lacks ≡ codes "[" ++ (layers ++ codes "]") → compact_text statements ≡ codes "[" ++ (places ++ codes "]")
    → compact_text (object (member (codes "action") action (member (codes "cell") cell (member (codes "decision") decision (member (codes "lacks") lacks (member (codes "principal") principal
    (member (codes "resource") resource (member (codes "statements") statements no_members))))))))
    ≡ codes "{\"action\":" ++ (compact_text action ++ (codes ",\"cell\":" ++ (compact_text cell ++ (codes ",\"decision\":\"" ++ (word ++ (codes "\",\"lacks\":[" ++ (layers
    ++ (codes "],\"principal\":" ++ (compact_text principal ++ (codes ",\"resource\":" ++ (compact_text resource ++ (codes ",\"statements\":[" ++ (places ++ codes "]}")))))))))))))
unfolding escape_byte
object_of_seven action cell decision lacks principal resource statements word layers places d l s =
    ap (λ t. codes "{\"action\":" ++ (compact_text action ++ (codes ",\"cell\":" ++ (compact_text cell ++ (codes ",\"decision\":" ++ t)))))
    (enclosed _ word 34 34 _ _ d
    (ap (λ t. codes ",\"lacks\":" ++ t)
    (enclosed _ layers 91 93 _ _ l
    (ap (λ t. codes ",\"principal\":" ++ (compact_text principal ++ (codes ",\"resource\":" ++ (compact_text resource ++ (codes ",\"statements\":" ++ t)))))
    (enclosed _ places 91 93 _ _ s refl)))))

object_of_five : (action cell decision principal resource : Data) (word : List ℕ) → compact_text decision ≡ codes "\"" ++ (word ++ codes "\"")
    → compact_text (object (member (codes "action") action (member (codes "cell") cell (member (codes "decision") decision (member (codes "principal") principal
    (member (codes "resource") resource no_members))))))
    ≡ codes "{\"action\":" ++ (compact_text action ++ (codes ",\"cell\":" ++ (compact_text cell ++ (codes ",\"decision\":\"" ++ (word ++ (codes "\",\"principal\":"
    ++ (compact_text principal ++ (codes ",\"resource\":" ++ (compact_text resource ++ codes "}")))))))))
unfolding escape_byte
object_of_five action cell decision principal resource word d = rw d (simp append_assoc)

-- the pieces of an object of seven members, and of five
parts_of_seven : (c a n w l p r s : List ℕ) → c ++ ((codes "{\"action\":" ++ (a ++ codes ",\"cell\":"))
    ++ (n ++ ((codes ",\"decision\":\"" ++ (w ++ (codes "\",\"lacks\":[" ++ (l ++ codes "],\"principal\":"))))
    ++ (p ++ ((codes ",\"resource\":" ++ r) ++ (codes ",\"statements\":[" ++ (s ++ codes "]}")))))))
    ≡ c ++ (codes "{\"action\":" ++ (a ++ (codes ",\"cell\":" ++ (n ++ (codes ",\"decision\":\"" ++ (w ++ (codes "\",\"lacks\":[" ++ (l
    ++ (codes "],\"principal\":" ++ (p ++ (codes ",\"resource\":" ++ (r ++ (codes ",\"statements\":[" ++ (s ++ codes "]}"))))))))))))))
parts_of_seven c a n w l p r s = simp append_assoc

parts_of_five : (c a n w p r : List ℕ) → c ++ ((codes "{\"action\":" ++ (a ++ codes ",\"cell\":"))
    ++ (n ++ ((codes ",\"decision\":\"" ++ (w ++ codes "\",\"principal\":")) ++ (p ++ ((codes ",\"resource\":" ++ r) ++ codes "}")))))
    ≡ c ++ (codes "{\"action\":" ++ (a ++ (codes ",\"cell\":" ++ (n ++ (codes ",\"decision\":\"" ++ (w ++ (codes "\",\"principal\":"
    ++ (p ++ (codes ",\"resource\":" ++ (r ++ codes "}"))))))))))
parts_of_five c a n w p r = simp append_assoc

full_json : (cell : ℕ) (texts : CellTexts) (verdict : Verdict) → row_text Json cell (pieces_of Json texts) (full_tail Json verdict) ≡ cell_row full_layout Json cell texts verdict
unfolding front_of back_of
full_json cell texts verdict =
    parts_of_seven (comma_before cell) (compact_text (string texts.action)) (decimal cell) (decision_word verdict.decision) (marked layer_word (codes "\"") (codes ",") verdict.lacks)
    (compact_text (string texts.principal)) (compact_text (string texts.resource)) (marked place_text (codes "\"") (codes ",") verdict.statements)
    ∙ ap (λ t. comma_before cell ++ t)
    (sym
    (object_of_seven (string texts.action) (number (unsigned cell)) (string (decision_word verdict.decision)) (words_of layer_word verdict.lacks) (string texts.principal) (string texts.resource)
    (words_of place_text verdict.statements) _ _ _
    (word_text (decision_word verdict.decision) (plain_decision verdict.decision)) (words_text layer_word plain_layer verdict.lacks)
    (words_text place_text plain_place verdict.statements)))

brief_json : (cell : ℕ) (texts : CellTexts) (decision : Decision) → row_text Json cell (pieces_of Json texts) (brief_tail Json decision) ≡ cell_row brief_layout Json cell texts decision
unfolding front_of back_of
brief_json cell texts decision =
    parts_of_five (comma_before cell) (compact_text (string texts.action)) (decimal cell) (decision_word decision) (compact_text (string texts.principal)) (compact_text (string texts.resource))
    ∙ ap (λ t. comma_before cell ++ t)
    (sym
    (object_of_five (string texts.action) (number (unsigned cell)) (string (decision_word decision)) (string texts.principal) (string texts.resource) _
    (word_text (decision_word decision) (plain_decision decision))))

pub full_rendered : (format : Format) (cell : ℕ) (texts : CellTexts) (verdict : Verdict) → row_text format cell (pieces_of format texts) (full_tail format verdict) ≡ cell_row full_layout format cell texts verdict
full_rendered Csv cell texts verdict = full_csv cell texts verdict
full_rendered Json cell texts verdict = full_json cell texts verdict

pub brief_rendered : (format : Format) (cell : ℕ) (texts : CellTexts) (decision : Decision) → row_text format cell (pieces_of format texts) (brief_tail format decision) ≡ cell_row brief_layout format cell texts decision
brief_rendered Csv cell texts decision = brief_csv cell texts decision
brief_rendered Json cell texts decision = brief_json cell texts decision
