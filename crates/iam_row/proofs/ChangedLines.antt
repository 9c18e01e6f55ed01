-- Rows of what has changed that are put together from pieces are their lines, or their objects.
use Rattle.std.proofs.Common.{◌≡◌, ℕ, List, [], ◌∷◌, ◌++◌, Option, Some, None, Bool, true, false, codes, refl, sym, ap, ◌∙◌, append_assoc, append-nil}
use Rattle.std.specs.List.{join_by}
use Rattle.csv.specs.Writing.{default_writer, field_text, fields_text, is_blank}
use Rattle.json.specs.Print.{escape_byte}
use Rattle.serde_json.specs.Data.{Data, string, object, no_members, member}
use Rattle.serde_json.specs.Written.{compact_text}
use Rattle.iam_decision.specs.declared.verdict.Verdict.{Verdict}
use Rattle.iam_row.specs.Changes.{ChangeRow, brief_fields, brief_object, change_word, full_fields, full_object, lacks_of, row_word, said_data, said_word, statements_of}
use Rattle.iam_row.specs.Code.ChangeParts.{change_action, change_back, change_front, change_pieces, change_row, change_tail, layers_in, lists_in, places_in, quoted_said, text_behind}
use Rattle.iam_row.specs.Piece.{principal_piece, resource_piece}
use Rattle.iam_row.specs.Report.{csv_line, words_of}
use Rattle.iam_row.specs.Words.{decision_word, layer_word, place_text}
use Rattle.iam_row.specs.declared.changes.Change.{Change}
use Rattle.iam_row.specs.declared.changes.Change.TheVariants.{Gained, Lost, Differs}
use Rattle.iam_row.specs.declared.quoted.Format.{Format}
use Rattle.iam_row.specs.declared.quoted.Format.TheVariants.{Csv, Json}
use Rattle.iam_row.specs.declared.tail.Tail.{Tail}
use Rattle.iam_row.proofs.Plain.{are_plain, field_plain, plain_decision, plain_joined, plain_layer, plain_place}
use Rattle.iam_row.proofs.Rendered.{enclosed, line_parts, unmarked, word_text, words_text}
use Rattle.iam_row.proofs.Texts.{same_three}

-- ---- words

plain_change : (change : Change) → are_plain (change_word change) ≡ true
plain_change Gained = refl
plain_change Lost = refl
plain_change Differs = refl

plain_row : (change : Option Change) → are_plain (row_word change) ≡ true
plain_row None = refl
plain_row (Some change) = plain_change change

plain_said : (said : Option Verdict) → are_plain (said_word said) ≡ true
plain_said None = refl
plain_said (Some verdict) = plain_decision verdict.decision

-- the decision in JSON
said_text : (said : Option Verdict) → compact_text (said_data said) ≡ quoted_said said
said_text None = refl
said_text (Some verdict) = word_text (decision_word verdict.decision) (plain_decision verdict.decision)

-- ---- lines

line_of_six : (a b c d e f : List ℕ) → csv_line (a ∷ b ∷ c ∷ d ∷ e ∷ f ∷ [])
    ≡ field_text default_writer a ++ (codes "," ++ (field_text default_writer b ++ (codes "," ++ (field_text default_writer c ++ (codes "," ++ (field_text default_writer d
    ++ (codes "," ++ (field_text default_writer e ++ (codes "," ++ (field_text default_writer f ++ codes "\n"))))))))))
unfolding fields_text is_blank
line_of_six a b c d e f = simp (append_assoc, append-nil)

line_of_ten : (a b c d e f g h i j : List ℕ) → csv_line (a ∷ b ∷ c ∷ d ∷ e ∷ f ∷ g ∷ h ∷ i ∷ j ∷ [])
    ≡ field_text default_writer a ++ (codes "," ++ (field_text default_writer b ++ (codes "," ++ (field_text default_writer c ++ (codes "," ++ (field_text default_writer d
    ++ (codes "," ++ (field_text default_writer e ++ (codes "," ++ (field_text default_writer f ++ (codes "," ++ (field_text default_writer g
    ++ (codes "," ++ (field_text default_writer h ++ (codes "," ++ (field_text default_writer i ++ (codes "," ++ (field_text default_writer j ++ codes "\n"))))))))))))))))))
unfolding fields_text is_blank
line_of_ten a b c d e f g h i j = simp (append_assoc, append-nil)

brief_csv : (comma : List ℕ) (row : ChangeRow) → text_behind Csv comma (change_pieces Csv row.texts) (change_tail Csv true row.change row.before row.after) ≡ csv_line (brief_fields row)
unfolding change_front change_back
brief_csv comma row =
    let kind = row_word row.change in
    let before = said_word row.before in
    let after = said_word row.after in
    let parts = line_parts kind (field_text default_writer row.texts.principal) (field_text default_writer row.texts.action) (field_text default_writer row.texts.resource)
    (codes "," ++ (before ++ (codes "," ++ (after ++ codes "\n")))) in
    let word = field_plain kind (plain_row row.change) in
    let first = field_plain before (plain_said row.before) in
    let last = field_plain after (plain_said row.after) in
    let line = line_of_six kind row.texts.principal row.texts.action row.texts.resource before after in cc

-- two lists as two fields each
lists_parts : (b a p l q m : List ℕ) → codes "," ++ (b ++ (codes "," ++ (a ++ (codes "," ++ ((p ++ (codes "," ++ l)) ++ (codes "," ++ ((q ++ (codes "," ++ m)) ++ codes "\n")))))))
    ≡ codes "," ++ (b ++ (codes "," ++ (a ++ (codes "," ++ (p ++ (codes "," ++ (l ++ (codes "," ++ (q ++ (codes "," ++ (m ++ codes "\n")))))))))))
lists_parts b a p l q m = simp append_assoc

full_csv : (comma : List ℕ) (row : ChangeRow) → text_behind Csv comma (change_pieces Csv row.texts) (change_tail Csv false row.change row.before row.after) ≡ csv_line (full_fields row)
unfolding change_front change_back
full_csv comma row =
    let kind = row_word row.change in
    let before = said_word row.before in
    let after = said_word row.after in
    let sb = join_by place_text (codes " ") (statements_of row.before) in
    let lb = join_by layer_word (codes " ") (lacks_of row.before) in
    let sa = join_by place_text (codes " ") (statements_of row.after) in
    let la = join_by layer_word (codes " ") (lacks_of row.after) in
    let parts = line_parts kind (field_text default_writer row.texts.principal) (field_text default_writer row.texts.action) (field_text default_writer row.texts.resource)
    (codes "," ++ (before ++ (codes "," ++ (after ++ (codes "," ++ (lists_in row.before ++ (codes "," ++ (lists_in row.after ++ codes "\n")))))))) in
    let lists = lists_parts before after (places_in (codes "") (codes " ") row.before) (layers_in (codes "") (codes " ") row.before) (places_in (codes "") (codes " ") row.after)
    (layers_in (codes "") (codes " ") row.after) in
    let word = field_plain kind (plain_row row.change) in
    let first = field_plain before (plain_said row.before) in
    let last = field_plain after (plain_said row.after) in
    let psb = field_plain sb (plain_joined place_text plain_place (statements_of row.before)) in
    let plb = field_plain lb (plain_joined layer_word plain_layer (lacks_of row.before)) in
    let psa = field_plain sa (plain_joined place_text plain_place (statements_of row.after)) in
    let pla = field_plain la (plain_joined layer_word plain_layer (lacks_of row.after)) in
    let usb = unmarked place_text (codes " ") (statements_of row.before) in
    let ulb = unmarked layer_word (codes " ") (lacks_of row.before) in
    let usa = unmarked place_text (codes " ") (statements_of row.after) in
    let ula = unmarked layer_word (codes " ") (lacks_of row.after) in
    let line = line_of_ten kind row.texts.principal row.texts.action row.texts.resource before after sb lb sa la in cc

-- ---- objects

-- the object of six members, and of ten
object_of_six : (action after before kind principal resource : Data) (said says word : List ℕ) → compact_text after ≡ says → compact_text before ≡ said
    → compact_text kind ≡ codes "\"" ++ (word ++ codes "\"")
    → compact_text (object (member (codes "action") action (member (codes "after") after (member (codes "before") before (member (codes "change") kind
    (member (codes "principal") principal (member (codes "resource") resource no_members)))))))
    ≡ codes "{\"action\":" ++ (compact_text action ++ (codes ",\"after\":" ++ (says ++ (codes ",\"before\":" ++ (said ++ (codes ",\"change\":\"" ++ (word
    ++ (codes "\",\"principal\":" ++ (compact_text principal ++ (codes ",\"resource\":" ++ (compact_text resource ++ codes "}")))))))))))
unfolding escape_byte
object_of_six action after before kind principal resource said says word s b k =
    ap (λ t. codes "{\"action\":" ++ (compact_text action ++ (codes ",\"after\":" ++ (t ++ (codes ",\"before\":" ++ (compact_text before ++ (codes ",\"change\":" ++ (compact_text kind
    ++ (codes ",\"principal\":" ++ (compact_text principal ++ (codes ",\"resource\":" ++ (compact_text resource ++ codes "}")))))))))))) s
    ∙ ap (λ t. codes "{\"action\":" ++ (compact_text action ++ (codes ",\"after\":" ++ (says ++ (codes ",\"before\":" ++ (t ++ (codes ",\"change\":" ++ (compact_text kind
    ++ (codes ",\"principal\":" ++ (compact_text principal ++ (codes ",\"resource\":" ++ (compact_text resource ++ codes "}")))))))))))) b
    ∙ ap (λ t. codes "{\"action\":" ++ (compact_text action ++ (codes ",\"after\":" ++ (says ++ (codes ",\"before\":" ++ (said ++ (codes ",\"change\":" ++ t)))))))
    (enclosed _ word 34 34 _ _ k refl)

object_of_ten : (action after before kind lacks_after lacks_before principal resource places_after places_before : Data) (said says word la lb pa pb : List ℕ)
    → compact_text after ≡ says → compact_text before ≡ said → compact_text kind ≡ codes "\"" ++ (word ++ codes "\"")
    → compact_text lacks_after ≡ codes "[" ++ (la ++ codes "]") → compact_text lacks_before ≡ codes "[" ++ (lb ++ codes "]")
    → compact_text places_after ≡ codes "[" ++ (pa ++ codes "]") → compact_text places_before ≡ codes "[" ++ (pb ++ codes "]")
    → compact_text (object (member (codes "action") action (member (codes "after") after (member (codes "before") before (member (codes "change") kind
    (member (codes "lacks_after") lacks_after (member (codes "lacks_before") lacks_before (member (codes "principal") principal (member (codes "resource") resource
    (member (codes "statements_after") places_after (member (codes "statements_before") places_before no_members)))))))))))
    ≡ codes "{\"action\":" ++ (compact_text action ++ (codes ",\"after\":" ++ (says ++ (codes ",\"before\":" ++ (said ++ (codes ",\"change\":\"" ++ (word
    ++ (codes "\",\"lacks_after\":[" ++ (la ++ (codes "],\"lacks_before\":[" ++ (lb ++ (codes "],\"principal\":" ++ (compact_text principal
    ++ (codes ",\"resource\":" ++ (compact_text resource ++ (codes ",\"statements_after\":[" ++ (pa ++ (codes "],\"statements_before\":[" ++ (pb ++ codes "]}")))))))))))))))))))
unfolding escape_byte
object_of_ten action after before kind lacks_after lacks_before principal resource places_after places_before said says word la lb pa pb s b k e f g h =
    let rest = codes ",\"lacks_after\":" ++ (compact_text lacks_after ++ (codes ",\"lacks_before\":" ++ (compact_text lacks_before ++ (codes ",\"principal\":" ++ (compact_text principal
    ++ (codes ",\"resource\":" ++ (compact_text resource ++ (codes ",\"statements_after\":" ++ (compact_text places_after ++ (codes ",\"statements_before\":" ++ (compact_text places_before
    ++ codes "}"))))))))))) in
    ap (λ t. codes "{\"action\":" ++ (compact_text action ++ (codes ",\"after\":" ++ (t ++ (codes ",\"before\":" ++ (compact_text before ++ (codes ",\"change\":" ++ (compact_text kind
    ++ rest)))))))) s
    ∙ ap (λ t. codes "{\"action\":" ++ (compact_text action ++ (codes ",\"after\":" ++ (says ++ (codes ",\"before\":" ++ (t ++ (codes ",\"change\":" ++ (compact_text kind ++ rest)))))))) b
    ∙ ap (λ t. codes "{\"action\":" ++ (compact_text action ++ (codes ",\"after\":" ++ (says ++ (codes ",\"before\":" ++ (said ++ (codes ",\"change\":" ++ t)))))))
    (enclosed _ word 34 34 _ _ k
    (ap (λ t. codes ",\"lacks_after\":" ++ t)
    (enclosed _ la 91 93 _ _ e
    (ap (λ t. codes ",\"lacks_before\":" ++ t)
    (enclosed _ lb 91 93 _ _ f
    (ap (λ t. codes ",\"principal\":" ++ (compact_text principal ++ (codes ",\"resource\":" ++ (compact_text resource ++ (codes ",\"statements_after\":" ++ t)))))
    (enclosed _ pa 91 93 _ _ g
    (ap (λ t. codes ",\"statements_before\":" ++ t)
    (enclosed _ pb 91 93 _ _ h refl)))))))))

-- the pieces of an object of six members, and of ten
parts_of_six : (c a s b w p r : List ℕ) → c ++ ((codes "{\"action\":" ++ a) ++ ((codes ",\"after\":" ++ (s ++ (codes ",\"before\":" ++ (b ++ (codes ",\"change\":\"" ++ (w ++ codes "\",\"principal\":"))))))
    ++ (p ++ ((codes ",\"resource\":" ++ r) ++ codes "}"))))
    ≡ c ++ (codes "{\"action\":" ++ (a ++ (codes ",\"after\":" ++ (s ++ (codes ",\"before\":" ++ (b ++ (codes ",\"change\":\"" ++ (w
    ++ (codes "\",\"principal\":" ++ (p ++ (codes ",\"resource\":" ++ (r ++ codes "}"))))))))))))
parts_of_six c a s b w p r = simp append_assoc

parts_of_ten : (c a s b w l m p r x y : List ℕ) → c ++ ((codes "{\"action\":" ++ a) ++ ((codes ",\"after\":" ++ (s ++ (codes ",\"before\":" ++ (b ++ (codes ",\"change\":\"" ++ (w
    ++ (codes "\",\"lacks_after\":[" ++ (l ++ (codes "],\"lacks_before\":[" ++ (m ++ codes "],\"principal\":"))))))))))
    ++ (p ++ ((codes ",\"resource\":" ++ r) ++ (codes ",\"statements_after\":[" ++ (x ++ (codes "],\"statements_before\":[" ++ (y ++ codes "]}"))))))))
    ≡ c ++ (codes "{\"action\":" ++ (a ++ (codes ",\"after\":" ++ (s ++ (codes ",\"before\":" ++ (b ++ (codes ",\"change\":\"" ++ (w
    ++ (codes "\",\"lacks_after\":[" ++ (l ++ (codes "],\"lacks_before\":[" ++ (m ++ (codes "],\"principal\":" ++ (p
    ++ (codes ",\"resource\":" ++ (r ++ (codes ",\"statements_after\":[" ++ (x ++ (codes "],\"statements_before\":[" ++ (y ++ codes "]}"))))))))))))))))))))
parts_of_ten c a s b w l m p r x y = simp append_assoc

brief_json : (comma : List ℕ) (row : ChangeRow)
    → text_behind Json comma (change_pieces Json row.texts) (change_tail Json true row.change row.before row.after) ≡ comma ++ compact_text (brief_object row)
unfolding change_front change_back
brief_json comma row =
    let word = row_word row.change in
    parts_of_six comma (compact_text (string row.texts.action)) (quoted_said row.after) (quoted_said row.before) word (compact_text (string row.texts.principal)) (compact_text (string row.texts.resource))
    ∙ ap (λ t. comma ++ t)
    (sym
    (object_of_six (string row.texts.action) (said_data row.after) (said_data row.before) (string word) (string row.texts.principal) (string row.texts.resource) _ _ _
    (said_text row.after) (said_text row.before) (word_text word (plain_row row.change))))

full_json : (comma : List ℕ) (row : ChangeRow)
    → text_behind Json comma (change_pieces Json row.texts) (change_tail Json false row.change row.before row.after) ≡ comma ++ compact_text (full_object row)
unfolding change_front change_back
full_json comma row =
    let word = row_word row.change in
    parts_of_ten comma (compact_text (string row.texts.action)) (quoted_said row.after) (quoted_said row.before) word (layers_in (codes "\"") (codes ",") row.after)
    (layers_in (codes "\"") (codes ",") row.before) (compact_text (string row.texts.principal)) (compact_text (string row.texts.resource)) (places_in (codes "\"") (codes ",") row.after)
    (places_in (codes "\"") (codes ",") row.before)
    ∙ ap (λ t. comma ++ t)
    (sym
    (object_of_ten (string row.texts.action) (said_data row.after) (said_data row.before) (string word) (words_of layer_word (lacks_of row.after)) (words_of layer_word (lacks_of row.before))
    (string row.texts.principal) (string row.texts.resource) (words_of place_text (statements_of row.after)) (words_of place_text (statements_of row.before)) _ _ _ _ _ _ _
    (said_text row.after) (said_text row.before) (word_text word (plain_row row.change)) (words_text layer_word plain_layer (lacks_of row.after))
    (words_text layer_word plain_layer (lacks_of row.before)) (words_text place_text plain_place (statements_of row.after)) (words_text place_text plain_place (statements_of row.before))))

-- ---- the row

-- put together from the pieces of its texts, and its tail
pub pieces_row : (format : Format) (brief : Bool) (comma : List ℕ) (row : ChangeRow)
    → text_behind format comma (change_pieces format row.texts) (change_tail format brief row.change row.before row.after) ≡ change_row format brief comma row
pieces_row Csv true comma row = brief_csv comma row
pieces_row Csv false comma row = full_csv comma row
pieces_row Json true comma row = brief_json comma row
pieces_row Json false comma row = full_json comma row

-- so is a text of such pieces
pub text_is_row : (format : Format) (brief : Bool) (comma given principal action resource : List ℕ) (tail : Tail) (row : ChangeRow) (text : List ℕ)
    → text ≡ text_behind format given (record { principal = principal; action = action; resource = resource }) tail → given ≡ comma
    → principal ≡ principal_piece format row.texts.principal → action ≡ change_action format row.texts.action → resource ≡ resource_piece format row.texts.resource
    → tail ≡ change_tail format brief row.change row.before row.after → text ≡ change_row format brief comma row
text_is_row format brief comma given principal action resource tail row text is same e f g h =
    is ∙ ap (λ t. text_behind format t (record { principal = principal; action = action; resource = resource }) tail) same
    ∙ ap (λ pieces. text_behind format comma pieces tail) (same_three _ _ _ _ _ _ e f g)
    ∙ ap (text_behind format comma (change_pieces format row.texts)) h ∙ pieces_row format brief comma row
