-- Lines on texts that are cut off one by one, and the first with a fault.
use Rattle.std.proofs.Common.{◌≡◌, ◌∙◌, ◌==◌, ℕ, true, false, ◌<◌, ◌≤◌, List, [], ◌∷◌, ◌++◌, ap, append_assoc, arith, length, length-append, map, refl, subst, sym, take}
use Rattle.std.specs.List.{slice_get}
use Rattle.std.proofs.Math.Seq.{take-append_seam}
use Rattle.std.proofs.lemmas.Bool.Decides.{nat_tests}
use Rattle.std.proofs.lemmas.List.{append-nil, length-map, map-append, nil_from_length}
use Rattle.std.proofs.lemmas.Slice.Zip.{AllZip-long, all_zipped_more}
use Rattle.iam_world.specs.World.{WorldValue}
use Rattle.iam_asked.specs.Code.Cut.{IsUnbroken}
use Rattle.iam_asked.specs.Code.TextsRead.{HasTexts}
use Rattle.iam_asked.specs.File.{lines_of}
use Rattle.iam_asked.specs.TextFault.{IsFirstFaultyText, IsTextFault}
use Rattle.iam_asked.specs.TextLines.{AreTextLines, IsTextLine, text_line_of}
use Rattle.iam_asked.specs.declared.text_fault.FaultyText.{FaultyText}
use Rattle.iam_asked.specs.declared.texts.TextLine.{TextLine}
use Rattle.iam_asked.proofs.Cutting.{at_seam, last}

-- where something is left, it is the last line
pub nothing_left : (left : List ℕ) → (length left == 0) ≡ true → left ≡ []
nothing_left left none = nil_from_length left (grind (arith, nat_tests))

pub last_line : (left : List ℕ) → IsUnbroken left → (length left == 0) ≡ false → lines_of left ≡ left ∷ []
last_line left unbroken some = last left unbroken (λ none. let empty = ap (λ it. length it == 0) none in let wrong : ⊥ = cc in wrong)

pub texts_none : (world : WorldValue) (bytes : List ℕ) → HasTexts world bytes bytes []
texts_none world bytes = record { lines = []; cut = refl; texts = tt; few = omega arith }

-- one more line
pub texts_more : (world : WorldValue) (bytes left line behind : List ℕ) (old new : List TextLine) (text : TextLine)
    → HasTexts world bytes left (map text_line_of old) → lines_of left ≡ line ∷ lines_of behind → IsTextLine world line (text_line_of text)
    → new ≡ old ++ text ∷ [] → length old < 65536 → HasTexts world bytes behind (map text_line_of new)
texts_more world bytes left line behind old new text has cut is more few =
    let values = map text_line_of old in
    let all : map text_line_of new ≡ values ++ text_line_of text ∷ [] = ap (map text_line_of) more ∙ map-append text_line_of old (text ∷ []) in
    record {
      lines = has.lines ++ line ∷ [];
      cut = has.cut ∙ ap (λ it. has.lines ++ it) cut ∙ sym (append_assoc has.lines (line ∷ []) (lines_of behind));
      texts = subst (AreTextLines world (has.lines ++ line ∷ [])) (sym all) (all_zipped_more (IsTextLine world) has.lines values line (text_line_of text) has.texts is);
      few = let long = length-map new text_line_of in let longer = ap length more in let one = length-append old (text ∷ []) in omega (arith, long, longer, one, few);
    }

-- a line with a fault
pub texts_faulty : (world : WorldValue) (bytes left line : List ℕ) (others : List (List ℕ)) (texts : List TextLine) (faulty : FaultyText)
    → HasTexts world bytes left (map text_line_of texts) → lines_of left ≡ line ∷ others → faulty.line ≡ length texts
    → IsTextFault world faulty.line line faulty.fault → IsFirstFaultyText world (lines_of bytes) faulty
texts_faulty world bytes left line others texts faulty has cut number is =
    let values = map text_line_of texts in
    let all : lines_of bytes ≡ has.lines ++ line ∷ others = has.cut ∙ ap (λ it. has.lines ++ it) cut in
    let long = length-map texts text_line_of in
    let count : faulty.line ≡ length has.lines = number ∙ sym long ∙ AllZip-long (IsTextLine world) has.lines values has.texts in
    let before : take faulty.line (lines_of bytes) ≡ has.lines =
    ap (λ n. take n (lines_of bytes)) count ∙ ap (take (length has.lines)) all ∙ take-append_seam has.lines (line ∷ others) in
    record {
      line = line;
      before = values;
      at = ap (λ them. slice_get them faulty.line) all ∙ at_seam has.lines line others faulty.line count;
      texts = subst (λ them. AreTextLines world them values) (sym before) has.texts;
      few = omega (arith, number, long, has.few);
      is = is;
    }

-- all lines
pub texts_all : (world : WorldValue) (bytes : List ℕ) (texts : List TextLine) → HasTexts world bytes [] (map text_line_of texts)
    → AreTextLines world (lines_of bytes) (map text_line_of texts) × (length texts ≤ 65536)
texts_all world bytes texts has = (
  subst (λ them. AreTextLines world them (map text_line_of texts)) (sym (has.cut ∙ append-nil has.lines)) has.texts,
  let long = length-map texts text_line_of in omega (arith, long, has.few),
)
