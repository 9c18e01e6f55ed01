-- Rows are made of one member after the other.
use Rattle.std.proofs.Common.{◌≡◌, ◌⊎◌, inl, inr, ◌∷◌, [], ◌++◌, ◌+◌, ◌∙◌, List, ℕ, String, All, Any, Contains, append_assoc, ap, chars, codes, map, refl, subst, sym, string_bytes}
use Rattle.std.proofs.lemmas.List.{append-nil}
use Rattle.std.proofs.lemmas.List.Elements.{All-cons, All-nil}
use Rattle.std.proofs.lemmas.Str.{IsUtf8-string_bytes}
use Rattle.std.specs.Global.{Global}
use Rattle.std.specs.List.{range_with_len}
use Rattle.std.specs.Str.{IsUtf8}
use Rattle.iam_glob.specs.Glob.{Matches}
use Rattle.iam_decision.specs.Matched.{Selects}
use Rattle.iam_layers.specs.declared.unnamed.Unnamed.{Unnamed}
use Rattle.iam_every.specs.Code.Rows.{AreOfMatched, AreRowsOfTexts}
use Rattle.iam_every.specs.Every.{EveryValue, IsFirst, IsMatched, IsNamed, LineValue, RowValue}
use Rattle.iam_every.specs.Made.{AreJoined, AreOfResource, AreOfStar, AreOfText, IsRowOf}
use Rattle.iam_every.proofs.ListLemmas.{first_or, here, none, behind}
use Rattle.iam_every.proofs.LineLemmas.{first_some}
use Rattle.iam_every.proofs.MeantLemmas.{next_range}

-- ---- one more
pub joined_more : {X : Type 0} (Made : X → List RowValue → Type 0) (xs : List X) (x : X) (rows more : List RowValue) → AreJoined Made xs rows → Made x more
    → AreJoined Made (xs ++ (x ∷ [])) (rows ++ more)
joined_more Made [] x rows more is made = (more, [], made, refl, ap (λ l. l ++ more) is ∙ sym (append-nil more))
joined_more Made (y ∷ xs) x rows more (one, rest, first, are, is) made =
    (one, rest ++ more, first, joined_more Made xs x rest more are made, ap (λ l. l ++ more) is ∙ append_assoc one rest more)

-- of the next number
pub joined_next : (Made : ℕ → List RowValue → Type 0) (n : ℕ) (rows more : List RowValue) → AreJoined Made (range_with_len 0 n) rows → Made n more
    → AreJoined Made (range_with_len 0 (n + 1)) (rows ++ more)
joined_next Made n rows more are made =
    subst (λ (l : List ℕ). AreJoined Made l (rows ++ more)) (sym (next_range n)) (joined_more Made (range_with_len 0 n) n rows more are made)

-- ---- the texts of a line
pub of_texts : (every : EveryValue) (p : ℕ) (action : List ℕ) (k : ℕ) (line : LineValue) (texts : List (List ℕ)) (rows : List RowValue)
    → AreJoined (AreOfText every p action k line) texts rows → AreRowsOfTexts every p action k line texts rows
of_texts every p action k line [] rows is = record {
  only = λ row among. absurd (none row (subst (λ (l : List RowValue). Contains l row) is among));
  whole = λ text among. absurd (none text among);
}
of_texts every p action k line (text ∷ texts) rows (one, rest, inl (first, (row, its, alone)), are, is) =
    let further = of_texts every p action k line texts rest are in
    let whole : rows ≡ row ∷ rest = is ∙ ap (λ l. l ++ rest) alone in
    record {
      only = λ found among. elim (first_or row found rest (subst (λ (l : List RowValue). Contains l found) whole among)) [
        | inl same ↦ (text, here text texts, first, subst (IsRowOf every.world p line.unnamed action text) same its)
        | inr later ↦ let (t, there, is_first, of) = further.only found later in (t, behind text t texts there, is_first, of)
      ];
      whole = λ t among is_first. elim (first_or text t texts among) [
        | inl same ↦ (
          row,
          subst (λ (l : List RowValue). Contains l row) (sym whole) (here row rest),
          subst (λ (x : List ℕ). IsRowOf every.world p line.unnamed action x row) same its,
        )
        | inr later ↦
            let (found, there, of) = further.whole t later is_first in
            (found, subst (λ (l : List RowValue). Contains l found) (sym whole) (behind row found rest there), of)
      ];
    }
of_texts every p action k line (text ∷ texts) rows (one, rest, inr (never, empty), are, is) =
    let further = of_texts every p action k line texts rest are in
    let whole : rows ≡ rest = is ∙ ap (λ l. l ++ rest) empty in
    record {
      only = λ found among.
          let (t, there, is_first, of) = further.only found (subst (λ (l : List RowValue). Contains l found) whole among) in
          (t, behind text t texts there, is_first, of);
      whole = λ t among is_first. elim (first_or text t texts among) [
        | inl same ↦ absurd (never (subst (λ (x : List ℕ). IsFirst every.lines x k line) (sym same) is_first))
        | inr later ↦
            let (found, there, of) = further.whole t later is_first in
            (found, subst (λ (l : List RowValue). Contains l found) (sym whole) there, of)
      ];
    }

-- ---- the texts of strings
pub spelled : (texts : List (String Global)) → map (λ text. chars (string_bytes text)) texts ≡ map chars (map string_bytes texts)
spelled [] = refl
spelled (text ∷ texts) = ap (λ rest. chars (string_bytes text) ∷ rest) (spelled texts)

pub all_utf8 : (texts : List (String Global)) → All IsUtf8 (map string_bytes texts)
all_utf8 [] = All-nil IsUtf8
all_utf8 (text ∷ texts) = All-cons IsUtf8 (string_bytes text) (map string_bytes texts) (IsUtf8-string_bytes text) (all_utf8 texts)

-- ---- the resources of the world
-- rows of those that some line matches are those of all
pub joined_matched : (every : EveryValue) (p : ℕ) (action : List ℕ) (xs matched : List ℕ) (rows : List RowValue)
    → Selects (IsMatched every.world every.lines) xs matched → AreJoined (AreOfMatched every p action) matched rows
    → AreJoined (AreOfResource every p action) xs rows
joined_matched every p action [] matched rows none made = subst (λ (l : List ℕ). AreJoined (AreOfMatched every p action) l rows) none made
joined_matched every p action (x ∷ xs) matched rows (inl (holds, (rest, is, chosen))) made =
    let (one, more, (row, at, alone), are, both) = subst (λ (l : List ℕ). AreJoined (AreOfMatched every p action) l rows) is made in
    (one, more, inl (holds, (row, at, alone)), joined_matched every p action xs rest more chosen are, both)
joined_matched every p action (x ∷ xs) matched rows (inr (not, chosen)) made =
    ([], rows, inr (not, refl), joined_matched every p action xs matched rows chosen made, refl)

-- ---- `*`
pub star_made : (every : EveryValue) (p : ℕ) (action : List ℕ) (k : ℕ) (line : LineValue) (unnamed : Unnamed) (row : RowValue)
    → ¬ IsNamed every.world (codes "*") → IsFirst every.lines (codes "*") k line → unnamed ≡ line.unnamed
    → IsRowOf every.world p unnamed action (codes "*") row → AreOfStar every p action (row ∷ [])
star_made every p action k line unnamed row never first same of =
    inl (
      (never, first_some every.lines (codes "*") k line first),
      (row, (k, line, first, subst (λ (u : Unnamed). IsRowOf every.world p u action (codes "*") row) same of), refl),
    )

pub star_none : (every : EveryValue) (p : ℕ) (action : List ℕ) (rows : List RowValue) → rows ≡ []
    → (IsNamed every.world (codes "*") ⊎ ¬ Any (λ line. Matches line.pattern (chars (codes "*"))) every.lines) → AreOfStar every p action rows
star_none every p action rows is either =
    inr (λ (unnamed, some). elim either [ inl named ↦ unnamed named | inr unlined ↦ unlined some ], is)
