-- Entries that have to be as they are make one list, and one report.
use Rattle.std.proofs.Common.{◌≡◌, inl, inr, ℕ, suc, ◌+◌, true, false, List, [], ◌∷◌, length, Option, None, Some, refl, sym, ap, ◌∙◌, subst, arith}
use Rattle.std.proofs.lemmas.Bool.{cases_order}
use Rattle.iam_decision.specs.declared.verdict.Decision.TheVariants.{Allowed}
use Rattle.iam_world.specs.World.{WorldValue}
use Rattle.iam_layers.specs.Cell.{IsDecisionOf, IsVerdictOf}
use Rattle.iam_layers.specs.Laws.{OneDecisionOf, OneTriple, OneVerdictOf}
use Rattle.iam_row.specs.CsvRow.{IsCsvRow}
use Rattle.iam_row.specs.Laws.{OneRow, OneText}
use Rattle.iam_row.specs.Report.{IsReport, brief_layout, full_layout}
use Rattle.iam_matrix.specs.Laws
use Rattle.iam_matrix.specs.Matrix.{AreEntriesFrom, IsNotAllowed}
use Rattle.iam_matrix.specs.Report.{IsFirstText}

-- the entries behind the first
entries_behind : {X : Type 0} (Is : ℕ → X → Type 0) (from : ℕ) (x : X) (xs : List X) → AreEntriesFrom Is from (x ∷ xs) → AreEntriesFrom Is (from + 1) xs
entries_behind Is from x xs are i y at = let same : from + suc i ≡ from + 1 + i = omega arith in subst (λ k. Is k y) same (are (suc i) y at)

pub one_entries : {X : Type 0} (Is : ℕ → X → Type 0) → ((cell : ℕ) (x y : X) → Is cell x → Is cell y → x ≡ y) → (from : ℕ) (xs ys : List X)
    → length xs ≡ length ys → AreEntriesFrom Is from xs → AreEntriesFrom Is from ys → xs ≡ ys
one_entries Is one from [] [] e h k = refl
one_entries Is one from [] (y ∷ ys) e h k = absurd (omega (arith, e))
one_entries Is one from (x ∷ xs) [] e h k = absurd (omega (arith, e))
one_entries Is one from (x ∷ xs) (y ∷ ys) e h k =
    ap (λ z. z ∷ xs) (one (from + 0) x y (h 0 x refl) (k 0 y refl))
    ∙ ap (λ zs. y ∷ zs) (one_entries Is one (from + 1) xs ys (omega (arith, e)) (entries_behind Is from x xs h) (entries_behind Is from y ys k))

pub one_matrix : OneVerdictOf → Laws.OneMatrix IsVerdictOf
one_matrix verdicts world xs ys h k = one_entries (IsVerdictOf world) (verdicts world) 0 xs ys (h.count ∙ sym k.count) h.each k.each

pub one_brief_matrix : OneDecisionOf → Laws.OneMatrix IsDecisionOf
one_brief_matrix decisions world xs ys h k = one_entries (IsDecisionOf world) (decisions world) 0 xs ys (h.count ∙ sym k.count) h.each k.each

pub none_allowed : OneDecisionOf → (world : WorldValue) (cell : ℕ) → IsNotAllowed world cell → ¬ IsDecisionOf world cell Allowed
none_allowed decisions world cell here allowed = here.not_allowed (decisions world cell here.decision Allowed here.is allowed)

pub one_first : OneDecisionOf → Laws.OneFirst
one_first decisions world None None h k = refl
one_first decisions world None (Some cell) h k = absurd (none_allowed decisions world cell (h cell k.0) k.1)
one_first decisions world (Some cell) None h k = absurd (none_allowed decisions world cell (k cell h.0) h.1)
one_first decisions world (Some cell) (Some other) h k = elim (cases_order cell other) [
  | inl same ↦ ap Some same
  | inr (inl lower) ↦ absurd (none_allowed decisions world cell (k.2 cell lower) h.1)
  | inr (inr higher) ↦ absurd (none_allowed decisions world other (h.2 other higher) k.1)
]

pub one_report : Laws.OneMatrix IsVerdictOf → Laws.OneMatrix IsDecisionOf → OneText full_layout → OneText brief_layout → Laws.OneReport
one_report matrices briefs texts brief_texts format true world text other (decisions, h, is) (others, k, there) =
    let same : decisions ≡ others = briefs world decisions others h k in
    brief_texts format world others text other k.count (subst (λ ds. IsReport brief_layout format world ds text) same is) there
one_report matrices briefs texts brief_texts format false world text other (verdicts, h, is) (others, k, there) =
    let same : verdicts ≡ others = matrices world verdicts others h k in
    texts format world others text other k.count (subst (λ vs. IsReport full_layout format world vs text) same is) there

pub one_first_text : OneTriple → OneRow brief_layout → (world : WorldValue) (first : Option ℕ) (text other : List ℕ) → IsFirstText world first text → IsFirstText world first other
    → text ≡ other
one_first_text triples rows world None text other h k = h ∙ sym k
one_first_text triples rows world (Some cell) text other (p, a, r, here, h) (q, b, s, there, k) =
    let same = triples world cell p a r q b s here there in
    let Row : ℕ → ℕ → ℕ → Type 0 = λ x y z. IsCsvRow brief_layout world cell x y z Allowed text in
    rows world cell q b s Allowed text other
    (subst (λ n. Row q b n) same.2 (subst (λ n. Row q n r) same.1 (subst (λ n. Row n a r) same.0 h))) k

pub one_first_report : Laws.OneFirst → OneTriple → OneRow brief_layout → Laws.OneFirstReport
one_first_report firsts triples rows world text other (first, h, is) (more, k, there) =
    one_first_text triples rows world more text other (subst (λ f. IsFirstText world f text) (firsts world first more h k) is) there
