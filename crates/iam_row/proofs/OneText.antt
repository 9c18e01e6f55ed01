-- Rows of the same entries are the same, and so are the texts that are put together from them.
use Rattle.std.proofs.Common.{◌≡◌, ℕ, suc, ◌+◌, ◌<◌, List, [], ◌∷◌, ◌++◌, length, Some, refl, sym, ap, ◌∙◌, subst, arith}
use Rattle.std.specs.List.{concat, slice_get}
use Rattle.iam_world.specs.World.{WorldValue, world_cells}
use Rattle.iam_layers.specs.Laws.{SomeTriple}
use Rattle.iam_row.specs.Laws
use Rattle.iam_row.specs.Report.{AreRowsFrom, CellTexts, HasTexts, IsCellTexts, Layout, json_text}
use Rattle.iam_row.specs.declared.quoted.Format.TheVariants.{Csv, Json}
use Rattle.iam_row.proofs.Rows.{found, same_texts, texts_there}

-- lists with the same items
same_items : {A : Type 0} (xs ys : List A) → length xs ≡ length ys → ((i : ℕ) → i < length xs → slice_get xs i ≡ slice_get ys i) → xs ≡ ys
same_items [] [] e same = refl
same_items [] (y ∷ ys) e same = absurd (omega (arith, e))
same_items (x ∷ xs) [] e same = absurd (omega (arith, e))
same_items (x ∷ xs) (y ∷ ys) e same =
    let first : Some x ≡ Some y = same 0 (omega arith) in
    let here : x ≡ y = cc in
    ap (λ z. z ∷ xs) here ∙ ap (λ zs. y ∷ zs) (same_items xs ys (omega (arith, e)) (λ i below. same (suc i) (omega (arith, below))))

-- each cell has texts
each_has : SomeTriple → (world : WorldValue) (n : ℕ) → n ≡ world_cells world → (i : ℕ) → i < n → (texts : CellTexts) × IsCellTexts world (0 + i) texts
each_has triples world n all i below =
    let number : i ≡ 0 + i = omega arith in
    let (p, a, r, is) = triples world i (omega (arith, all, below)) in
    let texts = texts_there world i p a r is in
    (texts.0, subst (λ c. IsCellTexts world c texts.0) number (p, a, r, is, texts.1))

one_rows : {A B : Type 0} → SomeTriple → (world : WorldValue) (row : ℕ → CellTexts → A → B) (entries : List A) (rows others : List B)
    → length entries ≡ world_cells world → AreRowsFrom world row 0 entries rows → AreRowsFrom world row 0 entries others → rows ≡ others
one_rows triples world row entries rows others all h k =
    same_items rows others (h.count ∙ sym k.count)
    (λ i below.
    let inside : i < length entries = omega (arith, below, h.count) in
    let texts = each_has triples world (length entries) all i inside in
    let entry = found entries i inside in
    h.each i texts.0 entry.0 texts.1 entry.1 ∙ sym (k.each i texts.0 entry.0 texts.1 entry.1))

-- a text that is put together from the rows of entries
abbrev IsMadeOf : {A B : Type 0} → WorldValue → (ℕ → CellTexts → A → B) → (List B → List ℕ) → List A → List ℕ → Type 0
IsMadeOf {A} {B} world row join entries text = (rows : List B) × AreRowsFrom world row 0 entries rows × (text ≡ join rows)

one_made : {A B : Type 0} → SomeTriple → (world : WorldValue) (row : ℕ → CellTexts → A → B) (join : List B → List ℕ) (entries : List A) (text other : List ℕ)
    → length entries ≡ world_cells world → IsMadeOf world row join entries text → IsMadeOf world row join entries other → text ≡ other
one_made triples world row join entries text other all (rows, h, is) (others, k, same) =
    is ∙ ap join (one_rows triples world row entries rows others all h k) ∙ sym same

pub one_text : {A : Type 0} → SomeTriple → (layout : Layout A) → Laws.OneText layout
one_text triples layout Csv world entries text other all h k =
    one_made triples world layout.line (λ lines. layout.header ++ concat lines) entries text other all h k
one_text triples layout Json world entries text other all h k = one_made triples world layout.object json_text entries text other all h k

-- the row of a cell
one_line : (world : WorldValue) (p a r : ℕ) (line : CellTexts → List ℕ) (text other : List ℕ) → ((texts : CellTexts) × HasTexts world p a r texts × (text ≡ line texts))
    → ((texts : CellTexts) × HasTexts world p a r texts × (other ≡ line texts)) → text ≡ other
one_line world p a r line text other (t, has, is) (u, has', same) = is ∙ ap line (same_texts world p a r t u has has') ∙ sym same

pub one_row : {A : Type 0} → (layout : Layout A) → Laws.OneRow layout
one_row layout world cell p a r entry text other h k = one_line world p a r (λ texts. layout.header ++ layout.line cell texts entry) text other h k
