-- A request is known by its texts: what a world says of it is said once, and it stands once among the requests of two worlds.
use Rattle.std.proofs.Common.{◌≡◌, ℕ, ◌+◌, ◌*◌, ◌<◌, get_or, length, List, Option, Some, None, refl, sym, ap, subst, ◌∙◌, ⊎_elim, arith}
use Rattle.std.specs.List.{slice_get}
use Rattle.std.proofs.lemmas.Bool.{cases_lt}
use Rattle.std.proofs.lemmas.Option.{slice_get-get_or}
use Rattle.iam_decision.specs.Applicable.{ApplicableValue}
use Rattle.iam_decision.specs.declared.verdict.Verdict.{Verdict}
use Rattle.iam_layers.specs.Applicable.{applicable_of}
use Rattle.iam_layers.specs.Cell.{IsApplicableAt, IsVerdictOf}
use Rattle.iam_layers.specs.Laws.{OneTriple, OneVerdictOf}
use Rattle.iam_layers.proofs.CellLemmas.{cell_below}
use Rattle.iam_world.specs.World.{WorldValue, world_cells}
use Rattle.iam_row.specs.Report.{CellTexts, IsCellTexts}
use Rattle.iam_changes.specs.Lists.{somes}
use Rattle.iam_changes.specs.Requests.{AreOfCells, AreRequests, Has, IsUnlessHad}
use Rattle.iam_changes.specs.Twice.{IsApart, StandOnce, axis_texts}
use Rattle.iam_changes.specs.declared.twice.Axis.TheVariants.{Principals, Actions, Resources}
use Rattle.iam_changes.proofs.Ones.{one_texts}
use Rattle.iam_changes.proofs.Places.{principal_there, resource_there}
use Rattle.iam_changes.specs.Change.{AppliesTo, SaidValue, Says}
use Rattle.iam_changes.proofs.Somes.{OnceIn, OnceSome, once_append, once_somes, in_front, in_back, some_in, some_from}

-- ---- a text that stands once

one_place : (texts : List (List ℕ)) → StandOnce texts → (m n : ℕ) (text : List ℕ) → slice_get texts m ≡ Some text → slice_get texts n ≡ Some text → m ≡ n
one_place texts once m n text at there =
    ⊎_elim (λ less. absurd (once n (m, text, less, at, there)))
    (λ most. ⊎_elim (λ more. absurd (once m (n, text, more, there, at))) (λ least. omega (arith, most, least)) (cases_lt n m)) (cases_lt m n)

-- texts have one cell
pub same_cell : (world : WorldValue) → IsApart world → (cell other : ℕ) (texts : CellTexts) → IsCellTexts world cell texts → IsCellTexts world other texts → cell ≡ other
same_cell world apart cell other texts (p, a, r, is, has) (q, b, s, there, also) =
    let A = length world.actions in
    let R = length world.resources in
    let one = one_place (axis_texts Principals world) (apart Principals) p q texts.principal (principal_there world p a r texts has) (principal_there world q b s texts also) in
    let two = one_place (axis_texts Actions world) (apart Actions) a b texts.action has.action also.action in
    let three = one_place (axis_texts Resources world) (apart Resources) r s texts.resource (resource_there world p a r texts has) (resource_there world q b s texts also) in
    is.number ∙ ap (λ x. (x * A + a) * R + r) one ∙ ap (λ x. (q * A + x) * R + r) two ∙ ap (λ x. (q * A + b) * R + x) three ∙ sym there.number

-- the same policies apply wherever a principal asks for a resource
one_applicable : (world : WorldValue) (p r : ℕ) (a b : ApplicableValue) → IsApplicableAt world p r a → IsApplicableAt world p r b → a ≡ b
one_applicable world p r a b (principal, p_at, (resource, r_at, is)) (other, q_at, (another, s_at, same)) =
    let one : principal ≡ other = cc in
    let two : resource ≡ another = cc in
    is ∙ ap (λ x. applicable_of world x resource) one ∙ ap (applicable_of world other) two ∙ sym same

one_applied : OneTriple → (world : WorldValue) (cell : ℕ) (a b : ApplicableValue) → AppliesTo world cell a → AppliesTo world cell b → a ≡ b
one_applied triples world cell a b (p, c, r, is, applies) (q, d, s, there, also) =
    let (same, _, too) = triples world cell p c r q d s is there in
    one_applicable world q s a b (subst (λ x. IsApplicableAt world x s a) same (subst (λ y. IsApplicableAt world p y a) too applies)) also

-- of a request one thing is said
pub one_said : OneVerdictOf → OneTriple → (world : WorldValue) → IsApart world → (texts : CellTexts) (x y : Option SaidValue) → Says world texts x → Says world texts y
    → x ≡ y
one_said verdicts triples world apart texts None None h k = refl
one_said verdicts triples world apart texts None (Some said) h (cell, is, of, applies) = absurd (h (cell, is))
one_said verdicts triples world apart texts (Some said) None (cell, is, of, applies) k = absurd (k (cell, is))
one_said verdicts triples world apart texts (Some said) (Some other) (cell, is, of, applies) (number, there, also, too) =
    let same = same_cell world apart cell number texts is there in
    let verdict = verdicts world number said.verdict other.verdict (subst (λ c. IsVerdictOf world c said.verdict) same of) also in
    let policies = one_applied triples world number said.policies other.policies (subst (λ c. AppliesTo world c said.policies) same applies) too in
    ap (λ (v : Verdict). Some (record { verdict = v; policies = said.policies })) verdict
    ∙ ap (λ (a : ApplicableValue). Some (record { verdict = other.verdict; policies = a })) policies

-- ---- the request of a cell among the entries of all cells

pub inside : (world : WorldValue) (cell : ℕ) (texts : CellTexts) → IsCellTexts world cell texts → cell < world_cells world
inside world cell texts (p, a, r, is, has) =
    subst (λ c. c < world_cells world) (sym is.number)
    (cell_below (length world.principals) (length world.actions) (length world.resources) p a r is.principal is.action is.resource)

entry_of : {X : Type 0} → OneTriple → (world : WorldValue) (Is : CellTexts → X → Type 0) (entries : List X) (cell : ℕ) (texts : CellTexts) (d : X) → AreOfCells world Is entries
    → IsCellTexts world cell texts → (entry : X) × (slice_get entries cell ≡ Some entry) × Is texts entry
entry_of {X} triples world Is entries cell texts d all is =
    let below : cell < length entries = subst (λ n. cell < n) (sym all.count) (inside world cell texts is) in
    let at = slice_get-get_or entries cell d below in
    let (named, has, fits) = all.each cell (get_or entries cell d) at in
    let number : 0 + cell ≡ cell = omega arith in
    let same = one_texts triples world cell named texts (subst (λ c. IsCellTexts world c named) number has) is in
    (get_or entries cell d, at, subst (λ t. Is t (get_or entries cell d)) same fits)

-- ---- each request stands among those of two worlds

pub has_after : OneTriple → (before after : WorldValue) (requests : List CellTexts) (texts : CellTexts) → AreRequests before after requests → Has after texts
    → (k : ℕ) × (slice_get requests k ≡ Some texts)
has_after triples before after requests texts (firsts, lasts, of_firsts, of_lasts, is) (cell, there) =
    let (entry, at, same) = entry_of triples after (λ t request. request ≡ t) firsts cell texts texts of_firsts there in
    subst (λ l. (k : ℕ) × (slice_get l k ≡ Some texts)) (sym is) (in_front firsts (somes lasts) cell texts (at ∙ ap Some same))

left_over : OneTriple → (before after : WorldValue) (requests : List CellTexts) (texts : CellTexts) → AreRequests before after requests → (lasts : List (Option CellTexts)) (cell : ℕ)
    → (k : ℕ) → (entry : Option CellTexts) → slice_get lasts k ≡ Some entry → IsUnlessHad after texts entry
    → ((i : ℕ) → slice_get (somes lasts) i ≡ Some texts → (j : ℕ) × (slice_get requests j ≡ Some texts)) → (j : ℕ) × (slice_get requests j ≡ Some texts)
left_over triples before after requests texts are lasts cell k None at there up = has_after triples before after requests texts are there
left_over triples before after requests texts are lasts cell k (Some request) at (same, absent) up =
    let (i, stands) = some_in lasts k texts (at ∙ ap (λ t. Some (Some t)) same) in up i stands

pub has_before : OneTriple → (before after : WorldValue) (requests : List CellTexts) (texts : CellTexts) → AreRequests before after requests → Has before texts
    → (k : ℕ) × (slice_get requests k ≡ Some texts)
has_before triples before after requests texts (firsts, lasts, of_firsts, of_lasts, is) (cell, there) =
    let (entry, at, fits) = entry_of triples before (IsUnlessHad after) lasts cell texts None of_lasts there in
    left_over triples before after requests texts (firsts, lasts, of_firsts, of_lasts, is) lasts cell cell entry at fits
    (λ i stands. subst (λ l. (j : ℕ) × (slice_get l j ≡ Some texts)) (sym is) (in_back firsts (somes lasts) i texts stands))

-- ---- and stands there once

pub of_number : {X : Type 0} (Is : CellTexts → X → Type 0) (world : WorldValue) (entries : List X) (k : ℕ) (entry : X) → AreOfCells world Is entries → slice_get entries k ≡ Some entry
    → (texts : CellTexts) × IsCellTexts world k texts × Is texts entry
of_number Is world entries k entry all at =
    let number : 0 + k ≡ k = omega arith in
    subst (λ c. (texts : CellTexts) × IsCellTexts world c texts × Is texts entry) number (all.each k entry at)

once_first : (world : WorldValue) → IsApart world → (firsts : List CellTexts) → AreOfCells world (λ t request. request ≡ t) firsts → OnceIn firsts
once_first world apart firsts all i j texts at there =
    let (t, is, e) = of_number (λ t request. request ≡ t) world firsts i texts all at in
    let (u, also, f) = of_number (λ t request. request ≡ t) world firsts j texts all there in
    same_cell world apart i j texts (subst (IsCellTexts world i) (sym e) is) (subst (IsCellTexts world j) (sym f) also)

once_last : (before after : WorldValue) → IsApart before → (lasts : List (Option CellTexts)) → AreOfCells before (IsUnlessHad after) lasts → OnceSome lasts
once_last before after apart lasts all k l texts at there =
    let (t, is, (e, absent)) = of_number (IsUnlessHad after) before lasts k (Some texts) all at in
    let (u, also, (f, missing)) = of_number (IsUnlessHad after) before lasts l (Some texts) all there in
    same_cell before apart k l texts (subst (IsCellTexts before k) (sym e) is) (subst (IsCellTexts before l) (sym f) also)

pub once_requests : (before after : WorldValue) → IsApart before → IsApart after → (requests : List CellTexts) → AreRequests before after requests → OnceIn requests
once_requests before after apart apart_after requests (firsts, lasts, of_firsts, of_lasts, is) =
    subst OnceIn (sym is)
    (once_append firsts (somes lasts) (once_first after apart_after firsts of_firsts) (once_somes lasts (once_last before after apart lasts of_lasts))
    (λ i j texts at there.
    let (t, has, e) = of_number (λ t request. request ≡ t) after firsts i texts of_firsts at in
    let (k, stands) = some_from lasts j texts there in
    let (u, also, (f, absent)) = of_number (IsUnlessHad after) before lasts k (Some texts) of_lasts stands in
    absent (subst (Has after) f (i, subst (IsCellTexts after i) (sym e) has))))
