-- The laws of changes, of two worlds whose requests can be told apart.
use Rattle.std.proofs.Common.{◌≡◌, ◌↔◌, ℕ, true, Contains, List, Option, Some, None, map, refl, sym, ap, subst, ◌∙◌, inl, inr}
use Rattle.std.specs.List.{AllZip, slice_get}
use Rattle.std.proofs.lemmas.Option.{get_or_from_slice_get, slice_get-get_or, slice_get_within}
use Rattle.iam_decision.specs.declared.verdict.Decision.TheVariants.{Allowed}
use Rattle.iam_decision.specs.declared.verdict.Verdict.{Verdict}
use Rattle.iam_layers.specs.Cell.{IsDecisionOf, IsVerdictOf}
use Rattle.iam_layers.specs.Laws.{OneDecisionOf, OneTriple, OneVerdictOf}
use Rattle.iam_world.specs.World.{WorldValue}
use Rattle.iam_row.specs.Changes.{allows, changes_text}
use Rattle.iam_row.specs.Report.{CellTexts}
use Rattle.iam_row.specs.declared.changes.Change.{Change}
use Rattle.iam_row.specs.declared.changes.Change.TheVariants.{Gained, Lost}
use Rattle.iam_row.specs.Selects.{Selects}
use Rattle.iam_changes.specs.RequestLaws.{OneRequests}
use Rattle.iam_changes.specs.Lists.{somes}
use Rattle.iam_changes.specs.Requests.{AreRequests, Has}
use Rattle.iam_changes.specs.Twice.{IsApart}
use Rattle.iam_changes.specs.Change.{AskedValue, ChangeValue, Changes, IsChange, IsRow, SaidValue, Says, is_said_allowed}
use Rattle.iam_changes.specs.Laws
use Rattle.iam_changes.specs.Laws.{Allows, turned}
use Rattle.iam_changes.specs.Report.{HasKinds, row_of}
use Rattle.iam_changes.proofs.Cells.{has_after, has_before, once_requests, one_said, same_cell}
use Rattle.iam_changes.proofs.Changing.{allows_only, must, no_change, one_kind, one_kinds, some_side, turn, turn_back}
use Rattle.iam_changes.proofs.Somes.{none_there, once_zip, one_zip, zip_from, zip_to}

-- ---- one row

-- a request that has no row has not changed
clash : OneVerdictOf → OneTriple → (asked : AskedValue) (before after : WorldValue) → IsApart before → IsApart after → (texts : CellTexts) (c : ChangeValue) → IsRow asked before after texts None
    → ¬ IsRow asked before after texts (Some c)
clash verdicts triples asked before after apart also texts c h (selects, same, is) = elim h [
  | inl not ↦ not selects
  | inr (said, says, one, two, none) ↦
      let first : said ≡ c.before = one_said verdicts triples before apart texts said c.before one (subst (λ t. Says before t c.before) same is.said) in
      let second : says ≡ c.after = one_said verdicts triples after also texts says c.after two (subst (λ t. Says after t c.after) same is.says) in
      none c.change (subst (λ x. Changes asked.all x says c.change) (sym first) (subst (λ y. Changes asked.all c.before y c.change) (sym second) is.is))
]

abbrev change_of : CellTexts → Change → Option SaidValue → Option SaidValue → ChangeValue
change_of texts change before after = record { texts = texts; change = change; before = before; after = after }

-- and a request has one change
one_change : OneVerdictOf → OneTriple → (asked : AskedValue) (before after : WorldValue) → IsApart before → IsApart after → (c d : ChangeValue) → c.texts ≡ d.texts
    → IsChange before after asked.all c → IsChange before after asked.all d → c ≡ d
one_change verdicts triples asked before after apart also c d same is are =
    let first : c.before ≡ d.before = one_said verdicts triples before apart d.texts c.before d.before (subst (λ t. Says before t c.before) same is.said) are.said in
    let second : c.after ≡ d.after = one_said verdicts triples after also d.texts c.after d.after (subst (λ t. Says after t c.after) same is.says) are.says in
    let there : Changes asked.all d.before d.after c.change =
    subst (λ x. Changes asked.all x d.after c.change) first (subst (λ y. Changes asked.all c.before y c.change) second is.is) in
    let kind : c.change ≡ d.change = one_kind asked.all d.before d.after c.change d.change there are.is in
    ap (λ t. change_of t c.change c.before c.after) same ∙ ap (λ k. change_of d.texts k c.before c.after) kind
    ∙ ap (λ x. change_of d.texts d.change x c.after) first ∙ ap (change_of d.texts d.change d.before) second

one_row : OneVerdictOf → OneTriple → (asked : AskedValue) (before after : WorldValue) → IsApart before → IsApart after → (texts : CellTexts) (x y : Option ChangeValue) → IsRow asked before after texts x
    → IsRow asked before after texts y → x ≡ y
one_row verdicts triples asked before after apart also texts None None h k = refl
one_row verdicts triples asked before after apart also texts None (Some c) h k = absurd (clash verdicts triples asked before after apart also texts c h k)
one_row verdicts triples asked before after apart also texts (Some c) None h k = absurd (clash verdicts triples asked before after apart also texts c k h)
one_row verdicts triples asked before after apart also texts (Some c) (Some d) (selects, same, is) (chosen, equal, are) =
    ap Some (one_change verdicts triples asked before after apart also c d (same ∙ sym equal) is are)

-- ---- one list, and one report

pub one_list : OneVerdictOf → OneTriple → OneRequests → Laws.OneChanges
one_list verdicts triples one asked before after changes others apart also (requests, rows, are, zip, is) (more, entries, too, fits, same) =
    let alike = one before after requests more are too in
    let rows_same = one_zip (IsRow asked before after) (one_row verdicts triples asked before after apart also) more rows entries
    (subst (λ rs. AllZip (IsRow asked before after) rs rows) alike zip) fits in
    is ∙ ap somes rows_same ∙ sym same

pub one_report : OneVerdictOf → OneTriple → OneRequests → Laws.OneChangesReport
one_report verdicts triples one format brief asked before after text other kinds others apart also (changes, are, is, has) (more, too, same, fits) =
    let alike = one_list verdicts triples one asked before after changes more apart also are too in
    (is ∙ ap (λ (cs : List ChangeValue). changes_text format brief (map row_of cs)) alike ∙ sym same, one_kinds more kinds others (subst (λ cs. HasKinds cs kinds) alike has) fits)

-- ---- exactly the changes

in_at : (xs : List ChangeValue) (x : ChangeValue) → Contains xs x → (i : ℕ) × (slice_get xs i ≡ Some x)
in_at xs x (i, below, e) = (i, slice_get-get_or xs i x below ∙ ap Some e)

at_in : (xs : List ChangeValue) (i : ℕ) (x : ChangeValue) → slice_get xs i ≡ Some x → Contains xs x
at_in xs i x at = (i, slice_get_within xs i x at, get_or_from_slice_get xs i x x at)

-- a request that a world says something of is one of its requests
has_said : (world : WorldValue) (texts : CellTexts) (x : Option SaidValue) (v : SaidValue) → x ≡ Some v → Says world texts x → Has world texts
has_said world texts None v e h = absurd (let wrong : ⊥ = cc in wrong)
has_said world texts (Some w) v e (cell, is, of, applies) = (cell, is)

-- a request that has changed is one of both worlds
stands : OneTriple → (asked : AskedValue) (before after : WorldValue) (requests : List CellTexts) (c : ChangeValue) → AreRequests before after requests
    → IsChange before after asked.all c → (k : ℕ) × (slice_get requests k ≡ Some c.texts)
stands triples asked before after requests c are is = elim (some_side asked.all c.before c.after c.change is.is) [
  | inl (v, e) ↦ has_before triples before after requests c.texts are (has_said before c.texts c.before v e is.said)
  | inr (v, e) ↦ has_after triples before after requests c.texts are (has_said after c.texts c.after v e is.says)
]

-- the row of a request that has changed is there
row_is : OneVerdictOf → OneTriple → (asked : AskedValue) (before after : WorldValue) → IsApart before → IsApart after → (rows : List (Option ChangeValue)) (c : ChangeValue) (entry : Option ChangeValue)
    → Selects asked.selection c.texts → IsChange before after asked.all c → IsRow asked before after c.texts entry
    → ((d : ChangeValue) → entry ≡ Some d → (i : ℕ) × (slice_get (somes rows) i ≡ Some d)) → (i : ℕ) × (slice_get (somes rows) i ≡ Some c)
row_is verdicts triples asked before after apart also rows c None selects is row up = absurd (clash verdicts triples asked before after apart also c.texts c row (selects, refl, is))
row_is verdicts triples asked before after apart also rows c (Some d) selects is (chosen, same, are) up =
    up c (ap Some (one_change verdicts triples asked before after apart also d c same are is))

pub exactly : OneVerdictOf → OneTriple → Laws.ExactlyTheChanges
exactly verdicts triples asked before after changes change apart also (requests, rows, are, zip, is) = (
  λ there.
      let (i, at) = in_at changes change there in
      let (k, texts, stand, (selects, same, changed)) = zip_from (IsRow asked before after) requests rows i change zip (subst (λ cs. slice_get cs i ≡ Some change) is at) in
      (subst (Selects asked.selection) (sym same) selects, changed),
  λ (selects, changed).
      let (k, stand) = stands triples asked before after requests change are changed in
      let (entry, row, up) = zip_to (IsRow asked before after) requests rows k change.texts zip stand in
      let (i, at) = row_is verdicts triples asked before after apart also rows change entry selects changed row up in
      at_in changes i change (subst (λ cs. slice_get cs i ≡ Some change) (sym is) at),
)

-- ---- each once

pub each_once : OneTriple → Laws.EachChangeOnce
each_once triples asked before after changes i j c d apart also (requests, rows, are, zip, is) at there same =
    once_zip (IsRow asked before after) (λ (x : ChangeValue). x.texts) (λ texts x h. h.1) requests rows (once_requests before after apart also requests are) zip i j c d
    (subst (λ cs. slice_get cs i ≡ Some c) is at) (subst (λ cs. slice_get cs j ≡ Some d) is there) same

-- ---- a world against itself

pub against_itself : OneVerdictOf → OneTriple → Laws.NoChangesAgainstItself
against_itself verdicts triples asked world changes apart (requests, rows, are, zip, is) =
    is
    ∙ none_there (IsRow asked world world)
    (λ texts c (selects, same, changed).
    no_change asked.all c.before c.after c.change (one_said verdicts triples world apart c.texts c.before c.after changed.said changed.says) changed.is)
    requests rows zip

-- ---- the other way

pub other_way : Laws.ExactlyTheChanges → Laws.GainedIsLost
other_way all asked before after changes others c apart also are too = (
  λ there.
      let (selects, is) = (all asked before after changes c apart also are).0 there in
      let turned_is : IsChange after before asked.all (turned c) = record { said = is.says; says = is.said; is = turn asked.all c.before c.after c.change is.is } in
      (all asked after before others (turned c) also apart too).1 (selects, turned_is),
  λ there.
      let (selects, is) = (all asked after before others (turned c) also apart too).0 there in
      let back : IsChange before after asked.all c = record { said = is.says; says = is.said; is = turn_back asked.all c.before c.after c.change is.is } in
      (all asked before after changes c apart also are).1 (selects, back),
)

-- ---- the same access

decided : (world : WorldValue) (cell : ℕ) (v : Verdict) → IsVerdictOf world cell v → IsDecisionOf world cell v.decision
decided world cell v (p, a, r, is, (applicable, request, of, verdict)) = (p, a, r, is, (applicable, request, of, verdict.decided))

allowed_said : OneDecisionOf → (world : WorldValue) → IsApart world → (texts : CellTexts) (x : Option SaidValue) → Allows world texts → Says world texts x → is_said_allowed x ≡ true
allowed_said decisions world apart texts None (cell, is, allowed) h = absurd (h (cell, is))
allowed_said decisions world apart texts (Some said) (cell, is, allowed) (other, there, of, applies) =
    let same = same_cell world apart other cell texts there is in
    ap allows (decisions world cell said.verdict.decision Allowed (subst (λ c. IsDecisionOf world c said.verdict.decision) same (decided world other said.verdict of)) allowed)

said_allowed : (world : WorldValue) (texts : CellTexts) (x : Option SaidValue) → Says world texts x → is_said_allowed x ≡ true → Allows world texts
said_allowed world texts None h e = absurd (let wrong : ⊥ = cc in wrong)
said_allowed world texts (Some said) (cell, is, of, applies) e =
    (cell, is, subst (IsDecisionOf world cell) (allows_only said.verdict.decision e) (decided world cell said.verdict of))

-- what a row without a change says of access
kept_access : OneDecisionOf → (asked : AskedValue) (before after : WorldValue) → IsApart before → IsApart after → (texts : CellTexts) (rows : List (Option ChangeValue)) (entry : Option ChangeValue)
    → Selects asked.selection texts → IsRow asked before after texts entry → ((c : ChangeValue) → entry ≡ Some c → ¬ (c.texts ≡ texts)) → Allows before texts ↔ Allows after texts
kept_access decisions asked before after apart also texts rows None selects row out = elim row [
  | inl not ↦ absurd (not selects)
  | inr (said, says, one, two, none) ↦ (
    λ allowed.
        let on = allowed_said decisions before apart texts said allowed one in
        said_allowed after texts says two (must (is_said_allowed says) (λ off. none Lost (on, off))),
    λ allowed.
        let on = allowed_said decisions after also texts says allowed two in
        said_allowed before texts said one (must (is_said_allowed said) (λ off. none Gained (off, on))),
  )
]
kept_access decisions asked before after apart also texts rows (Some c) selects (chosen, same, is) out = absurd (out c refl same)

pub same_access : OneDecisionOf → OneTriple → Laws.SameAccess
same_access decisions triples asked before after changes texts apart also (requests, rows, are, zip, is) selects none =
    let at : (k : ℕ) → slice_get requests k ≡ Some texts → Allows before texts ↔ Allows after texts = λ k stand.
    let (entry, row, up) = zip_to (IsRow asked before after) requests rows k texts zip stand in
    kept_access decisions asked before after apart also texts rows entry selects row
    (λ c e same. let (i, there) = up c e in none c (at_in changes i c (subst (λ cs. slice_get cs i ≡ Some c) (sym is) there)) same) in (
      λ allowed.
          let (cell, there, decision) = allowed in
          let (k, stand) = has_before triples before after requests texts are (cell, there) in
          (at k stand).0 allowed,
      λ allowed.
          let (cell, there, decision) = allowed in
          let (k, stand) = has_after triples before after requests texts are (cell, there) in
          (at k stand).1 allowed,
    )
