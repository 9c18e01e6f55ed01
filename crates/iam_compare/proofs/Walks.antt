-- Rows of changes, as a walk over cells gathers them.
use Rattle.std.proofs.Common.{◌≡◌, ◌↔◌, IsTrue, ℕ, zero, suc, ◌+◌, ◌-◌, ◌*◌, ◌<◌, ◌≤◌, Bool, true, false, List, [], ◌∷◌, ◌++◌, Option, Some, None, length, map, MatchOption, refl, sym, ap, subst, ◌∙◌, inl, inr, append-nil, append_assoc, arith}
use Rattle.std.specs.Option.{is_some, option_to_list}
use Rattle.std.proofs.lemmas.Grind.{flat_map-append}
use Rattle.std.proofs.lemmas.List.{length-append, length-map, map-append}
use Rattle.std.proofs.lemmas.Option.{slice_get_within}
use Rattle.iam_decision.specs.Applicable.{ApplicableValue}
use Rattle.iam_matrix.specs.Engine.{EngineValue, IsNumberAt}
use Rattle.iam_layers.specs.Applicable.{applicable_of}
use Rattle.iam_layers.specs.Cell.{IsApplicableAt, IsCell, IsVerdictAt}
use Rattle.iam_world.specs.World.{WorldValue, world_cells}
use Rattle.iam_row.specs.Report.{CellTexts, HasTexts, IsCellTexts}
use Rattle.iam_selection.specs.Selection.{IsSelected, Selects}
use Rattle.iam_matrix.specs.Matrix.{AreEntriesFrom}
use Rattle.iam_changes.specs.Code.Found.{RequestsValue}
use Rattle.iam_changes.specs.Lists.{somes}
use Rattle.iam_changes.specs.Requests.{Has}
use Rattle.iam_changes.proofs.Counts.{cell_texts}
use Rattle.iam_changes.proofs.Places.{has_found}
use Rattle.iam_changes.specs.Change.{AreUnlike, AskedValue, ChangeValue, Changes, Differ, IsRow, SaidValue, Says, is_said_allowed, verdict_of}
use Rattle.iam_row.specs.declared.changes.Change.{Change}
use Rattle.iam_row.specs.declared.changes.Change.TheVariants.{Gained, Lost, Differs}
use Rattle.iam_row.specs.declared.quoted.Format.{Format}
use Rattle.iam_row.proofs.Rows.{texts_there}
use Rattle.iam_row.specs.declared.tail.Tail.{Tail}
use Rattle.iam_changes.specs.Code.Kept.{GatheredValue, change_by, no_kinds, part_row, with_kind}
use Rattle.iam_changes.specs.Code.Pieces.{PartValue}
use Rattle.iam_compare.specs.Code.Walk.{AddsRow, AddsSaid, Gathers, IsLeftRow, IsPartOf, IsRowAt, kept_row, kinds_with, numbered, tail_row, with_row}
use Rattle.iam_changes.specs.declared.change.Kinds.{Kinds}
use Rattle.iam_changes.specs.declared.pair.Pair.{Pair}

-- ---- entries behind others

entries_join : {X : Type 0} (Is : ℕ → X → Type 0) (from : ℕ) (xs ys : List X) → AreEntriesFrom Is from xs → AreEntriesFrom Is (from + length xs) ys → AreEntriesFrom Is from (xs ++ ys)
entries_join {X} Is from [] ys h k i e at =
    let same : from + 0 + i ≡ from + i = omega arith in
    subst (λ n. Is n e) same (k i e at)
entries_join {X} Is from (x ∷ xs) ys h k zero e at = h 0 e at
entries_join {X} Is from (x ∷ xs) ys h k (suc i) e at =
    let first : AreEntriesFrom Is (from + 1) xs = λ j y there. (let same : from + suc j ≡ from + 1 + j = omega arith in subst (λ n. Is n y) same (h (suc j) y there)) in
    let last : AreEntriesFrom Is (from + 1 + length xs) ys = λ j y there.
    (let same : from + length (x ∷ xs) + j ≡ from + 1 + length xs + j = omega arith in subst (λ n. Is n y) same (k j y there)) in
    let same : from + 1 + i ≡ from + suc i = omega arith in
    subst (λ n. Is n e) same (entries_join Is (from + 1) xs ys first last i e at)

one_entry : {X : Type 0} (Is : ℕ → X → Type 0) (from : ℕ) (x : X) → Is from x → AreEntriesFrom Is from (x ∷ [])
one_entry {X} Is from x is zero e at =
    let one : x ≡ e = cc in
    let same : from ≡ from + 0 = omega arith in
    subst (λ n. Is n e) same (subst (Is from) one is)
one_entry {X} Is from x is (suc i) e at = absurd (let wrong : ⊥ = cc in wrong)

pub numbered_join : (from : ℕ) (xs ys : List (Option ChangeValue)) → numbered from (xs ++ ys) ≡ numbered from xs ++ numbered (from + length xs) ys
numbered_join from [] ys = ap (λ n. numbered n ys) (let same : from ≡ from + 0 = omega arith in same)
numbered_join from (None ∷ xs) ys =
    numbered_join (from + 1) xs ys
    ∙ ap (λ n. numbered (from + 1) xs ++ numbered n ys) (let same : from + 1 + length xs ≡ from + suc (length xs) = omega arith in same)
numbered_join from (Some change ∷ xs) ys =
    ap (λ rows. (from, change) ∷ rows) (numbered_join (from + 1) xs ys
    ∙ ap (λ n. numbered (from + 1) xs ++ numbered n ys) (let same : from + 1 + length xs ≡ from + suc (length xs) = omega arith in same))

few_numbered : (from : ℕ) (xs : List (Option ChangeValue)) → length (numbered from xs) ≤ length xs
few_numbered from [] = omega arith
few_numbered from (None ∷ xs) = let few = few_numbered (from + 1) xs in omega (arith, few)
few_numbered from (Some change ∷ xs) = let few = few_numbered (from + 1) xs in omega (arith, few)

pub kinds_join : (kinds : Kinds) (xs ys : List ChangeValue) → kinds_with kinds (xs ++ ys) ≡ kinds_with (kinds_with kinds xs) ys
kinds_join kinds [] ys = refl
kinds_join kinds (x ∷ xs) ys = kinds_join (with_kind kinds x.change) xs ys

pub somes_join : {X : Type 0} (xs ys : List (Option X)) → somes (xs ++ ys) ≡ somes xs ++ somes ys
somes_join {X} xs ys = flat_map-append option_to_list xs ys

-- ---- what is gathered

pub gathers_none : (asked : AskedValue) (requests : RequestsValue) (brief : Bool) (from : ℕ) (old : GatheredValue) → old.end ≤ from → Gathers asked requests brief from from old old
gathers_none asked requests brief from old end = record {
  entries = [];
  count = omega arith;
  each = λ i e at. absurd (let wrong : ⊥ = cc in wrong);
  rows_are = sym (append-nil old.rows);
  kinds_are = refl;
  end_is = end;
}

pub gathers_join : (asked : AskedValue) (requests : RequestsValue) (brief : Bool) (from here to : ℕ) (old mid new : GatheredValue)
    → Gathers asked requests brief from here old mid → Gathers asked requests brief here to mid new → Gathers asked requests brief from to old new
gathers_join asked requests brief from here to old mid new first last =
    let xs = first.entries in
    let ys = last.entries in
    let Is = IsRowAt asked requests in
    record {
      entries = xs ++ ys;
      count = let one = first.count in let two = last.count in omega (arith, length-append xs ys, one, two);
      each = entries_join Is from xs ys first.each (subst (λ n. AreEntriesFrom Is n ys) (sym first.count) last.each);
      rows_are =
          last.rows_are ∙ ap (λ (rows : List (ℕ × Pair)). rows ++ map (kept_row brief) (numbered here ys)) first.rows_are
          ∙ append_assoc old.rows (map (kept_row brief) (numbered from xs)) (map (kept_row brief) (numbered here ys))
          ∙ ap (λ (rows : List (ℕ × Pair)). old.rows ++ rows)
          (ap (λ n. map (kept_row brief) (numbered from xs) ++ map (kept_row brief) (numbered n ys)) (sym first.count)
          ∙ sym (map-append (kept_row brief) (numbered from xs) (numbered (from + length xs) ys)) ∙ ap (map (kept_row brief)) (sym (numbered_join from xs ys)));
      kinds_are =
          last.kinds_are ∙ ap (λ (kinds : Kinds). kinds_with kinds (somes ys)) first.kinds_are ∙ sym (kinds_join old.kinds (somes xs) (somes ys))
          ∙ ap (kinds_with old.kinds) (sym (somes_join xs ys));
      end_is = last.end_is;
    }

-- a cell without a row
pub gathers_nothing : (asked : AskedValue) (requests : RequestsValue) (brief : Bool) (cell : ℕ) (old : GatheredValue) → IsRowAt asked requests cell None → old.end ≤ cell
    → Gathers asked requests brief cell (cell + 1) old old
gathers_nothing asked requests brief cell old is end = record {
  entries = None ∷ [];
  count = omega arith;
  each = one_entry (IsRowAt asked requests) cell None is;
  rows_are = sym (append-nil old.rows);
  kinds_are = refl;
  end_is = omega (arith, end);
}

-- a cell with a row
gathers_row : (asked : AskedValue) (requests : RequestsValue) (brief : Bool) (cell : ℕ) (change : ChangeValue) (old new : GatheredValue) → IsRowAt asked requests cell (Some change)
    → new ≡ with_row brief cell (verdict_of change.before) (verdict_of change.after) change.change old → Gathers asked requests brief cell (cell + 1) old new
gathers_row asked requests brief cell change old new is e =
    subst (λ (g : GatheredValue). Gathers asked requests brief cell (cell + 1) old g) (sym e)
    (record {
      entries = Some change ∷ [];
      count = omega arith;
      each = one_entry (IsRowAt asked requests) cell (Some change) is;
      rows_are = refl;
      kinds_are = refl;
      end_is = omega arith;
    })

-- cells without rows
gathers_past : (asked : AskedValue) (requests : RequestsValue) (brief : Bool) (from n : ℕ) (old : GatheredValue) → old.end ≤ from
    → ((cell : ℕ) → from ≤ cell → cell < from + n → IsRowAt asked requests cell None) → Gathers asked requests brief from (from + n) old old
gathers_past asked requests brief from zero old end none =
    let same : from ≡ from + 0 = omega arith in
    subst (λ k. Gathers asked requests brief from k old old) same (gathers_none asked requests brief from old end)
gathers_past asked requests brief from (suc n) old end none =
    let first = gathers_past asked requests brief from n old end (λ cell above below. none cell above (omega (arith, below))) in
    let last = gathers_nothing asked requests brief (from + n) old (none (from + n) (omega arith) (omega arith)) (omega (arith, end)) in
    let same : from + n + 1 ≡ from + suc n = omega arith in
    subst (λ k. Gathers asked requests brief from k old old) same (gathers_join asked requests brief from (from + n) (from + n + 1) old old old first last)

pub gathers_up : (asked : AskedValue) (requests : RequestsValue) (brief : Bool) (from to : ℕ) (old : GatheredValue) → from ≤ to → old.end ≤ from
    → ((cell : ℕ) → from ≤ cell → cell < to → IsRowAt asked requests cell None) → Gathers asked requests brief from to old old
gathers_up asked requests brief from to old up end none =
    let same : from + (to - from) ≡ to = omega (arith, up) in
    subst (λ k. Gathers asked requests brief from k old old) same
    (gathers_past asked requests brief from (to - from) old end (λ cell above below. none cell above (omega (arith, below, up))))

-- no more rows than cells
pub few_rows : (asked : AskedValue) (requests : RequestsValue) (brief : Bool) (from to : ℕ) (old new : GatheredValue) → Gathers asked requests brief from to old new
    → length old.rows ≤ from → length new.rows ≤ to
few_rows asked requests brief from to old new gathers few =
    let entries = gathers.entries in
    let count = gathers.count in
    let rows = ap (λ (rs : List (ℕ × Pair)). length rs) gathers.rows_are ∙ length-append old.rows (map (kept_row brief) (numbered from entries)) in
    omega (arith, few, count, rows, length-map (numbered from entries) (kept_row brief), few_numbered from entries)

-- ---- the change of a request

-- so it is, where it is known whether what is said of it differs otherwise than in access
change_told : (all : Bool) (before after : Option SaidValue) (differs was is : Bool) → IsTrue differs ↔ ((all ≡ true) × Differ before after)
    → is_said_allowed before ≡ was → is_said_allowed after ≡ is
    → MatchOption (change_by was is differs) ((change : Change) → ¬ Changes all before after change) (Changes all before after)
change_told all before after differs false true tells off on = (off, on)
change_told all before after differs true false tells on off = (on, off)
change_told all before after true false false tells first last = ((tells.0 refl).0, first ∙ sym last, (tells.0 refl).1)
change_told all before after true true true tells first last = ((tells.0 refl).0, first ∙ sym last, (tells.0 refl).1)
change_told all before after false false false tells first last = none
  where
    none : (change : Change) → ¬ Changes all before after change
    none Gained (off, on) = let wrong : ⊥ = cc in wrong
    none Lost (on, off) = let wrong : ⊥ = cc in wrong
    none Differs (every, same, differ) = let told = tells.1 (every, differ) in let wrong : ⊥ = cc in wrong
change_told all before after false true true tells first last = none
  where
    none : (change : Change) → ¬ Changes all before after change
    none Gained (off, on) = let wrong : ⊥ = cc in wrong
    none Lost (on, off) = let wrong : ⊥ = cc in wrong
    none Differs (every, same, differ) = let told = tells.1 (every, differ) in let wrong : ⊥ = cc in wrong

pub adds_said : (all brief : Bool) (cell : ℕ) (before after : Option SaidValue) (differs : Bool) (old new : GatheredValue)
    → IsTrue differs ↔ ((all ≡ true) × Differ before after)
    → AddsRow brief cell (verdict_of before) (verdict_of after) (change_by (is_said_allowed before) (is_said_allowed after) differs) old new
    → AddsSaid all brief cell before after old new
adds_said all brief cell before after differs old new tells added =
    let was = is_said_allowed before in
    let is = is_said_allowed after in
    (change_by was is differs, change_told all before after differs was is tells refl refl, added)

-- what one world alone has does not differ otherwise
pub lone_before : (all : Bool) (said : SaidValue) → IsTrue false ↔ ((all ≡ true) × Differ (Some said) None)
lone_before all said = (λ on. let wrong : ⊥ = cc in absurd wrong, λ (every, (one, other, is, are, unlike)). let wrong : ⊥ = cc in absurd wrong)

pub lone_after : (all : Bool) (says : SaidValue) → IsTrue false ↔ ((all ≡ true) × Differ None (Some says))
lone_after all says = (λ on. let wrong : ⊥ = cc in absurd wrong, λ (every, (one, other, is, are, unlike)). let wrong : ⊥ = cc in absurd wrong)

-- two things that are said differ where they are unlike
pub both_differ : (all differs : Bool) (said says : SaidValue) → IsTrue differs ↔ ((all ≡ true) × AreUnlike said says)
    → IsTrue differs ↔ ((all ≡ true) × Differ (Some said) (Some says))
both_differ all differs said says tells = (
  λ on. let (every, unlike) = tells.0 on in (every, (said, says, refl, refl, unlike)),
  λ (every, (one, other, is, are, unlike)).
      let first : one ≡ said = cc in
      let last : other ≡ says = cc in
      tells.1 (every, subst (λ x. AreUnlike x says) first (subst (AreUnlike one) last unlike)),
)

-- ---- the row of a request

-- it is selected, and what is said of it was looked at
pub gathers_said : (asked : AskedValue) (requests : RequestsValue) (brief : Bool) (cell : ℕ) (texts : CellTexts) (said says : Option SaidValue) (old new : GatheredValue)
    → ((row : Option ChangeValue) → IsRow asked requests.before requests.after texts row → IsRowAt asked requests cell row) → Selects asked.selection texts
    → Says requests.before texts said → Says requests.after texts says → AddsSaid asked.all brief cell said says old new → old.end ≤ cell
    → Gathers asked requests brief cell (cell + 1) old new
gathers_said asked requests brief cell texts said says old new place selects before after (Some change, changes, e) end =
    gathers_row asked requests brief cell (record { texts = texts; change = change; before = said; after = says }) old new
    (place (Some (record { texts = texts; change = change; before = said; after = says })) (selects, refl, record { said = before; says = after; is = changes })) e
gathers_said asked requests brief cell texts said says old new place selects before after (None, none, e) end =
    subst (λ (g : GatheredValue). Gathers asked requests brief cell (cell + 1) old g) (sym e)
    (gathers_nothing asked requests brief cell old (place None (inr (said, says, before, after, none))) end)

-- the row of a cell of AFTER, and of one of BEFORE
pub place_after : (asked : AskedValue) (requests : RequestsValue) (cell : ℕ) (texts : CellTexts) → IsCellTexts requests.after cell texts → (row : Option ChangeValue)
    → IsRow asked requests.before requests.after texts row → IsRowAt asked requests cell row
place_after asked requests cell texts of row is = (texts, inl (of, is))

pub place_before : (asked : AskedValue) (requests : RequestsValue) (cell : ℕ) (texts : CellTexts) → IsCellTexts requests.before cell texts → ¬ Has requests.after texts
    → (row : Option ChangeValue) → IsRow asked requests.before requests.after texts row → IsRowAt asked requests (world_cells requests.after + cell) row
place_before asked requests cell texts of absent None is = (texts, inr (cell, refl, of, inr is))
place_before asked requests cell texts of absent (Some change) is = (texts, inr (cell, refl, of, (absent, is)))

-- a cell of BEFORE that has no row
left_nothing : (asked : AskedValue) (requests : RequestsValue) (cell : ℕ) (texts : CellTexts) → IsCellTexts requests.before cell texts
    → IsLeftRow asked requests.before requests.after texts None → IsRowAt asked requests (world_cells requests.after + cell) None
left_nothing asked requests cell texts of is = (texts, inr (cell, refl, of, is))

-- a cell of AFTER that is not selected
pub off_after : (asked : AskedValue) (requests : RequestsValue) (cell p a r : ℕ) → IsCell requests.after cell p a r → ¬ IsSelected asked.selection requests.after cell
    → IsRowAt asked requests cell None
off_after asked requests cell p a r is not =
    let (texts, of) = cell_texts requests.after cell p a r is in
    (texts, inl (of, inl (λ selects. not (texts, of, selects))))

-- a cell of BEFORE that is left out, whatever its texts
pub off_before : (asked : AskedValue) (requests : RequestsValue) (cell p a r : ℕ) → IsCell requests.before cell p a r
    → ((texts : CellTexts) → IsCellTexts requests.before cell texts → IsLeftRow asked requests.before requests.after texts None)
    → IsRowAt asked requests (world_cells requests.after + cell) None
off_before asked requests cell p a r is left =
    let (texts, of) = cell_texts requests.before cell p a r is in
    left_nothing asked requests cell texts of (left texts of)

-- cells of BEFORE without rows
pub gathers_behind : (asked : AskedValue) (requests : RequestsValue) (brief : Bool) (here next : ℕ) (old : GatheredValue) → here ≤ next
    → old.end ≤ world_cells requests.after + here
    → ((cell : ℕ) → here ≤ cell → cell < next → IsRowAt asked requests (world_cells requests.after + cell) None)
    → Gathers asked requests brief (world_cells requests.after + here) (world_cells requests.after + next) old old
gathers_behind asked requests brief here next old up end none =
    let first = world_cells requests.after in
    gathers_up asked requests brief (first + here) (first + next) old (omega (arith, up)) end
    (λ cell above below.
    let same : first + (cell - first) ≡ cell = omega (arith, above) in
    subst (λ k. IsRowAt asked requests k None) same (none (cell - first) (omega (arith, above)) (omega (arith, above, below))))

-- ---- what was found of a request

pub has_of_found : (world : WorldValue) (texts : CellTexts) (found : Option (ℕ × ℕ × ℕ)) → MatchOption found (¬ Has world texts) (λ f. HasTexts world f.0 f.1 f.2 texts) → is_some found ≡ true
    → Has world texts
has_of_found world texts None absent on = absurd (let wrong : ⊥ = cc in wrong)
has_of_found world texts (Some (p, a, r)) has on = has_found world p a r texts has

pub none_of_found : (world : WorldValue) (texts : CellTexts) (found : Option (ℕ × ℕ × ℕ)) → MatchOption found (¬ Has world texts) (λ f. HasTexts world f.0 f.1 f.2 texts) → is_some found ≡ false
    → ¬ Has world texts
none_of_found world texts None absent off = absent
none_of_found world texts (Some found) has off = absurd (let wrong : ⊥ = cc in wrong)

-- ---- a part

tails_of_kept : (format : Format) (brief : Bool) (rows : List (ℕ × ChangeValue)) → map (part_row format brief) (map (kept_row brief) rows) ≡ map (tail_row format brief) rows
tails_of_kept format brief [] = refl
tails_of_kept format brief (row ∷ rows) = ap (λ (others : List (ℕ × Tail)). tail_row format brief row ∷ others) (tails_of_kept format brief rows)

pub part_gathered : (asked : AskedValue) (requests : RequestsValue) (format : Format) (brief : Bool) (from to : ℕ) (old new : GatheredValue) (part : PartValue)
    → old ≡ record { rows = []; end = from; kinds = no_kinds } → Gathers asked requests brief from to old new
    → (part.rows ≡ map (part_row format brief) new.rows) × (part.kinds ≡ new.kinds) → IsPartOf asked requests format brief from to part
part_gathered asked requests format brief from to old new part none gathers (rows, kinds) =
    let all = map (kept_row brief) (numbered from gathers.entries) in
    record {
      entries = gathers.entries;
      count = gathers.count;
      each = gathers.each;
      rows_are =
          rows ∙ ap (map (part_row format brief)) (gathers.rows_are ∙ ap (λ (v : GatheredValue). v.rows ++ all) none) ∙ tails_of_kept format brief (numbered from gathers.entries);
      kinds_are = kinds ∙ gathers.kinds_are ∙ ap (λ (v : GatheredValue). kinds_with v.kinds (somes gathers.entries)) none;
    }

-- ---- what a world says of a request

-- the policies that apply where a principal asks for a resource
pub applied : (world : WorldValue) (p a r : ℕ) (texts : CellTexts) → HasTexts world p a r texts → (policies : ApplicableValue) × IsApplicableAt world p r policies
applied world p a r texts has =
    let (principal, p_at, p_is) = has.principal in
    let (resource, r_at, r_is) = has.resource in
    (applicable_of world principal resource, (principal, p_at, (resource, r_at, refl)))

pub applied_at : (world : WorldValue) (cell p a r : ℕ) → IsCell world cell p a r → (policies : ApplicableValue) × IsApplicableAt world p r policies
applied_at world cell p a r is =
    let (texts, has) = texts_there world cell p a r is in
    applied world p a r texts has

pub says_at : (world : WorldValue) (cell p a r : ℕ) (texts : CellTexts) (said : SaidValue) → IsCell world cell p a r → IsCellTexts world cell texts
    → IsVerdictAt world p a r said.verdict → IsApplicableAt world p r said.policies → Says world texts (Some said)
says_at world cell p a r texts said is of told applies = (cell, of, (p, a, r, is, told), (p, a, r, is, applies))

pub says_found : (world : WorldValue) (p a r : ℕ) (texts : CellTexts) (said : SaidValue) → HasTexts world p a r texts → IsVerdictAt world p a r said.verdict
    → IsApplicableAt world p r said.policies → Says world texts (Some said)
says_found world p a r texts said has told applies =
    let (principal, p_at, p_is) = has.principal in
    let (resource, r_at, r_is) = has.resource in
    let is : IsCell world ((p * length world.actions + a) * length world.resources + r) p a r = record {
      principal = slice_get_within world.principals p principal p_at;
      action = slice_get_within world.actions a texts.action has.action;
      resource = slice_get_within world.resources r resource r_at;
      number = refl;
    } in
    ((p * length world.actions + a) * length world.resources + r, (p, a, r, is, has), (p, a, r, is, told), (p, a, r, is, applies))

-- the numbers of what was found are those of a request
pub record AreWithin (world : WorldValue) (p a r : ℕ) : Type 0 where
  pub principal : p < length world.principals
  pub action : a < length world.actions
  pub resource : r < length world.resources

within_found : (world : WorldValue) (p a r : ℕ) (texts : CellTexts) → HasTexts world p a r texts → AreWithin world p a r
within_found world p a r texts has =
    let (principal, p_at, p_is) = has.principal in
    let (resource, r_at, r_is) = has.resource in
    record {
      principal = slice_get_within world.principals p principal p_at;
      action = slice_get_within world.actions a texts.action has.action;
      resource = slice_get_within world.resources r resource r_at;
    }

pub found_within : (after before world other same : WorldValue) (cell p a r q b s : ℕ) → world ≡ after → other ≡ before → same ≡ before → IsCell after cell p a r
    → ((texts : CellTexts) → IsCellTexts world cell texts → HasTexts other q b s texts) → AreWithin same q b s
found_within after before world other same cell p a r q b s e f g is found =
    let (texts, of) = cell_texts after cell p a r is in
    let has = found texts (subst (λ w. IsCellTexts w cell texts) (sym e) of) in
    within_found same q b s texts (subst (λ w. HasTexts w q b s texts) (f ∙ sym g) has)

-- and so are those of a cell, in each world that is the same
pub within_cell : (world other : WorldValue) (cell p a r : ℕ) → other ≡ world → IsCell world cell p a r → AreWithin other p a r
within_cell world other cell p a r e is =
    subst (λ w. AreWithin w p a r) (sym e) (record { principal = is.principal; action = is.action; resource = is.resource })

-- a number of a verdict is one of those that are kept
pub number_within : (engine : EngineValue) (p a r number : ℕ) → IsNumberAt engine p a r number → number < length engine.rulings
number_within engine p a r number (ruling, at, told) = slice_get_within engine.rulings number ruling at
