-- The parts of all tiles have the rows of all requests, one behind the other.
use Rattle.std.proofs.Common.{◌≡◌, ◌≤◌, ◌<◌, ◌||◌, ℕ, zero, suc, ◌+◌, Bool, true, false, List, [], ◌∷◌, ◌++◌, Option, Some, None, length, map, sum, refl, sym, ap, subst, ◌∙◌, ⊎_elim, arith}
use Rattle.std.specs.Bool.{⊤}
use Rattle.std.specs.List.{AllZip, slice_get}
use Rattle.std.proofs.lemmas.List.{length-append, map-append}
use Rattle.std.proofs.lemmas.List.Concat.{flat_map-cons}
use Rattle.std.proofs.lemmas.List.Sums.{sum_by-cons}
use Rattle.iam_layers.specs.Laws.{OneTriple}
use Rattle.iam_world.specs.World.{WorldValue, world_cells}
use Rattle.iam_row.specs.Report.{CellTexts, IsCellTexts}
use Rattle.iam_row.specs.declared.changes.Change.{Change}
use Rattle.iam_row.specs.declared.changes.Change.TheVariants.{Gained, Lost, Differs}
use Rattle.iam_row.specs.declared.quoted.Format.{Format}
use Rattle.iam_matrix.specs.Matrix.{AreEntriesFrom}
use Rattle.iam_matrix.specs.Code.Tiles.{AreEntries, Chain}
use Rattle.iam_matrix.proofs.Tiles.{join_entries, no_entries}
use Rattle.iam_changes.specs.Code.Found.{RequestsValue}
use Rattle.iam_changes.specs.Lists.{somes}
use Rattle.iam_changes.specs.Requests.{AreRequests, Has, IsUnlessHad}
use Rattle.iam_changes.proofs.Ones.{one_texts}
use Rattle.iam_changes.specs.Change.{AreChanges, AskedValue, ChangeValue, IsRow}
use Rattle.iam_changes.specs.Code.Kept.{joined_kinds, kinds_in, no_kinds, with_kind}
use Rattle.iam_changes.specs.Code.Pieces.{PartValue, rows_in}
use Rattle.iam_compare.specs.Code.Walk.{IsLeftRow, IsPartOf, IsRowAt, kinds_with, numbered, reached, tail_row}
use Rattle.iam_changes.specs.declared.change.Kinds.{Kinds}
use Rattle.iam_changes.proofs.Cells.{inside, of_number}
use Rattle.iam_changes.proofs.Written.{joined_both, joined_none}
use Rattle.iam_compare.proofs.Walks.{kinds_join, numbered_join, somes_join}

-- ---- kinds

on_behind : (b : Bool) → true ≡ (b || true)
on_behind true = refl
on_behind false = refl

off_behind : (b : Bool) → b ≡ (b || false)
off_behind true = refl
off_behind false = refl

abbrev kinds_of : Bool → Bool → Bool → Kinds
kinds_of gained lost differs = record { gained = gained; lost = lost; differs = differs }

three : (a b c x y z : Bool) → a ≡ x → b ≡ y → c ≡ z → kinds_of a b c ≡ kinds_of x y z
three a b c x y z e f g = ap (λ p. kinds_of p b c) e ∙ ap (λ q. kinds_of x q c) f ∙ ap (kinds_of x y) g

kind_joined : (kinds : Kinds) (c : Change) → with_kind kinds c ≡ joined_kinds kinds (with_kind no_kinds c)
kind_joined kinds Gained = three _ _ _ _ _ _ (on_behind kinds.gained) (off_behind kinds.lost) (off_behind kinds.differs)
kind_joined kinds Lost = three _ _ _ _ _ _ (off_behind kinds.gained) (on_behind kinds.lost) (off_behind kinds.differs)
kind_joined kinds Differs = three _ _ _ _ _ _ (off_behind kinds.gained) (off_behind kinds.lost) (on_behind kinds.differs)

kinds_joined : (kinds : Kinds) (changes : List ChangeValue) → kinds_with kinds changes ≡ joined_kinds kinds (kinds_with no_kinds changes)
kinds_joined kinds [] = sym (joined_none kinds)
kinds_joined kinds (c ∷ changes) =
    kinds_joined (with_kind kinds c.change) changes ∙ ap (λ k. joined_kinds k (kinds_with no_kinds changes)) (kind_joined kinds c.change)
    ∙ joined_both kinds (with_kind no_kinds c.change) (kinds_with no_kinds changes)
    ∙ ap (joined_kinds kinds) (sym (kinds_joined (with_kind no_kinds c.change) changes))

-- ---- all parts

-- what all parts have
pub record HaveRows (asked : AskedValue) (requests : RequestsValue) (format : Format) (brief : Bool) (from to : ℕ) (parts : List PartValue) : Type 0 where
  pub entries : List (Option ChangeValue)
  pub count : from + length entries ≡ to
  pub are : AreEntries (IsRowAt asked requests) from (length entries) entries
  pub rows_are : rows_in parts ≡ map (tail_row format brief) (numbered from entries)
  pub kinds_are : kinds_in parts ≡ kinds_with no_kinds (somes entries)

pub all_parts : (asked : AskedValue) (requests : RequestsValue) (format : Format) (brief : Bool) (from : ℕ) (lengths : List ℕ) (parts : List PartValue)
    → Chain (λ at n part. IsPartOf asked requests format brief (reached requests at) (reached requests (at + n)) part) from lengths parts
    → HaveRows asked requests format brief (reached requests from) (reached requests (from + sum lengths)) parts
all_parts asked requests format brief from [] [] chain =
    let same : from ≡ from + 0 = omega arith in
    let none : reached requests from + 0 ≡ reached requests from = omega arith in record {
      entries = [];
      count = none ∙ ap (reached requests) same;
      are = no_entries (IsRowAt asked requests) (reached requests from);
      rows_are = refl;
      kinds_are = refl;
    }
all_parts asked requests format brief from [] (part ∷ parts) chain = absurd chain
all_parts asked requests format brief from (n ∷ lengths) [] chain = absurd chain
all_parts asked requests format brief from (n ∷ lengths) (part ∷ parts) (first, chain) =
    let rest = all_parts asked requests format brief (from + n) lengths parts chain in
    let Is = IsRowAt asked requests in
    let start = reached requests from in
    let xs = first.entries in
    let ys = rest.entries in
    let sums : from + n + sum lengths ≡ from + sum (n ∷ lengths) = omega (arith, sum_by-cons (λ (k : ℕ). k) n lengths) in
    let here : reached requests (from + n) ≡ start + length xs = sym first.count in
    let one : AreEntries Is start (length xs) xs = record { count_is = refl; each = first.each } in
    let two : AreEntries Is (start + length xs) (length ys) ys = subst (λ k. AreEntries Is k (length ys) ys) here rest.are in
    let both = join_entries Is start (length xs) (length ys) xs ys one two in
    let total : length xs + length ys ≡ length (xs ++ ys) = sym (length-append xs ys) in record {
      entries = xs ++ ys;
      count =
          let more : start + length (xs ++ ys) ≡ start + length xs + length ys = omega (arith, total) in
          more ∙ ap (λ k. k + length ys) first.count ∙ rest.count ∙ ap (reached requests) sums;
      are = subst (λ k. AreEntries Is start k (xs ++ ys)) total both;
      rows_are =
          flat_map-cons (λ (p : PartValue). p.rows) part parts ∙ ap (λ rows. rows ++ rows_in parts) first.rows_are
          ∙ ap (λ rows. map (tail_row format brief) (numbered start xs) ++ rows) (rest.rows_are ∙ ap (λ k. map (tail_row format brief) (numbered k ys)) here)
          ∙ sym (map-append (tail_row format brief) (numbered start xs) (numbered (start + length xs) ys))
          ∙ ap (map (tail_row format brief)) (sym (numbered_join start xs ys));
      kinds_are =
          ap (λ k. joined_kinds k (kinds_in parts)) first.kinds_are ∙ ap (joined_kinds (kinds_with no_kinds (somes xs))) rest.kinds_are
          ∙ sym (kinds_joined (kinds_with no_kinds (somes xs)) (somes ys)) ∙ sym (kinds_join no_kinds (somes xs) (somes ys))
          ∙ ap (kinds_with no_kinds) (sym (somes_join xs ys));
    }

-- ---- the rows of all cells are those of all requests

-- so many first entries, and the others
cut : {X : Type 0} (n : ℕ) (xs : List X) → n ≤ length xs → (front : List X) × (back : List X) × (xs ≡ front ++ back) × (length front ≡ n)
cut zero xs few = ([], xs, refl, refl)
cut (suc n) [] few = absurd (omega (arith, few))
cut (suc n) (x ∷ xs) few =
    let (front, back, is, count) = cut n xs (omega (arith, few)) in (x ∷ front, back, ap (λ l. x ∷ l) is, omega (arith, count))

get_front : {X : Type 0} (xs ys : List X) (i : ℕ) (x : X) → slice_get xs i ≡ Some x → slice_get (xs ++ ys) i ≡ Some x
get_front [] ys i x at = absurd (let wrong : ⊥ = cc in wrong)
get_front (y ∷ xs) ys zero x at = at
get_front (y ∷ xs) ys (suc i) x at = get_front xs ys i x at

get_back : {X : Type 0} (xs ys : List X) (i : ℕ) → slice_get (xs ++ ys) (length xs + i) ≡ slice_get ys i
get_back [] ys i = let same : 0 + i ≡ i = omega arith in ap (slice_get ys) same
get_back (y ∷ xs) ys i =
    let same : length (y ∷ xs) + i ≡ suc (length xs + i) = omega arith in ap (slice_get (y ∷ (xs ++ ys))) same ∙ get_back xs ys i

zip_by : {A B : Type 0} (R : A → B → Type 0) (xs : List A) (ys : List B) → length xs ≡ length ys
    → ((i : ℕ) (x : A) (y : B) → slice_get xs i ≡ Some x → slice_get ys i ≡ Some y → R x y) → AllZip R xs ys
zip_by R [] [] e each = tt
zip_by R [] (y ∷ ys) e each = absurd (omega (arith, e))
zip_by R (x ∷ xs) [] e each = absurd (omega (arith, e))
zip_by R (x ∷ xs) (y ∷ ys) e each = (each 0 x y refl refl, zip_by R xs ys (omega (arith, e)) (λ i. each (suc i)))

zip_both : {A B : Type 0} (R : A → B → Type 0) (xs zs : List A) (ys ws : List B) → AllZip R xs ys → AllZip R zs ws → AllZip R (xs ++ zs) (ys ++ ws)
zip_both R [] zs [] ws h k = k
zip_both R [] zs (y ∷ ys) ws h k = absurd h
zip_both R (x ∷ xs) zs [] ws h k = absurd h
zip_both R (x ∷ xs) zs (y ∷ ys) ws h k = (h.0, zip_both R xs zs ys ws h.1 k)

-- a request that BEFORE alone has and its row, or neither
abbrev Left : AskedValue → WorldValue → WorldValue → Option CellTexts → Option ChangeValue → Type 0
Left asked before after None None = ⊤
Left asked before after None (Some change) = ⊥
Left asked before after (Some request) entry = IsRow asked before after request entry

left_of : (asked : AskedValue) (before after : WorldValue) (t texts : CellTexts) (last : Option CellTexts) (entry : Option ChangeValue) → t ≡ texts → IsUnlessHad after t last
    → IsLeftRow asked before after texts entry → Left asked before after last entry
left_of asked before after t texts None None e had row = tt
left_of asked before after t texts None (Some c) e had (absent, row) = absent (subst (Has after) e had)
left_of asked before after t texts (Some request) None e (same, absent) row =
    ⊎_elim (λ had. absurd (absent (subst (Has after) (sym e) had))) (λ is. subst (λ x. IsRow asked before after x None) (sym (same ∙ e)) is) row
left_of asked before after t texts (Some request) (Some c) e (same, absent) (missing, row) = subst (λ x. IsRow asked before after x (Some c)) (sym (same ∙ e)) row

lefts : (asked : AskedValue) (before after : WorldValue) (lasts : List (Option CellTexts)) (back : List (Option ChangeValue)) → AllZip (Left asked before after) lasts back
    → (rows : List (Option ChangeValue)) × AllZip (IsRow asked before after) (somes lasts) rows × (somes rows ≡ somes back)
lefts asked before after [] [] h = ([], tt, refl)
lefts asked before after [] (entry ∷ back) h = absurd h
lefts asked before after (last ∷ lasts) [] h = absurd h
lefts asked before after (None ∷ lasts) (None ∷ back) h = lefts asked before after lasts back h.1
lefts asked before after (None ∷ lasts) (Some c ∷ back) h = absurd h.0
lefts asked before after (Some request ∷ lasts) (None ∷ back) h =
    let (rows, zip, same) = lefts asked before after lasts back h.1 in (None ∷ rows, (h.0, zip), same)
lefts asked before after (Some request ∷ lasts) (Some c ∷ back) h =
    let (rows, zip, same) = lefts asked before after lasts back h.1 in (Some c ∷ rows, (h.0, zip), ap (λ l. c ∷ l) same)

-- rows that are put in the place of others of which the same are there
same_somes : {X : Type 0} (all front back rows : List (Option X)) → all ≡ front ++ back → somes rows ≡ somes back → somes all ≡ somes (front ++ rows)
same_somes all front back rows whole same =
    ap somes whole ∙ somes_join front back ∙ ap (λ l. somes front ++ l) (sym same) ∙ sym (somes_join front rows)

pub changes_of : OneTriple → (asked : AskedValue) (requests : RequestsValue) (entries : List (Option ChangeValue)) (list : List CellTexts)
    → length entries ≡ world_cells requests.after + world_cells requests.before → AreEntriesFrom (IsRowAt asked requests) 0 entries
    → AreRequests requests.before requests.after list → AreChanges asked requests.before requests.after (somes entries)
changes_of triples asked requests entries list count each (firsts, lasts, of_firsts, of_lasts, is) =
    let before = requests.before in
    let after = requests.after in
    let most : world_cells after ≤ length entries = omega (arith, count) in
    let (front, back, whole, few) = cut (world_cells after) entries most in
    let totals : length front + length back ≡ length entries = sym (length-append front back) ∙ ap (λ (l : List (Option ChangeValue)). length l) (sym whole) in
    let rest : length back ≡ world_cells before = omega (arith, totals, count, few) in
    let R = IsRow asked before after in
    let first_rows : AllZip R firsts front = zip_by R firsts front (of_firsts.count ∙ sym few)
    (λ i x y at there.
    let (t, has, same) = of_number (λ u request. request ≡ u) after firsts i x of_firsts at in
    let number : 0 + i ≡ i = omega arith in
    let below : i < world_cells after = inside after i t has in
    let here = subst (λ l. slice_get l i ≡ Some y) (sym whole) (get_front front back i y there) in
    let (texts, row) = subst (λ k. IsRowAt asked requests k y) number (each i y here) in
    ⊎_elim (λ one. subst (λ u. IsRow asked before after u y) (sym (same ∙ one_texts triples after i t texts has one.0)) one.1)
    (λ two. let past = two.1 in absurd (omega (arith, below, past))) row) in
    let last_rows : AllZip (Left asked before after) lasts back = zip_by (Left asked before after) lasts back (of_lasts.count ∙ sym rest)
    (λ i last entry at there.
    let (t, has, fits) = of_number (IsUnlessHad after) before lasts i last of_lasts at in
    let number : 0 + (length front + i) ≡ world_cells after + i = omega (arith, few) in
    let here = subst (λ l. slice_get l (length front + i) ≡ Some entry) (sym whole) (get_back front back i ∙ there) in
    let (texts, row) = subst (λ k. IsRowAt asked requests k entry) number (each (length front + i) entry here) in
    ⊎_elim (λ one. let below = inside after (world_cells after + i) texts one.0 in absurd (omega (arith, below)))
    (λ (own, same, own_has, left).
    let own_is : own ≡ i = omega (arith, same) in
    left_of asked before after t texts last entry (one_texts triples before i t texts has (subst (λ k. IsCellTexts before k texts) own_is own_has)) fits left) row) in
    let (rows, zip, alike) = lefts asked before after lasts back last_rows in (
      list,
      front ++ rows,
      (firsts, lasts, of_firsts, of_lasts, is),
      subst (λ l. AllZip R l (front ++ rows)) (sym is) (zip_both R firsts (somes lasts) front rows first_rows zip),
      same_somes entries front back rows whole alike,
    )
