-- The rows of principals as they are kept, and as the report has them.
use Rattle.std.proofs.Common.{◌≡◌, ◌<◌, ◌≤◌, ◌+◌, ◌++◌, ◌∷◌, [], ◌∙◌, ◌||◌, zero, suc, ℕ, All, Bool, List, Option, Some, ap, arith, get_or, is_none, length, length-append, map, refl, subst, sym, take}
use Rattle.std.proofs.lemmas.Grind.{flat_map-append}
use Rattle.std.proofs.lemmas.List.{append-nil, get_or-map, length-map, length-take-le, map-append, take_more}
use Rattle.std.proofs.lemmas.List.Elements.{All-cons, All-get_or, All-head, All-nil, All-tail}
use Rattle.std.specs.List.{AllZip, list_any, slice_get}
use Rattle.iam_row.specs.Changes.{ChangeRow}
use Rattle.iam_row.specs.declared.changes.Change.{Change}
use Rattle.iam_every.proofs.WalkLemmas.{taken_more}
use Rattle.iam_every_changes.specs.Changes.{ChangedValue, changed_of}
use Rattle.iam_every_changes.specs.Code.Told.{IsLookedAt, has_kept, kept_in, listed_at, lists_of}
use Rattle.iam_every_changes.specs.Compared.{AreComparable, ComparedValue, WhoValue, both_at, who_of}
use Rattle.iam_every_changes.specs.Report.{AreListed, ListedValue, change_in, has_row, is_gained, is_lost, row_at, rows_in, told_of}
use Rattle.iam_every_changes.specs.States.{AreBoth}
use Rattle.iam_every_changes.specs.declared.compared.Who.{Who}
use Rattle.iam_every_changes.specs.declared.looked.Looked.{Looked}
use Rattle.iam_every_changes.specs.declared.report.ChangesTold.{ChangesTold}

-- what holds at each place
pub zipped : (P : WhoValue → Looked → Type 0) (whos : List Who) (all : List Looked) → length all ≡ length whos
    → ((i : ℕ) (looked : Looked) (who : Who) → slice_get all i ≡ Some looked → slice_get whos i ≡ Some who → P (who_of who) looked)
    → AllZip P (map who_of whos) all
zipped P [] [] e each = tt
zipped P [] (x ∷ all) e each = absurd (omega (arith, e))
zipped P (w ∷ whos) [] e each = absurd (omega (arith, e))
zipped P (w ∷ whos) (x ∷ all) e each = (each 0 x w refl refl, zipped P whos all (omega (arith, e)) (λ i y v at there. each (suc i) y v at there))

pub zipped_long : (P : WhoValue → Looked → Type 0) (whos : List WhoValue) (all : List Looked) → AllZip P whos all → length all ≡ length whos
zipped_long P [] [] are = refl
zipped_long P [] (x ∷ all) are = absurd are
zipped_long P (w ∷ whos) [] are = absurd are
zipped_long P (w ∷ whos) (x ∷ all) are = ap suc (zipped_long P whos all are.1)

-- ---- which principals can be compared
pub comparable_at : (compared : ComparedValue) (whos : List Who) (i : ℕ) (d : Who) → i < length whos → AreComparable compared (map who_of whos)
    → AreBoth (both_at compared (who_of (get_or whos i d)))
comparable_at compared whos i d inside all =
    let P : WhoValue → Type 0 = λ who. AreBoth (both_at compared who) in
    let below : i < length (map who_of whos) = let long = length-map whos who_of in omega (arith, inside, long) in
    subst P (get_or-map who_of whos i d (who_of d) inside) (All-get_or P (map who_of whos) i (who_of d) below all)

all_behind : {X : Type 0} (P : X → Type 0) (xs ys : List X) → All P (xs ++ ys) → All P ys
all_behind P [] ys h = h
all_behind P (x ∷ xs) ys h = all_behind P xs ys (All-tail P x (xs ++ ys) h)

all_before : {X : Type 0} (P : X → Type 0) (xs ys : List X) → All P (xs ++ ys) → All P xs
all_before P [] ys h = All-nil P
all_before P (x ∷ xs) ys h = All-cons P x xs (All-head P x (xs ++ ys) h) (all_before P xs ys (All-tail P x (xs ++ ys) h))

-- some of those that can
pub comparable_part : (compared : ComparedValue) (done part rest whos : List Who) → done ++ (part ++ rest) ≡ whos
    → AreComparable compared (map who_of whos) → AreComparable compared (map who_of part)
comparable_part compared done part rest whos is all =
    let P : WhoValue → Type 0 = λ who. AreBoth (both_at compared who) in
    let parts : map who_of whos ≡ map who_of done ++ (map who_of part ++ map who_of rest) =
    ap (map who_of) (sym is) ∙ map-append who_of done (part ++ rest) ∙ ap (λ t. map who_of done ++ t) (map-append who_of part rest) in
    all_before P (map who_of part) (map who_of rest)
    (all_behind P (map who_of done) (map who_of part ++ map who_of rest) (subst (All P) parts all))

-- ---- what is kept of each is listed
pub listed : (compared : ComparedValue) (whos : List WhoValue) (all : List Looked) → AllZip (IsLookedAt compared) whos all
    → AllZip (AreListed compared) whos (lists_of whos all)
listed compared [] [] are = tt
listed compared [] (x ∷ all) are = absurd are
listed compared (w ∷ whos) [] are = absurd are
listed compared (w ∷ whos) (x ∷ all) are = ((map changed_of x.rows.items, are.0, refl), listed compared whos all are.1)

-- how many rows there are
pub counted : (whos : List WhoValue) (all : List Looked) → length all ≡ length whos → length (rows_in (lists_of whos all)) ≡ length (kept_in all)
counted [] [] e = refl
counted [] (x ∷ all) e = absurd (omega (arith, e))
counted (w ∷ whos) [] e = absurd (omega (arith, e))
counted (w ∷ whos) (x ∷ all) e =
    let rows = map changed_of x.rows.items in
    let rest = counted whos all (omega (arith, e)) in
    omega (
      arith,
      rest,
      length-append (map (row_at w.text) rows) (rows_in (lists_of whos all)),
      length-append x.rows.items (kept_in all),
      length-map rows (row_at w.text),
      length-map x.rows.items changed_of,
    )

-- the rows of one of them are among all
pub kept_within : (all : List Looked) (i : ℕ) (looked : Looked) → i < length all → looked ≡ get_or all i looked
    → length (kept_in (take i all)) + length looked.rows.items ≤ length (kept_in all)
kept_within [] i looked inside is = absurd (omega (arith, inside))
kept_within (x ∷ all) zero looked inside is =
    let same = ap (λ (l : Looked). length l.rows.items) is in
    omega (arith, same, length-append x.rows.items (kept_in all))
kept_within (x ∷ all) (suc i) looked inside is =
    let rest = kept_within all i looked (omega (arith, inside)) is in
    omega (arith, rest, length-append x.rows.items (kept_in (take i all)), length-append x.rows.items (kept_in all))

-- whether one of the rows is so
any_map : {X Y : Type 0} (p : Y → Bool) (h : X → Y) (xs : List X) → list_any p (map h xs) ≡ list_any (λ x. p (h x)) xs
any_map p h [] = refl
any_map p h (x ∷ xs) = ap (λ rest. p (h x) || rest) (any_map p h xs)

has_one : (is : Option Change → Bool) (who : WhoValue) (looked : Looked) → has_row is (listed_at who looked) ≡ has_kept is looked
has_one is who looked =
    any_map (λ (row : ChangeRow). is row.change) (row_at who.text) (map changed_of looked.rows.items)
    ∙ any_map (λ (row : ChangedValue). is (change_in row.verdicts)) changed_of looked.rows.items

pub has_any : (is : Option Change → Bool) (whos : List WhoValue) (all : List Looked) → length all ≡ length whos
    → list_any (has_row is) (lists_of whos all) ≡ list_any (has_kept is) all
has_any is [] [] e = refl
has_any is [] (x ∷ all) e = absurd (omega (arith, e))
has_any is (w ∷ whos) [] e = absurd (omega (arith, e))
has_any is (w ∷ whos) (x ∷ all) e =
    ap (λ b. b || list_any (has_row is) (lists_of whos all)) (has_one is w x) ∙ ap (λ b. has_kept is x || b) (has_any is whos all (omega (arith, e)))

pub some_any : (whos : List WhoValue) (all : List Looked) → length all ≡ length whos
    → list_any (λ (x : ListedValue). x.some) (lists_of whos all) ≡ list_any (λ (x : Looked). x.some) all
some_any [] [] e = refl
some_any [] (x ∷ all) e = absurd (omega (arith, e))
some_any (w ∷ whos) [] e = absurd (omega (arith, e))
some_any (w ∷ whos) (x ∷ all) e = ap (λ b. x.some || b) (some_any whos all (omega (arith, e)))

-- ---- one principal more
lists_both : (whos us : List WhoValue) (all vs : List Looked) → length all ≡ length whos → lists_of (whos ++ us) (all ++ vs) ≡ lists_of whos all ++ lists_of us vs
lists_both [] us [] vs e = refl
lists_both [] us (x ∷ all) vs e = absurd (omega (arith, e))
lists_both (w ∷ whos) us [] vs e = absurd (omega (arith, e))
lists_both (w ∷ whos) us (x ∷ all) vs e = ap (λ l. listed_at w x ∷ l) (lists_both whos us all vs (omega (arith, e)))

pub rows_more : (whos : List Who) (all : List Looked) (i : ℕ) (d : Who) (looked : Looked) → length all ≡ length whos → i < length whos
    → looked ≡ get_or all i looked
    → rows_in (lists_of (map who_of (take i whos)) (take i all)) ++ map (row_at (get_or whos i d).text.now) (map changed_of looked.rows.items)
    ≡ rows_in (lists_of (map who_of (take (i + 1) whos)) (take (i + 1) all))
rows_more whos all i d looked e inside at =
    let who = get_or whos i d in
    let before = rows_in (lists_of (map who_of (take i whos)) (take i all)) in
    let below : i < length all = omega (arith, e, inside) in
    let those : map who_of (take (i + 1) whos) ≡ map who_of (take i whos) ++ (who_of who ∷ []) =
    ap (map who_of) (take_more whos i d inside) ∙ map-append who_of (take i whos) (who ∷ []) in
    let kept : take (i + 1) all ≡ take i all ++ (looked ∷ []) = taken_more all i looked below at in
    let long : length (take i all) ≡ length (map who_of (take i whos)) =
    length-take-le i all (omega (arith, below)) ∙ sym (length-map (take i whos) who_of ∙ length-take-le i whos (omega (arith, inside))) in
    let last = map (row_at who.text.now) (map changed_of looked.rows.items) in
    let joined : rows_in (lists_of (map who_of (take i whos) ++ (who_of who ∷ [])) (take i all ++ (looked ∷ []))) ≡ before ++ last =
    ap rows_in (lists_both (map who_of (take i whos)) (who_of who ∷ []) (take i all) (looked ∷ []) long)
    ∙ flat_map-append (λ (x : ListedValue). x.rows) (lists_of (map who_of (take i whos)) (take i all)) (listed_at (who_of who) looked ∷ [])
    ∙ ap (λ t. before ++ t) (append-nil last) in
    sym joined
    ∙ ap (λ l. rows_in (lists_of l (take i all ++ (looked ∷ [])))) (sym those)
    ∙ ap (λ l. rows_in (lists_of (map who_of (take (i + 1) whos)) l)) (sym kept)

-- ---- what is told beside the report
abbrev told_with : Bool → Bool → Bool → Bool → ChangesTold
told_with some gained lost unshown = record { some = some; gained = gained; lost = lost; unshown = unshown }

pub told_is : (whos : List WhoValue) (all : List Looked) (told : ChangesTold) → length all ≡ length whos
    → told.some ≡ list_any (λ looked. looked.some) all → told.gained ≡ list_any (has_kept is_gained) all
    → told.lost ≡ list_any (has_kept is_lost) all → told.unshown ≡ list_any (has_kept is_none) all → told ≡ told_of (lists_of whos all)
told_is whos all told e some gained lost unshown =
    let of = told_of (lists_of whos all) in
    ap (λ b. told_with b told.gained told.lost told.unshown) (some ∙ sym (some_any whos all e))
    ∙ ap (λ b. told_with of.some b told.lost told.unshown) (gained ∙ sym (has_any is_gained whos all e))
    ∙ ap (λ b. told_with of.some of.gained b told.unshown) (lost ∙ sym (has_any is_lost whos all e))
    ∙ ap (told_with of.some of.gained of.lost) (unshown ∙ sym (has_any is_none whos all e))
