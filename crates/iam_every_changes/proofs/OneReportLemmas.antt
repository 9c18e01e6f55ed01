-- There is one report.
use Rattle.std.proofs.Common.{◌≡◌, ◌∷◌, [], ◌∙◌, Bool, List, ap, arith, length, map, refl, sym}
use Rattle.std.proofs.lemmas.List.Elements.{All-head, All-tail}
use Rattle.std.specs.List.{AllZip}
use Rattle.iam_row.specs.Changes.{ChangeRow, changes_text}
use Rattle.iam_every_changes.specs.Compared.{AreComparable, ComparedValue, WhoValue, both_at}
use Rattle.iam_every_changes.specs.Made.{OneListOfChanges}
use Rattle.iam_every_changes.specs.Report.{AreListed, ListedValue, NoReportTooLong, OneEveryChangesReport, row_at, rows_in, told_of}
use Rattle.iam_every_changes.specs.States.{AreBoth}

abbrev listed_with : List ChangeRow → Bool → ListedValue
listed_with rows some = record { rows = rows; some = some }

one_listed : OneListOfChanges → (compared : ComparedValue) (who : WhoValue) (one other : ListedValue) → AreBoth (both_at compared who)
    → AreListed compared who one → AreListed compared who other → one ≡ other
one_listed g compared who one other is (rows, are, named) (others, were, too) =
    let same = g (both_at compared who) rows others one.some other.some is are were in
    let shown : one.rows ≡ other.rows = named ∙ ap (map (row_at who.text)) same.0 ∙ sym too in
    let part : one ≡ listed_with other.rows one.some = ap (λ l. listed_with l one.some) shown in
    part ∙ ap (listed_with other.rows) same.1

one_lists : OneListOfChanges → (compared : ComparedValue) (whos : List WhoValue) (one other : List ListedValue) → AreComparable compared whos
    → AllZip (AreListed compared) whos one → AllZip (AreListed compared) whos other → one ≡ other
one_lists g compared [] [] [] are h k = refl
one_lists g compared [] [] (y ∷ other) are h k = absurd k
one_lists g compared [] (x ∷ one) other are h k = absurd h
one_lists g compared (w ∷ whos) [] other are h k = absurd h
one_lists g compared (w ∷ whos) (x ∷ one) [] are h k = absurd k
one_lists g compared (w ∷ whos) (x ∷ one) (y ∷ other) are h k =
    let P : WhoValue → Type 0 = λ who. AreBoth (both_at compared who) in
    ap (λ z. z ∷ one) (one_listed g compared w x y (All-head P w whos are) h.0 k.0)
    ∙ ap (λ l. y ∷ l) (one_lists g compared whos one other (All-tail P w whos are) h.1 k.1)

pub one_every_changes_report : OneListOfChanges → OneEveryChangesReport
one_every_changes_report g format brief compared whos one other told others are h k =
    let same = one_lists g compared whos h.lists k.lists are h.are k.are in
    (h.is ∙ ap (λ l. changes_text format brief (rows_in l)) same ∙ sym k.is, h.tells ∙ ap told_of same ∙ sym k.tells)

pub no_report_too_long : OneListOfChanges → NoReportTooLong
no_report_too_long g format brief compared whos text told are h (lists, listed, long) =
    let same = ap (λ (l : List ListedValue). length (rows_in l)) (one_lists g compared whos h.lists lists are h.are listed) in
    let few = h.few in
    omega (arith, same, few, long)
