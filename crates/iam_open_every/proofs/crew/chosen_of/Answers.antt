use Rattle.std.proofs.Common.{rules, ◌≡◌, ◌∙◌, ◌<◌, [], Bool, IsTrue, List, MatchBool, ap, false, is_none, length, map, sym, true, arith}
use Rattle.std.proofs.lemmas.List.{length-map}
use Rattle.std.specs.List.{list_any}
use Rattle.iam_element.proofs.ElementLemmas.{list_any_map}
use Rattle.iam_every.specs.Every.{every_of}
use Rattle.iam_open_every.specs.Report.{has_unshown}
use Rattle.iam_open_every.specs.Row.{RowValue, row_of}
use Rattle.iam_open_every.specs.declared.rows.Row.{Row}
use Rattle.iam_open_every.proofs.ReportLemmas.{told_of, wanted_one}
use Rattle.iam_open_every.proofs.crew.chosen_of.Goals as goal

-- there are rows, or none
some_of : (told : Bool) (items rows : List Row) → items ≡ rows → MatchBool told (0 < length items) (items ≡ []) → MatchBool told (0 < length (map row_of rows)) (map row_of rows ≡ [])
some_of true items rows e h = omega (arith, h, ap (λ (l : List Row). length l) e, length-map rows row_of)
some_of false items rows e h = ap (map row_of) (sym e ∙ h)

-- what is told by a test
by_test : (told test : Bool) → told ≡ test → MatchBool told (IsTrue test) (test ≡ false)
by_test true test e = sym e
by_test false test e = sym e

pub returns-clause-chosen : goal.returns-clause-chosen
returns-clause-chosen c =
    let every = every_of c.args.asked in
    let brief = c.args.brief in
    let p = c.args.p in
    let items = c.in_ok-rows.rows.items in
    let rows = map row_of items in
    let are = c.in_ok-rows.ensures.rows in
    let unshown : c.has_unshown-unshown.result ≡ has_unshown rows =
    c.has_unshown-unshown.ensures ∙ ap (list_any (λ (row : Row). is_none row.said)) c.as_slice-2.ensures.value ∙ sym (list_any_map (λ (row : RowValue). is_none row.said) row_of items) in record {
      known = c.requires.principal;
      wanted = wanted_one brief every c.args.words.now p rows c.from_vec.result c.requires.principal are (search rules);
      some = told_of brief every p rows (λ l. 0 < length l) (λ l. l ≡ []) c.has_some-some.result are (some_of c.has_some-some.result _ items c.as_slice.ensures.value c.has_some-some.ensures);
      unshown = told_of brief every p rows (λ l. IsTrue (has_unshown l)) (λ l. has_unshown l ≡ false) c.has_unshown-unshown.result are (by_test c.has_unshown-unshown.result (has_unshown rows) unshown);
    }
