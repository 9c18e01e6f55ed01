use Rattle.std.proofs.Common.{◌≡◌, ◌↔◌, ◌<◌, ◌≤◌, ◌∙◌, ◌++◌, [], Any, List, IsTrue, ap, false, length, string_bytes, subst, sym}
use Rattle.std.specs.List.{flat_map}
use Rattle.iam_row.specs.Piece.{closing_text}
use Rattle.iam_every.specs.Every.{every_of}
use Rattle.iam_every.specs.declared.crew.Chosen.{Chosen}
use Rattle.iam_every.specs.Report.{has_unshown}
use Rattle.iam_every.proofs.ReportLemmas.{known_chosen, not_few, reported, rows_in, too_long}
use Rattle.iam_every.proofs.ToldLemmas.{none_are, tells, untrue}
use Rattle.iam_every.proofs.report.every_report.Goals as goal

pub returns-then-not-are_few-clause-many : goal.returns-then-not-are_few-clause-many
returns-then-not-are_few-clause-many g c = λ _.
    let all = c.in_ok-all.all.items in
    let T : List Chosen → Type 0 = λ chosen. length (rows_in chosen) ≤ 16777216 → IsTrue c.are_few.result in
    let says = subst T c.as_slice.ensures.value c.are_few.ensures.1 in
    too_long (every_of c.args.asked) c.args.principals.now c.args.decisions.now all c.requires.principals c.in_ok-all.ensures
    (not_few (length (rows_in all)) c.are_few.result c.if-not-are_few.true says)

pub texts-requires-clause-known : goal.texts-requires-clause-known
texts-requires-clause-known g c =
    known_chosen (every_of c.args.asked) c.args.decisions.now c.args.principals.now c.in_ok-all.all.items c.requires.principals c.in_ok-all.ensures

pub returns-clause-ok : goal.returns-clause-ok
returns-clause-ok g c =
    let every = every_of c.args.asked in
    let F : List Chosen → Type 0 = λ chosen. length (rows_in chosen) ≤ 16777216 in
    let few = subst F c.as_slice.ensures.value (c.are_few.ensures.0 c.if-not-are_few.false) in
    reported c.args.format c.args.brief every c.args.principals.now c.args.decisions.now c.in_ok-all.all.items (flat_map string_bytes c.in_ok-rows.rows.items) c.of.result
    c.requires.principals c.in_ok-all.ensures few c.in_ok-rows.ensures
    (c.of.ensures ∙ ap (λ front. front ++ (flat_map string_bytes c.in_ok-rows.rows.items ++ closing_text c.args.format)) c.opening.ensures)

pub returns-clause-some : goal.returns-clause-some
returns-clause-some g c =
    let T : List Chosen → Type 0 = λ all. IsTrue c.has_some-some.result ↔ Any (λ chosen. IsTrue chosen.some) all in
    tells (every_of c.args.asked) c.args.decisions.now (λ chosen. chosen.some) (λ rows. 0 < length rows) (λ rows. rows ≡ [])
    (λ p chosen is. is.some) none_are c.args.principals.now c.in_ok-all.all.items c.has_some-some.result c.in_ok-all.ensures
    (subst T c.as_slice-2.ensures.value c.has_some-some.ensures)

pub returns-clause-unshown : goal.returns-clause-unshown
returns-clause-unshown g c =
    let T : List Chosen → Type 0 = λ all. IsTrue c.has_unshown-unshown.result ↔ Any (λ chosen. IsTrue chosen.unshown) all in
    tells (every_of c.args.asked) c.args.decisions.now (λ chosen. chosen.unshown) (λ rows. IsTrue (has_unshown rows))
    (λ rows. has_unshown rows ≡ false) (λ p chosen is. (λ on. sym is.unshown ∙ on, λ on. is.unshown ∙ on))
    (λ rows. untrue (has_unshown rows)) c.args.principals.now c.in_ok-all.all.items c.has_unshown-unshown.result c.in_ok-all.ensures
    (subst T c.as_slice-3.ensures.value c.has_unshown-unshown.ensures)
