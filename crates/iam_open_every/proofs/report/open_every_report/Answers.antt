use Rattle.std.proofs.Common.{◌≡◌, ◌<◌, ◌≤◌, ◌∙◌, ◌++◌, [], ℕ, All, Any, Bool, IsTrue, List, MatchBool, ap, arith, false, length, map, subst, sym}
use Rattle.std.specs.List.{list_any}
use Rattle.iam_every.proofs.ReportLemmas.{not_few}
use Rattle.iam_every.specs.Every.{every_of}
use Rattle.iam_row.specs.Piece.{closing_text}
use Rattle.iam_open_every.specs.Code.Texts.{all_rows, named_in, rows_in}
use Rattle.iam_open_every.specs.Report.{OfRows, has_unshown, rows_text}
use Rattle.iam_open_every.specs.declared.crew.Chosen.{Chosen}
use Rattle.iam_open_every.proofs.ReportLemmas.{all_known, all_wanted, count_rows, tells}
use Rattle.iam_open_every.proofs.report.open_every_report.Goals as goal

whole : (front opening rows made end text : List ℕ) → text ≡ front ++ (rows ++ end) → front ≡ opening → rows ≡ made → text ≡ opening ++ (made ++ end)
whole front opening rows made end text is first then = is ∙ ap (λ t. t ++ (rows ++ end)) first ∙ ap (λ t. opening ++ (t ++ end)) then

pub returns-then-not-are_few-clause-many : goal.returns-then-not-are_few-clause-many
returns-then-not-are_few-clause-many g c = λ _.
    let every = every_of c.args.asked in
    let all = c.in_ok-all.all.items in
    let F : List Chosen → Type 0 = λ chosen. length (rows_in chosen) ≤ 16777216 → IsTrue c.are_few.result in
    let many = not_few (length (rows_in all)) c.are_few.result c.if-not-are_few.true (subst F c.as_slice.ensures.value c.are_few.ensures.1) in
    (map (named_in every.world) all, all_wanted c.args.brief every c.args.words.now c.args.principals.now all c.in_ok-all.ensures, omega (arith, many, count_rows every.world all))

pub texts-requires-clause-known : goal.texts-requires-clause-known
texts-requires-clause-known g c =
    all_known c.args.brief (every_of c.args.asked) c.args.words.now c.args.principals.now c.in_ok-all.all.items c.in_ok-all.ensures

pub returns-clause-ok : goal.returns-clause-ok
returns-clause-ok g c =
    let every = every_of c.args.asked in
    let all = c.in_ok-all.all.items in
    let F : List Chosen → Type 0 = λ chosen. length (rows_in chosen) ≤ 16777216 in
    let few = subst F c.as_slice.ensures.value (c.are_few.ensures.0 c.if-not-are_few.false) in record {
      lists = map (named_in every.world) all;
      are = all_wanted c.args.brief every c.args.words.now c.args.principals.now all c.in_ok-all.ensures;
      few = omega (arith, few, count_rows every.world all);
      is =
          whole _ _ _ (rows_text c.args.format c.args.brief 0 (all_rows every.world all)) (closing_text c.args.format) _ c.of.ensures c.opening.ensures c.in_ok-rows.ensures;
    }

pub returns-clause-some : goal.returns-clause-some
returns-clause-some g c =
    let every = every_of c.args.asked in
    let all = c.in_ok-all.all.items in
    let T = OfRows c.args.brief every (λ rows. 0 < length rows) in
    let U = OfRows c.args.brief every (λ rows. rows ≡ []) in
    subst (λ (b : Bool). MatchBool b (Any T c.args.principals.now) (All U c.args.principals.now))
    (sym (c.has_some-some.ensures ∙ ap (list_any (λ (chosen : Chosen). chosen.some)) c.as_slice-2.ensures.value))
    (tells c.args.brief every c.args.words.now c.args.principals.now all c.in_ok-all.ensures T U (λ chosen. chosen.some) (λ p chosen is. is.some))

pub returns-clause-unshown : goal.returns-clause-unshown
returns-clause-unshown g c =
    let every = every_of c.args.asked in
    let all = c.in_ok-all.all.items in
    let T = OfRows c.args.brief every (λ rows. IsTrue (has_unshown rows)) in
    let U = OfRows c.args.brief every (λ rows. has_unshown rows ≡ false) in
    subst (λ (b : Bool). MatchBool b (Any T c.args.principals.now) (All U c.args.principals.now))
    (sym (c.has_unshown-unshown.ensures ∙ ap (list_any (λ (chosen : Chosen). chosen.unshown)) c.as_slice-3.ensures.value))
    (tells c.args.brief every c.args.words.now c.args.principals.now all c.in_ok-all.ensures T U (λ chosen. chosen.unshown) (λ p chosen is. is.unshown))
