use Rattle.std.proofs.Common.{◌≡◌, ◌∙◌, ℕ, List, MatchOption, String, ap, codes, map, refl, string_bytes, subst, sym}
use Rattle.std.proofs.lemmas.Str.{chars-IsAscii}
use Rattle.std.proofs.lemmas.Result.{IfOk-weaker}
use Rattle.std.specs.Global.{Global}
use Rattle.iam_glob.specs.Glob.{wild_sign}
use Rattle.iam_glob.specs.Signs.{signs_in}
use Rattle.iam_every.specs.Code.Rows.{AreNames}
use Rattle.iam_every.specs.Every.{ActionsPass, every_of}
use Rattle.iam_every.proofs.LineLemmas.{ascii}
use Rattle.iam_open_every.specs.Actions.{AreAllActions}
use Rattle.iam_open_every.specs.Made.{unshown_row}
use Rattle.iam_open_every.specs.Row.{row_of}
use Rattle.iam_open_every.specs.Rows.{AreRows}
use Rattle.iam_open_every.proofs.RowLemmas.{unshown_all}
use Rattle.iam_open_every.proofs.rows.rows_of.Goals as goal

pub returns-in_default-clause-rows : goal.returns-in_default-clause-rows
returns-in_default-clause-rows c =
    let every = every_of c.args.asked in
    let p = c.args.p in
    let passes : ActionsPass every p =
    subst (λ o. MatchOption o (ActionsPass every p) (λ actions. AreAllActions every p (map string_bytes actions.items))) c.in_default.is c.in_ok-actions.ensures in
    let written : c.action_text.result.now ≡ every.written = c.action_text.ensures in
    IfOk-weaker c.unshown_lines.result (λ rows. map row_of rows.items ≡ map (unshown_row c.action_text.result.now) every.lines)
    (λ rows. AreRows c.args.brief every p (map row_of rows.items))
    (λ rows are.
    unshown_all c.args.brief every p (map row_of rows.items) (are ∙ ap (λ (w : List ℕ). map (unshown_row w) every.lines) written) passes)
    c.unshown_lines.ensures

pub given_rows-requires-clause-given : goal.given_rows-requires-clause-given
given_rows-requires-clause-given c = record {
  principal = c.requires.principal;
  there = c.requires.there;
  arn = c.signs.ensures ∙ c.in_ok-arn.ensures ∙ ap (map wild_sign) (chars-IsAscii (codes "arn:*:*:*:*:*") (ascii (codes "arn:*:*:*:*:*") refl));
  none = c.new-none.ensures.items;
  matched = c.requires.matched;
  names = subst (λ names. AreNames c.args.asked.world.now (map (λ name. name.now) names)) (sym c.as_slice.ensures.value) c.in_ok-names.ensures;
  patterns = ap (λ patterns. map signs_in patterns) c.as_slice-2.ensures.value ∙ c.in_ok-patterns.ensures;
}

pub given_rows-requires-clause-actions : goal.given_rows-requires-clause-actions
given_rows-requires-clause-actions c =
    let every = every_of c.args.asked in
    let p = c.args.p in
    let actions : AreAllActions every p (map string_bytes c.in-Some.actions.items) =
    subst (λ o. MatchOption o (ActionsPass every p) (λ actions. AreAllActions every p (map string_bytes actions.items))) c.in-Some.is c.in_ok-actions.ensures in
    subst (λ (l : List (String Global)). AreAllActions every p (map string_bytes l)) (sym c.as_slice-3.ensures.value) actions
