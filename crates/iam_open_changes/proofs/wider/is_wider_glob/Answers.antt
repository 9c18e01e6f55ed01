use Rattle.std.proofs.Common.{◌≡◌, ◌∙◌, All, List, map, string_bytes, subst, sym}
use Rattle.std.specs.Str.{chars}
use Rattle.iam_glob.specs.Glob.{Matches, wild_sign}
use Rattle.iam_glob.specs.Signs.{signs_in}
use Rattle.iam_glob.specs.declared.sign.Sign.{Sign}
use Rattle.iam_open_changes.specs.Code.Implied.{IsRun}
use Rattle.iam_open_changes.proofs.WiderLemmas.{runs_match}
use Rattle.iam_open_changes.proofs.wider.is_wider_glob.Goals as goal

pub returns-in-Some : goal.returns-in-Some
returns-in-Some c = λ yes text matches.
    let is : map wild_sign (chars (string_bytes c.in-Some.text)) ≡ signs_in c.signs-2.result = rw c.in-Some.is at c.in_ok-text.ensures in
    runs_match c.args.other.now (chars (string_bytes c.in-Some.text)) text
    (subst (λ (ss : List Sign). All IsRun ss) c.signs.ensures (c.are_runs.ensures c.if-not-are_runs.false))
    (rw c.as_str.ensures.value at (c.matches.ensures.0 yes))
    (subst (λ (ss : List Sign). Matches ss text) (sym (is ∙ c.signs-2.ensures)) matches)
