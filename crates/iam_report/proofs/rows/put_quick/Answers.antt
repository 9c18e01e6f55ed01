use Rattle.std.proofs.Common.{◌≡◌, ◌+◌, ◌-◌, ◌≤◌, ◌∙◌, List, ℕ, ap, arith, drop, length, subst, sym, take}
use Rattle.std.proofs.lemmas.List.{length-drop, take_rest}
use Rattle.iam_report.specs.Code.Run.{AddsRows, behind_in, behind_rows}
use Rattle.iam_tiles.specs.Code.Numbered.{no_tail, picked}
use Rattle.iam_row.specs.declared.position.Position.{Position}
use Rattle.iam_row.specs.declared.tail.Tail.{Tail}
use Rattle.iam_report.proofs.Runs.{picked_part}
use Rattle.iam_report.proofs.rows.put_quick.Goals as goal

pub returns-clause-rows : goal.returns-clause-rows
returns-clause-rows c =
    let quoted = c.args.line.now.quoted in
    let tails = c.args.line.now.tails in
    let at = c.args.at.now in
    let i = c.args.i in
    let narrow = c.narrow-narrow.result.now in
    let count = c.put_rows-count.result in
    let rest = take_rest narrow i in
    let most : count ≤ length (drop i narrow) = subst (λ (l : List ℕ). count ≤ length l) rest c.put_rows-count.ensures.most in
    let part =
    picked_part no_tail tails narrow c.narrow-narrow.ensures.0 c.args.numbers.now i count c.narrow-narrow.ensures.1
    (omega (arith, most, length-drop i narrow, c.if-i-narrow.false)) in
    let behind : c.behind.result ≡ behind_in quoted at count =
    c.behind.ensures.position
    ∙ ap (λ (xs : List (List ℕ)). behind_rows (length xs) (length c.as_slice-2.result.now) at count) c.as_slice.ensures
    ∙ ap (λ (xs : List (List ℕ)). behind_rows (length c.quoted-quoted.result.now.actions) (length xs) at count) c.as_slice-2.ensures
    ∙ ap (λ q. behind_in q at count) c.quoted-quoted.ensures in
    let counted : count ≡ i + count - i = omega arith in
    let P : List Tail → Position → Type 0 = λ ts p. AddsRows quoted ts at p c.args.block.now c.put_rows-count.new.block in
    let adds : P (picked no_tail tails (take count (drop i narrow))) (behind_in quoted at count) =
    subst (λ (l : List ℕ). P (picked no_tail tails (take count l)) (behind_in quoted at count)) rest c.put_rows-count.ensures.rows in
    subst (λ n. P (take n (drop i (picked no_tail tails c.args.numbers.now))) c.behind.result) counted
    (subst (λ ts. P ts c.behind.result) (sym part) (subst (P (picked no_tail tails (take count (drop i narrow)))) (sym behind) adds))
