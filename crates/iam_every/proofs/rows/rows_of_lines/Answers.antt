use Rattle.std.proofs.Common.{◌≡◌, ◌<◌, ◌+◌, ◌∙◌, ℕ, arith, get_or, length, map, string_bytes, sym, subst}
use Rattle.std.proofs.lemmas.List.{length-map}
use Rattle.std.proofs.lemmas.List.FromFn.{get_or-range_with_len, length-range_with_len}
use Rattle.std.specs.List.{range_with_len}
use Rattle.std.specs.Arc.{arc_value}
use Rattle.iam_every.specs.Code.Rows.{AreRowsOn, IsLinedBelow}
use Rattle.iam_every.specs.Code.Told.{IsTold}
use Rattle.iam_every.specs.Every.{every_of, line_of, row_of}
use Rattle.iam_every.specs.Made.{AreJoined, AreOfLine}
use Rattle.iam_every.specs.declared.told.About.TheVariants.{Line}
use Rattle.iam_every.specs.declared.told.Told.{Told}
use Rattle.iam_every.proofs.KnownLemmas.{zip_at, zip_length}
use Rattle.iam_every.proofs.MadeLemmas.{joined_next}
use Rattle.iam_every.proofs.RowLemmas.{lined_more}
use Rattle.iam_every.proofs.rows.rows_of_lines.Goals as goal

pub loop-told-preserved : goal.loop-told-preserved
loop-told-preserved c =
    let given = c.args.given in
    let every = every_of given.asked in
    let p = given.p in
    let action = string_bytes (arc_value c.args.action.now) in
    let lined = c.args.lined.now in
    let (actions, listed, all) = c.requires.told in
    let R : ℕ → Told → Type 0 = λ n told. IsTold every p (Line n) actions told in
    let k = c.loop-told.told-index in
    let n = length every.lines in
    let inside : k < length lined = c.loop-told-test.true in
    let below : k < n = omega (arith, inside, zip_length R (range_with_len 0 n) lined all, length-range_with_len 0 n) in
    let number : get_or (range_with_len 0 n) k 0 ≡ k = get_or-range_with_len 0 n k 0 below ∙ (let same : 0 + k ≡ k = omega arith in same) in
    let told : R k c.told-item.result = subst (λ (j : ℕ). R j c.told-item.result) number
    (subst (λ (x : Told). R (get_or (range_with_len 0 n) k 0) x) (sym c.told-item.is)
    (zip_at R (range_with_len 0 n) lined k 0 c.told-item.result all inside)) in
    let (more, (on, made), added) = c.in_ok-add_rows.ensures every p (Line k) actions told listed in
    let rows = map row_of c.loop-told.rows.items in
    let Made = AreOfLine every p action in
    record {
      rows = subst (AreRowsOn every p action (IsLinedBelow every (k + 1))) (sym added)
          (lined_more every p action k rows more c.loop-told.invariant.rows on);
      made = subst (AreJoined Made (range_with_len 0 (k + 1))) (sym added) (joined_next Made k rows more c.loop-told.invariant.made made);
    }

pub returns-clause-rows : goal.returns-clause-rows
returns-clause-rows c =
    let given = c.args.given in
    let every = every_of given.asked in
    let (actions, listed, all) = c.requires.told in
    let n = length every.lines in
    let long = zip_length (λ k told. IsTold every given.p (Line k) actions told) (range_with_len 0 n) c.args.lined.now all in
    let done : c.loop-told.told-index ≡ length given.asked.lines.now =
    omega (arith, c.loop-told-test.false, c.loop-told.auto.told-index-end, long, length-range_with_len 0 n, length-map given.asked.lines.now line_of) in
    subst (λ (n : ℕ). AreRowsOn every given.p (string_bytes (arc_value c.args.action.now)) (IsLinedBelow every n) (map row_of c.loop-told.rows.items)) done c.loop-told.invariant.rows

pub returns-clause-made : goal.returns-clause-made
returns-clause-made c =
    let given = c.args.given in
    let every = every_of given.asked in
    let (actions, listed, all) = c.requires.told in
    let n = length every.lines in
    let long = zip_length (λ k told. IsTold every given.p (Line k) actions told) (range_with_len 0 n) c.args.lined.now all in
    let done : c.loop-told.told-index ≡ length given.asked.lines.now =
    omega (arith, c.loop-told-test.false, c.loop-told.auto.told-index-end, long, length-range_with_len 0 n, length-map given.asked.lines.now line_of) in
    let Made = AreOfLine every given.p (string_bytes (arc_value c.args.action.now)) in
    subst (λ (n : ℕ). AreJoined Made (range_with_len 0 n) (map row_of c.loop-told.rows.items)) done c.loop-told.invariant.made
