use Rattle.std.proofs.Common.{◌≡◌, ◌∷◌, [], ◌++◌, ℕ, List, arith, length, map, string_bytes, subst, sym}
use Rattle.std.proofs.lemmas.List.{length-map}
use Rattle.std.specs.List.{AllZip, range_with_len}
use Rattle.iam_every.specs.Code.Told.{IsTold}
use Rattle.iam_every.specs.Every.{every_of, line_of}
use Rattle.iam_every.specs.declared.told.About.TheVariants.{Line}
use Rattle.iam_every.specs.declared.told.Told.{Told}
use Rattle.iam_every.proofs.MeantLemmas.{next_range}
use Rattle.iam_every.proofs.SideLemmas.{both_more}
use Rattle.iam_every.proofs.rows.told_of_lines.Goals as goal

pub loop-k-preserved : goal.loop-k-preserved
loop-k-preserved c =
    let given = c.args.given in
    let actions = map string_bytes c.args.actions.now in
    let k = c.loop-k.k in
    let R : ℕ → Told → Type 0 = λ n told. IsTold (every_of given.asked) given.p (Line n) actions told in
    record {
      walks = c.told_of.ensures.walks;
      acting = c.in_ok-told_of.ensures.acting;
      lined = subst (λ (l : List ℕ). AllZip R l c.push.new.self.items) (sym (next_range k))
          (subst (AllZip R (range_with_len 0 k ++ (k ∷ []))) (sym c.in_ok-push.ensures.items)
          (both_more R (range_with_len 0 k) c.loop-k.lined.items k c.in_ok-told_of.field-0 c.loop-k.invariant.lined c.in_ok-told_of.ensures.told));
    }

pub returns-clause-told : goal.returns-clause-told
returns-clause-told c =
    let given = c.args.given in
    let lines = given.asked.lines.now in
    let R : ℕ → Told → Type 0 = λ n told. IsTold (every_of given.asked) given.p (Line n) (map string_bytes c.args.actions.now) told in
    let all : c.loop-k.k ≡ length (map line_of lines) = omega (arith, c.loop-k-test.false, c.loop-k.auto.k-end, length-map lines line_of) in
    subst (λ (n : ℕ). AllZip R (range_with_len 0 n) c.loop-k.lined.items) all c.loop-k.invariant.lined
