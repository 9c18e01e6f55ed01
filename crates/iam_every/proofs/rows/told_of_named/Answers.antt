use Rattle.std.proofs.Common.{◌≡◌, ◌<◌, ◌∷◌, [], ◌++◌, ℕ, List, arith, get_or, length, map, slice_index, string_bytes, subst, sym, take}
use Rattle.std.proofs.lemmas.Grind.{get_or_default_zero}
use Rattle.std.proofs.lemmas.List.{take_all}
use Rattle.std.specs.List.{AllZip}
use Rattle.iam_every.specs.Code.Told.{IsTold}
use Rattle.iam_every.specs.Every.{every_of}
use Rattle.iam_every.specs.declared.told.About.TheVariants.{Resource}
use Rattle.iam_every.specs.declared.told.Told.{Told}
use Rattle.iam_every.proofs.LineLemmas.{matched_there}
use Rattle.iam_every.proofs.SideLemmas.{both_more}
use Rattle.iam_every.proofs.WalkLemmas.{taken_more}
use Rattle.iam_every.proofs.rows.told_of_named.Goals as goal

pub told_of-requires-clause-about : goal.told_of-requires-clause-about
told_of-requires-clause-about c =
    let given = c.args.given in
    let matched = given.matched.now in
    let i = c.loop-i.i in
    let below : i < length matched = omega (arith, c.loop-i-test.true, c.loop-i.auto.i-end) in
    let r = slice_index matched i in
    matched_there (every_of given.asked) matched i r c.requires.given.matched below (sym (get_or_default_zero matched i r below))

pub loop-i-preserved : goal.loop-i-preserved
loop-i-preserved c =
    let given = c.args.given in
    let actions = map string_bytes c.args.actions.now in
    let matched = given.matched.now in
    let i = c.loop-i.i in
    let below : i < length matched = omega (arith, c.loop-i-test.true, c.loop-i.auto.i-end) in
    let r = slice_index matched i in
    let is : r ≡ get_or matched i r = sym (get_or_default_zero matched i r below) in
    let R : ℕ → Told → Type 0 = λ s told. IsTold (every_of given.asked) given.p (Resource s) actions told in
    record {
      walks = c.told_of.ensures.walks;
      acting = c.in_ok-told_of.ensures.acting;
      named = subst (λ (l : List ℕ). AllZip R l c.push.new.self.items) (sym (taken_more matched i r below is))
          (subst (AllZip R (take i matched ++ (r ∷ []))) (sym c.in_ok-push.ensures.items)
          (both_more R (take i matched) c.loop-i.named.items r c.in_ok-told_of.field-0 c.loop-i.invariant.named c.in_ok-told_of.ensures.told));
    }

pub returns-clause-told : goal.returns-clause-told
returns-clause-told c =
    let given = c.args.given in
    let R : ℕ → Told → Type 0 = λ s told. IsTold (every_of given.asked) given.p (Resource s) (map string_bytes c.args.actions.now) told in
    subst (λ (l : List ℕ). AllZip R l c.loop-i.named.items)
    (take_all c.loop-i.i given.matched.now (omega (arith, c.loop-i-test.false, c.loop-i.auto.i-end))) c.loop-i.invariant.named
