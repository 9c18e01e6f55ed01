use Rattle.std.proofs.Common.{◌≡◌, ◌<◌, ◌∷◌, [], ◌++◌, ◌∙◌, ℕ, List, ap, arith, get_or, length, map, string_bytes, refl, subst, sym, take}
use Rattle.std.proofs.lemmas.List.{take_all}
use Rattle.std.specs.List.{range_with_len, slice_get}
use Rattle.iam_world.specs.World.{ResourceValue}
use Rattle.std.specs.Arc.{arc_value}
use Rattle.iam_every.specs.Code.Rows.{AreOfMatched, AreRowsOn, IsFirstOf, IsNamedAmong}
use Rattle.iam_every.specs.Code.Told.{IsTold}
use Rattle.iam_every.specs.Every.{RowValue, every_of, row_of}
use Rattle.iam_every.specs.Made.{AreJoined}
use Rattle.iam_every.specs.declared.told.About.TheVariants.{Resource}
use Rattle.iam_every.specs.declared.told.Told.{Told}
use Rattle.iam_every.proofs.KnownLemmas.{same_or, zip_at, zip_length}
use Rattle.iam_every.proofs.LineLemmas.{matched_first}
use Rattle.iam_every.proofs.MadeLemmas.{joined_matched, joined_more}
use Rattle.iam_every.proofs.NamesLemmas.{one_some}
use Rattle.iam_every.proofs.RowLemmas.{named_all, named_more}
use Rattle.iam_every.proofs.WalkLemmas.{taken_more}
use Rattle.iam_every.proofs.rows.named_rows.Goals as goal

pub loop-told-preserved : goal.loop-told-preserved
loop-told-preserved c =
    let given = c.args.given in
    let every = every_of given.asked in
    let p = given.p in
    let action = string_bytes (arc_value c.args.action.now) in
    let matched = given.matched.now in
    let named = c.args.named.now in
    let (actions, listed, all) = c.requires.told in
    let R : ℕ → Told → Type 0 = λ s told. IsTold every p (Resource s) actions told in
    let i = c.loop-told.told-index in
    let inside : i < length named = c.loop-told-test.true in
    let below : i < length matched = omega (arith, inside, zip_length R matched named all) in
    let r = get_or matched i 0 in
    let is : r ≡ get_or matched i r = same_or matched i 0 r below in
    let told : R r c.told-item.result = subst (λ (x : Told). R r x) (sym c.told-item.is) (zip_at R matched named i 0 c.told-item.result all inside) in
    let (more, (row, (resource, at, of), alone), added) = c.in_ok-add_rows.ensures every p (Resource r) actions told listed in
    let (found, there, (k, first)) = matched_first every matched i r c.requires.given.matched below is in
    let same : found ≡ resource = one_some (slice_get every.world.resources r) found resource there at in
    let rows = map row_of c.loop-told.rows.items in
    let now : map row_of c.add_rows.new.rows.items ≡ rows ++ (row ∷ []) = added ∙ ap (λ (l : List RowValue). rows ++ l) alone in
    let Of = AreOfMatched every p action in
    let Both : List ℕ → List RowValue → Type 0 = λ done some. AreRowsOn every p action (IsNamedAmong every done) some × AreJoined Of done some in
    let step : Both (take i matched ++ r ∷ []) (rows ++ row ∷ []) = (
      named_more every p action (take i matched) r resource resource.arn k rows row c.loop-told.invariant.rows at refl
          (subst (λ (x : ResourceValue). IsFirstOf every.lines x.arn k) same first) of,
      joined_more Of (take i matched) r rows (row ∷ []) c.loop-told.invariant.made (row, (resource, at, of), refl),
    ) in
    let both = subst (λ (done : List ℕ). Both done (map row_of c.add_rows.new.rows.items)) (sym (taken_more matched i r below is))
    (subst (Both (take i matched ++ r ∷ [])) (sym now) step) in
    record { rows = both.0; made = both.1 }

pub returns-clause-rows : goal.returns-clause-rows
returns-clause-rows c =
    let given = c.args.given in
    let every = every_of given.asked in
    let (actions, listed, all) = c.requires.told in
    let rows = map row_of c.loop-told.rows.items in
    let long = zip_length (λ r told. IsTold every given.p (Resource r) actions told) given.matched.now c.args.named.now all in
    named_all every given.p (string_bytes (arc_value c.args.action.now)) given.matched.now rows c.requires.given.matched
    (subst (λ (done : List ℕ). AreRowsOn every given.p (string_bytes (arc_value c.args.action.now)) (IsNamedAmong every done) rows)
    (take_all c.loop-told.told-index given.matched.now (omega (arith, c.loop-told-test.false, long))) c.loop-told.invariant.rows)

pub returns-clause-made : goal.returns-clause-made
returns-clause-made c =
    let given = c.args.given in
    let every = every_of given.asked in
    let (actions, listed, all) = c.requires.told in
    let rows = map row_of c.loop-told.rows.items in
    let long = zip_length (λ r told. IsTold every given.p (Resource r) actions told) given.matched.now c.args.named.now all in
    joined_matched every given.p (string_bytes (arc_value c.args.action.now)) (range_with_len 0 (length every.world.resources)) given.matched.now rows c.requires.given.matched.selected
    (subst (λ (done : List ℕ). AreJoined (AreOfMatched every given.p (string_bytes (arc_value c.args.action.now))) done rows)
    (take_all c.loop-told.told-index given.matched.now (omega (arith, c.loop-told-test.false, long))) c.loop-told.invariant.made)
