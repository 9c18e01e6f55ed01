use Rattle.std.proofs.Common.{◌≡◌, ◌<◌, ◌+◌, ◌∷◌, [], ◌++◌, ◌∙◌, ℕ, List, Some, String, ap, arith, get_or, length, map, string_bytes, subst, sym, take}
use Rattle.std.proofs.lemmas.List.{length-map, take-map, take_all, take_more}
use Rattle.std.proofs.lemmas.Option.{slice_get-get_or}
use Rattle.std.specs.Global.{Global}
use Rattle.std.specs.List.{AllZip, slice_get}
use Rattle.iam_every.specs.Code.Acting.{acts_in}
use Rattle.iam_every.specs.Code.Picked.{ActsOn, TellEach}
use Rattle.iam_every.specs.Code.Told.{IsNumberFor, IsNumberIn, eligible_in}
use Rattle.iam_every.specs.Every.{every_of}
use Rattle.iam_every.specs.declared.acting.ElementActs.{ElementActs}
use Rattle.iam_every.specs.declared.told.Known.{Known}
use Rattle.iam_every.proofs.ActingLemmas.{acts_tell}
use Rattle.iam_every.proofs.KnownLemmas.{map_at, zip_map}
use Rattle.iam_every.proofs.SideLemmas.{both_more}
use Rattle.iam_every.proofs.told.told_in.Goals as goal

pub loop-i-preserved : goal.loop-i-preserved
loop-i-preserved c =
    let given = c.args.given in
    let every = every_of given.asked in
    let actions = c.args.actions.now in
    let all_actions = map string_bytes actions in
    let i = c.loop-i.i in
    let inside : i < length actions = omega (arith, c.loop-i-test.true, c.loop-i.auto.i-end) in
    let below : i < length all_actions = omega (arith, inside, length-map actions (λ (x : String Global). string_bytes x)) in
    let action = get_or all_actions i [] in
    let at : slice_get all_actions i ≡ Some action = slice_get-get_or all_actions i [] below in
    let before = map string_bytes (take i actions) in
    let numbers = c.loop-i.numbers.items in
    let Old = IsNumberFor every given.p c.args.about c.loop-i.memo.known.items in
    let New = IsNumberFor every given.p c.args.about c.number_for.new.memo.known.items in
    let taken : before ++ (action ∷ []) ≡ map string_bytes (take (i + 1) actions) =
    ap (λ (l : List (List ℕ)). l ++ (action ∷ [])) (sym (take-map string_bytes i actions)) ∙ sym (take_more all_actions i [] below) ∙ take-map string_bytes (i + 1) actions in
    let all : AllZip New before numbers =
    zip_map Old New (λ a n (one, there, said). (one, c.in_ok-number_for.ensures.same n one there, said)) before numbers c.loop-i.invariant.numbers in
    let acting = c.in_ok-elements.ensures in
    let known = c.numbers_of.new.self.known.items in
    let elements = c.in_ok-elements.elements.items in
    let told : TellEach (ActsOn action) (eligible_in c.args.scene) (map (acts_in known i) elements) =
    acts_tell known all_actions action i acting.known at (eligible_in c.args.scene) elements acting.numbers in
    let bits : c.in_ok-acts.acts.items ≡ map (acts_in known i) elements =
    c.in_ok-acts.ensures ∙ ap (λ (l : List ElementActs). map (acts_in l i) c.as_slice-in-loop-i.result.now) c.as_slice.ensures.value
    ∙ ap (map (acts_in known i)) c.as_slice-in-loop-i.ensures.value in
    record {
      walks = c.number_for.ensures.walks;
      known = c.in_ok-number_for.ensures.known;
      lived = c.in_ok-number_for.ensures.lived;
      numbers = subst (λ (xs : List (List ℕ)). AllZip New xs c.push.new.self.items) taken
          (subst (AllZip New (before ++ (action ∷ []))) (sym c.in_ok-push.ensures.items)
          (both_more New before numbers action c.in_ok-number_for.field-0 all
          (c.in_ok-number_for.ensures.number action (subst (TellEach (ActsOn action) (eligible_in c.args.scene)) (sym bits) told))));
    }

pub returns-clause-told : goal.returns-clause-told
returns-clause-told c =
    let given = c.args.given in
    let every = every_of given.asked in
    let known = c.loop-i.memo.known.items in
    let lists = c.in_ok-lists_of.field-0.items in
    let numbers = c.loop-i.numbers.items in
    let R = IsNumberFor every given.p c.args.about known in
    let all = map string_bytes c.args.actions.now in
    zip_map R (IsNumberIn every given.p c.args.about lists)
    (λ action n (one, there, said). (
      one.said,
      subst (λ l. slice_get l n ≡ Some one.said) (sym c.in_ok-lists_of.ensures) (map_at (λ (x : Known). x.said) known n one there),
      said,
    )) all numbers
    (subst (λ (xs : List (String Global)). AllZip R (map string_bytes xs) numbers)
    (take_all c.loop-i.i c.args.actions.now (omega (arith, c.loop-i-test.false, c.loop-i.auto.i-end))) c.loop-i.invariant.numbers)
