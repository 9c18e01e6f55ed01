use Rattle.std.proofs.Common.{rules, ◌≡◌, ◌∷◌, [], ◌++◌, ◌∙◌, Bool, List, Some, length, subst, sym}
use Rattle.std.specs.List.{slice_get}
use Rattle.iam_every.specs.Code.Picked.{ActsOn, TellEach}
use Rattle.iam_every.specs.Code.Told.{IsKnown, eligible_in}
use Rattle.iam_every.specs.Every.{every_of}
use Rattle.iam_every.specs.declared.told.Known.{Known}
use Rattle.iam_every.proofs.KnownLemmas.{all_at, all_push, still_at}
use Rattle.iam_every.proofs.NamesLemmas.{last}
use Rattle.iam_every.proofs.told.number_for.Goals as goal

pub returns-in-Some-clause-number : goal.returns-in-Some-clause-number
returns-in-Some-clause-number c action act =
    let given = c.args.given in
    let known = c.args.memo.now.known.items in
    let (one, there, same) = c.in-Some.ensures in
    let at = subst (λ (l : List Known). slice_get l c.in-Some.n ≡ Some one) c.as_slice.ensures.value there in (
      one,
      at,
      all_at (IsKnown (every_of given.asked) given.p c.args.about c.args.scene) known c.in-Some.n one c.requires.known at action
          (subst (λ (l : List Bool). TellEach (ActsOn action) (eligible_in c.args.scene) l) (sym (same ∙ c.as_slice-2.ensures.value)) act),
    )

pub returns-clause-known : goal.returns-clause-known
returns-clause-known c =
    let given = c.args.given in
    let one : Known = record { acts = c.args.acts; said = c.in_ok-said.said } in
    let Is = IsKnown (every_of given.asked) given.p c.args.about c.args.scene in
    let is : Is one = λ action act.
    c.in_ok-said.ensures.said action (subst (λ (l : List Bool). TellEach (ActsOn action) (eligible_in c.args.scene) l) (sym c.as_slice-3.ensures.value) act) in
    all_push Is c.args.memo.now.known.items c.push.new.self.items one c.requires.known is c.in_ok-push.ensures.items

pub returns-clause-same : goal.returns-clause-same
returns-clause-same c n one at =
    subst (λ (l : List Known). slice_get l n ≡ Some one) (sym c.in_ok-push.ensures.items) (still_at c.args.memo.now.known.items _ n one at)

pub returns-clause-number : goal.returns-clause-number
returns-clause-number c action act =
    let known = c.args.memo.now.known.items in
    let one : Known = record { acts = c.args.acts; said = c.in_ok-said.said } in
    let number : length known ≡ c.len-n.result = search rules in
    let pushed : c.push.new.self.items ≡ known ++ (one ∷ []) = c.in_ok-push.ensures.items in (
      one,
      subst (λ n. slice_get c.push.new.self.items n ≡ Some one) number
          (subst (λ (l : List Known). slice_get l (length known) ≡ Some one) (sym pushed) (last known one)),
      c.in_ok-said.ensures.said action
          (subst (λ (l : List Bool). TellEach (ActsOn action) (eligible_in c.args.scene) l) (sym c.as_slice-3.ensures.value) act),
    )
