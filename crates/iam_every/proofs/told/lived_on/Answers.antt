use Rattle.std.proofs.Common.{rules, ◌≡◌, ◌∷◌, [], ◌++◌, List, Some, length, subst, sym}
use Rattle.std.specs.List.{slice_get}
use Rattle.iam_match.specs.Request.{access_of}
use Rattle.iam_decision.specs.Living.{Lives}
use Rattle.iam_every.specs.Code.Picked.{TellEach}
use Rattle.iam_every.specs.Code.Told.{IsLived, access_at, eligible_in}
use Rattle.iam_every.specs.declared.told.Lived.{Lived}
use Rattle.iam_every.proofs.KnownLemmas.{all_push}
use Rattle.iam_every.proofs.NamesLemmas.{last}
use Rattle.iam_every.proofs.told.lived_on.Goals as goal

pub returns-in-Some-clause-number : goal.returns-in-Some-clause-number
returns-in-Some-clause-number c =
    let (one, at, same) = c.in-Some.ensures in
    (one, subst (λ (l : List Lived). slice_get l c.in-Some.n ≡ Some one) c.as_slice.ensures.value at, same)

pub returns-clause-lived : goal.returns-clause-lived
returns-clause-lived c =
    let scene = c.args.scene in
    let one : Lived = record { text = c.in_ok-from_str.field-0; lives = c.in_ok-lives.lives } in
    let on : IsLived scene one =
    subst (λ (t : List _). TellEach (Lives (access_at (access_of scene.access) t)) (eligible_in scene) c.in_ok-lives.lives.items) (sym c.in_ok-from_str.ensures.ok)
    c.in_ok-lives.ensures in
    all_push (IsLived scene) c.args.lived.now.items c.push.new.self.items one c.requires on c.in_ok-push.ensures.items

pub returns-clause-number : goal.returns-clause-number
returns-clause-number c =
    let before = c.args.lived.now.items in
    let one : Lived = record { text = c.in_ok-from_str.field-0; lives = c.in_ok-lives.lives } in
    let number : length before ≡ c.len-n.result = search rules in
    let pushed : c.push.new.self.items ≡ before ++ (one ∷ []) = c.in_ok-push.ensures.items in (
      one,
      subst (λ n. slice_get c.push.new.self.items n ≡ Some one) number
          (subst (λ (l : List Lived). slice_get l (length before) ≡ Some one) (sym pushed) (last before one)),
      c.in_ok-from_str.ensures.ok,
    )
