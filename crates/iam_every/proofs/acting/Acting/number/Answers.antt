use Rattle.std.proofs.Common.{rules, ◌≡◌, ◌∷◌, [], ◌++◌, List, Some, length, map, refl, string_bytes, subst, sym}
use Rattle.std.specs.List.{slice_get}
use Rattle.iam_every.specs.Code.Acting.{IsActing}
use Rattle.iam_every.specs.declared.acting.ElementActs.{ElementActs}
use Rattle.iam_every.proofs.KnownLemmas.{all_push, still_at}
use Rattle.iam_every.proofs.NamesLemmas.{last}
use Rattle.iam_every.proofs.acting.Acting.number.Goals as goal

pub returns-clause-known : goal.returns-clause-known
returns-clause-known c =
    let one : ElementActs = record { element = c.args.element; acts = c.in_ok-acts.acts } in
    all_push (IsActing (map string_bytes c.args.actions.now)) c.args.self.now.known.items c.push.new.self.items one c.requires c.in_ok-acts.ensures
    c.in_ok-push.ensures.items

pub returns-clause-same : goal.returns-clause-same
returns-clause-same c n one at =
    subst (λ (l : List ElementActs). slice_get l n ≡ Some one) (sym c.in_ok-push.ensures.items) (still_at c.args.self.now.known.items _ n one at)

pub returns-clause-number : goal.returns-clause-number
returns-clause-number c =
    let known = c.args.self.now.known.items in
    let one : ElementActs = record { element = c.args.element; acts = c.in_ok-acts.acts } in
    let number : length known ≡ c.len-n.result = search rules in
    let pushed : c.push.new.self.items ≡ known ++ (one ∷ []) = c.in_ok-push.ensures.items in (
      one,
      subst (λ n. slice_get c.push.new.self.items n ≡ Some one) number
          (subst (λ (l : List ElementActs). slice_get l (length known) ≡ Some one) (sym pushed) (last known one)),
      refl,
    )
