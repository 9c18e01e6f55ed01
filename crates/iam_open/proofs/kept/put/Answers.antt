use Rattle.std.proofs.Common.{◌≡◌, List, [], ◌∷◌, ◌++◌, All, Bool, false, if◌then◌else◌, subst, sym, true}
use Rattle.std.proofs.lemmas.List.Elements.{All-set}
use Rattle.iam_open.specs.Code.Pairs.{IsKept}
use Rattle.iam_open.specs.declared.pair.Pair.{Pair}
use Rattle.iam_open.proofs.ListLemmas.{push_all}
use Rattle.iam_open.proofs.kept.put.Goals as goal

-- they are pushed, or not
pushed : (P : Pair → Type 0) (xs ys : List Pair) (x : Pair) (b : Bool) → ys ≡ (if b then xs ++ x ∷ [] else xs) → All P xs → P x → All P ys
pushed P xs ys x true same all is = subst (λ (l : List Pair). All P l) (sym same) (push_all P xs x all is)
pushed P xs ys x false same all is = subst (λ (l : List Pair). All P l) (sym same) all

pub returns-then-place-len : goal.returns-then-place-len
returns-then-place-len c = λ world all is. All-set (IsKept world) c.args.pairs.now.items c.args.place c.args.pair is all

pub returns : goal.returns
returns c = λ world all is. pushed (IsKept world) c.args.pairs.now.items c.push.new.self.items c.args.pair _ c.push.ensures.items all is
