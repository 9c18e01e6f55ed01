use Rattle.std.proofs.Common.{ℕ, List, Some, ◌≡◌, ◌∷◌, [], ◌++◌, ◌∙◌, All, length, refl, subst, sym, take, arith}
use Rattle.std.proofs.lemmas.List.Elements.{All-push, All-same, All-take}
use Rattle.std.specs.List.{slice_get}
use Rattle.iam_index.proofs.ListLemmas.{get_next}
use Rattle.iam_living.specs.Keys.{AreKeys, HasKeys}
use Rattle.iam_living.specs.declared.keys.Keys.{Keys}
use Rattle.iam_living.proofs.keys.make_ready.Goals as goal

-- those that stay have the property
stay : {X : Type 0} (P : X → Type 0) (n : ℕ) (old rest : List X) → rest ≡ take n old → All P old → All P rest
stay P n old rest is all = All-same P rest (take n old) is (All-take P n old all)

-- one behind a list stands at the list's length
behind : {X : Type 0} (xs ys : List X) (x : X) (n : ℕ) → ys ≡ xs ++ x ∷ [] → n ≡ length xs → slice_get ys n ≡ Some x
behind {X} xs ys x n is at =
    let L : List X → Type 0 = λ l. slice_get l n ≡ Some x in
    let N : ℕ → Type 0 = λ k. slice_get (xs ++ x ∷ []) k ≡ Some x in
    subst L (sym is) (subst N (sym at) (get_next xs x))

pub returns-in-Some-clause-ready : goal.returns-in-Some-clause-ready
returns-in-Some-clause-ready c =
    let L : List Keys → Type 0 = λ kept. HasKeys c.args.world.now c.args.p c.args.r kept c.in-Some.n in
    subst L c.as_slice.ensures.value c.in-Some.ensures

pub returns-in-Err-clause-keys : goal.returns-in-Err-clause-keys
returns-in-Err-clause-keys c =
    stay (AreKeys c.args.world.now) c.staying.result c.args.kept.now.items c.reserve.new.self.items
    (c.reserve.ensures.items ∙ c.truncate.ensures.items) c.requires.keys

pub returns-clause-keys : goal.returns-clause-keys
returns-clause-keys c =
    let P = AreKeys c.args.world.now in
    let rest = c.reserve.new.self.items in
    let keys : Keys = record { principal = c.args.p; resource = c.args.r; derived = c.in_ok-derived.derived; told = c.nothing_told.result } in
    let there = stay P c.staying.result c.args.kept.now.items rest (c.reserve.ensures.items ∙ c.truncate.ensures.items) c.requires.keys in
    All-same P c.push.new.self.items (rest ++ keys ∷ []) c.in_ok-push.ensures.items
    (All-push P rest keys there (record { resource = c.requires.resource; derived = c.in_ok-derived.ensures }))

pub returns-clause-ready : goal.returns-clause-ready
returns-clause-ready c =
    let keys : Keys = record { principal = c.args.p; resource = c.args.r; derived = c.in_ok-derived.derived; told = c.nothing_told.result } in
    let rest = c.reserve.new.self.items in
    let last : c.len-n.result ≡ length rest = omega (arith, c.len-n.ensures) in (
      keys,
      behind rest c.push.new.self.items keys c.len-n.result c.in_ok-push.ensures.items last,
      refl,
      c.in_ok-derived.ensures,
    )
