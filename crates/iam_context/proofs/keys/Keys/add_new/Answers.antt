use Rattle.std.proofs.Common.{◌∙◌, ◌+◌, ◌∷◌, [], ◌++◌, ◌≤◌, ◌≡◌, ap, append_assoc, arith, drop, length, sym, take, true, false}
use Rattle.std.proofs.lemmas.List.{drop_all, take_all}
use Rattle.iam_context.proofs.KeyLemmas.{keys_left_of, keys_more_of}
use Rattle.iam_context.proofs.Shares.{not_there, shares_here, shares_next, there}
use Rattle.iam_context.specs.Keys.{shares}
use Rattle.iam_context.specs.Context.{has_key, keys_of}
use Rattle.iam_context.proofs.keys.Keys.add_new.Goals as goal

pub returns-then-not-branch : goal.returns-then-not-branch
returns-then-not-branch c = λ keys has.
    let xs = c.args.part.now.items in
    let i = c.loop-key.key-index in
    let e = c.loop-key-item.result in
    let seen = keys ++ keys_of (take i xs) in
    let rest = keys_left_of xs _ i e c.deref-key-items.ensures.value c.loop-key-test.true c.loop-key-item.is in
    let known = c.loop-key.invariant keys has in
    let inserted = c.in_ok-insert.ensures seen known.0 in
    let present : has_key seen e.0 ≡ true = ap (has_key seen) (sym c.as_str.ensures) ∙ there _ _ inserted.0 c.if-not-branch.true in
    (sym (known.1 ∙ ap (shares seen) rest ∙ shares_here seen (keys_of (drop (i + 1) xs)) e.0 present), λ never. cc)

pub loop-key-preserved : goal.loop-key-preserved
loop-key-preserved c = λ keys has.
    let xs = c.args.part.now.items in
    let i = c.loop-key.key-index in
    let e = c.loop-key-item.result in
    let seen = keys ++ keys_of (take i xs) in
    let more = keys_more_of xs _ i e c.deref-key-items.ensures.value c.loop-key-test.true c.loop-key-item.is in
    let rest = keys_left_of xs _ i e c.deref-key-items.ensures.value c.loop-key-test.true c.loop-key-item.is in
    let known = c.loop-key.invariant keys has in
    let inserted = c.in_ok-insert.ensures seen known.0 in
    let absent : has_key seen e.0 ≡ false = ap (has_key seen) (sym c.as_str.ensures) ∙ not_there _ _ inserted.0 c.if-not-branch.false in (
      rw (more, ← append_assoc, ← c.as_str.ensures) inserted.1,
      known.1 ∙ ap (shares seen) rest ∙ shares_next seen (keys_of (drop (i + 1) xs)) e.0 absent
          ∙ ap (λ l. shares l (keys_of (drop (i + 1) xs))) (append_assoc keys (keys_of (take i xs)) (e.0 ∷ []) ∙ ap (λ l. keys ++ l) (sym more)),
    )

pub returns : goal.returns
returns c = λ keys has.
    let xs = c.args.part.now.items in
    let i = c.loop-key.key-index in
    let known = c.loop-key.invariant keys has in
    let over : length xs ≤ i = omega (arith, ap length c.deref-key-items.ensures.value) in (
      sym (known.1 ∙ ap (λ l. shares (keys ++ keys_of (take i xs)) (keys_of l)) (drop_all i xs over)),
      λ all. rw (← take_all i xs over) known.0,
    )
