use Rattle.std.proofs.Common.{◌+◌, All, List, ℕ, arith, subst, sym, take}
use Rattle.std.specs.Str.{IsUtf8}
use Rattle.iam_context.specs.Context.{ContextValue}
use Rattle.iam_match.proofs.StatementLemmas.{all_taken, one_more}
use Rattle.iam_open.proofs.GivenLemmas.{IsSingle}
use Rattle.iam_open.proofs.example.are_single.Goals as goal

pub loop-name-preserved : goal.loop-name-preserved
loop-name-preserved c =
    let all = c.deref-name-items.result.now in
    let same = c.deref-name-items.ensures.value in
    let i = c.loop-name.name-index in
    let entry = c.loop-name-item.result in
    let text = subst (λ (t : List ℕ). IsUtf8 t) c.as_str-name.ensures c.as_str-name.utf8 in
    let (texts, few) = c.is_single.ensures c.if-not-is_single.false in
    subst (λ (keys : ContextValue). All IsSingle (take (i + 1) keys)) same
    (one_more IsSingle all i entry c.loop-name-test.true c.loop-name-item.is
    (subst (λ (keys : ContextValue). All IsSingle (take i keys)) (sym same) c.loop-name.invariant) (text, texts, few))

pub returns : goal.returns
returns c = λ t.
    let all = c.deref-name-items.result.now in
    let same = c.deref-name-items.ensures.value in
    let i = c.loop-name.name-index in
    subst (λ (keys : ContextValue). All IsSingle keys) same
    (all_taken IsSingle all i (omega (arith, c.loop-name-test.false))
    (subst (λ (keys : ContextValue). All IsSingle (take i keys)) (sym same) c.loop-name.invariant))
