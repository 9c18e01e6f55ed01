use Rattle.std.proofs.Common.{sym, ◌∙◌, arith}
use Rattle.std.proofs.lemmas.Option.{get_or_from_slice_get, slice_get_within}
use Rattle.iam_index.proofs.MarkLemmas.{marked_kept, marked_set, not_unlike}
use Rattle.iam_index.proofs.elements.mark_one.Goals as goal
use Rattle.iam_index.proofs.elements.mark_one.Goals.{else-place-len-via-then-place-len+then-index-acting+else-matches_at, else-place-len-via-then-place-len+else-index-acting, else-place-len-via-else-place-len}

pub returns-then-matches_at : goal.returns-then-matches_at
returns-then-matches_at c = λ done numbers marked.
    marked_set c.args.world.now c.args.acting done c.args.pattern.now numbers c.args.acts.now.items c.args.a
    (λ text asked. (c.matches_at.ensures text asked).0 c.if-matches_at.true) marked

pub returns-else-place-len : goal.returns-else-place-len
returns-else-place-len c = λ done numbers marked.
    let acts = c.args.acts.now.items in
    let a = c.args.a in
    let mark = c.args.acting in
    marked_kept c.args.world.now mark done c.args.pattern.now numbers acts a
    (λ act text at asked matched.
    elim c.else-place-len.branch [
      | else-place-len-via-then-place-len+then-index-acting+else-matches_at w ↦
          let yes = (w.matches_at.ensures text asked).1 matched in let no = w.if-matches_at.false in let wrong : ⊥ = cc in absurd wrong
      | else-place-len-via-then-place-len+else-index-acting w ↦
          sym (get_or_from_slice_get acts a act w.index.result.now at) ∙ sym w.index.ensures ∙ not_unlike w.index.result.now mark w.if-index-acting.false
      | else-place-len-via-else-place-len w ↦ let within = slice_get_within acts a act at in absurd (omega (arith, within, w.if-place-len.false, c.len.ensures))
    ]) marked
