use Rattle.std.proofs.Common.{◌≡◌, ◌∙◌, ◌++◌, ◌+◌, ◌-◌, [], ◌∷◌, IfOk, List, ap, append_assoc, arith, length, subst, sym}
use Rattle.iam_kinds.specs.Code.{AreIn, SameElements, place_at, settled_places, starts_from}
use Rattle.iam_kinds.specs.declared.table.Place.{Place}
use Rattle.iam_kinds.proofs.StepLemmas.{starts_done, starts_in, starts_more}
use Rattle.iam_kinds.proofs.table.Table.starts.Goals as goal

pub loop-pattern-preserved : goal.loop-pattern-preserved
loop-pattern-preserved c =
    let p = c.loop-pattern.pattern in
    let end = c.len-pattern-end.result in
    let starts = c.loop-pattern.starts.items in
    let rest = starts_from (p + 1) (end - (p + 1)) in
    c.loop-pattern.invariant ∙ ap (λ l. starts ++ l) (starts_more p end (omega arith)) ∙ sym (append_assoc starts (place_at p 0 ∷ []) rest)
    ∙ ap (λ l. l ++ rest) (sym c.in_ok-push.ensures.items)

pub settled-requires : goal.settled-requires
settled-requires c =
    let t = c.args.self.now.patterns.items in
    let count = c.args.count in
    let many : c.len-pattern-end.result ≡ length t = omega arith in
    let done = starts_done count c.loop-pattern.pattern c.len-pattern-end.result c.loop-pattern.starts.items (omega arith) c.loop-pattern.invariant in
    let all = done ∙ ap (λ n. starts_from count (n - count)) many in
    subst (AreIn t) (sym (c.deref.ensures.value ∙ all)) (starts_in t count (length t - count) (omega arith))

pub returns-clause-same : goal.returns-clause-same
returns-clause-same c =
    let t = c.args.self.now.patterns.items in
    let count = c.args.count in
    let many : c.len-pattern-end.result ≡ length t = omega arith in
    let done = starts_done count c.loop-pattern.pattern c.len-pattern-end.result c.loop-pattern.starts.items (omega arith) c.loop-pattern.invariant in
    let all = done ∙ ap (λ n. starts_from count (n - count)) many in
    let P : List Place → Type 0 = λ l. IfOk c.settled.result (λ v. SameElements v.items (settled_places t l)) in
    subst P (c.deref.ensures.value ∙ all) c.settled.ensures.same
