use Rattle.std.proofs.Common.{◌↔◌, Bool, false, not, IsTrue, All, Any, MatchBool, List, ℕ, arith, sym, ◌∙◌, subst}
use Rattle.iam_match.specs.Entry.{HasTruth, Satisfies, asks_every}
use Rattle.iam_match.proofs.StatementLemmas.{all_or_any, all_taken, as_asked, not_as_asked, not_asked, one_more}
use Rattle.iam_match.proofs.entry.holds_with.Goals as goal

pub returns-then-branch-every : goal.returns-then-branch-every
returns-then-branch-every c =
    let S = Satisfies c.args.context.now c.args.operator c.args.values.now in
    let texts = c.args.texts.now in
    let every = asks_every c.args.operator.quantifier c.args.operator.is_negated in
    let T : List ℕ → Type 0 = λ text. IsTrue c.in_ok-satisfies.field-0 ↔ S text in
    let here : T c.text-item.result = subst T c.as_str.ensures c.in_ok-satisfies.ensures in
    let N : Bool → Type 0 = λ e. MatchBool e (¬ S c.text-item.result) (S c.text-item.result) in
    let other = subst N c.asks_every-every.ensures (not_asked c.asks_every-every.result c.in_ok-satisfies.field-0 here c.if-branch-every.true) in
    let Q : Bool → Type 0 = λ null.
    IsTrue (not c.asks_every-every.result) ↔ MatchBool null (HasTruth false c.args.values.now) (MatchBool every (All S texts) (Any S texts)) in
    let R : Bool → Type 0 = λ e. IsTrue (not e) ↔ MatchBool every (All S texts) (Any S texts) in
    subst Q (sym c.if-is_null.false ∙ c.is_null.ensures)
    (subst R (sym c.asks_every-every.ensures)
    (not_as_asked S every texts c.loop-text.text-index c.text-item.result c.loop-text-test.true c.text-item.is other))

pub loop-text-preserved : goal.loop-text-preserved
loop-text-preserved c =
    let S = Satisfies c.args.context.now c.args.operator c.args.values.now in
    let every = asks_every c.args.operator.quantifier c.args.operator.is_negated in
    let T : List ℕ → Type 0 = λ text. IsTrue c.in_ok-satisfies.field-0 ↔ S text in
    let here : T c.text-item.result = subst T c.as_str.ensures c.in_ok-satisfies.ensures in
    let N : Bool → Type 0 = λ e. MatchBool e (S c.text-item.result) (¬ S c.text-item.result) in
    let same = subst N c.asks_every-every.ensures (as_asked c.asks_every-every.result c.in_ok-satisfies.field-0 here c.if-branch-every.false) in
    one_more (λ text. MatchBool every (S text) (¬ S text)) c.args.texts.now c.loop-text.text-index c.text-item.result
    c.loop-text-test.true c.text-item.is c.loop-text.invariant same

pub returns : goal.returns
returns c =
    let S = Satisfies c.args.context.now c.args.operator c.args.values.now in
    let texts = c.args.texts.now in
    let every = asks_every c.args.operator.quantifier c.args.operator.is_negated in
    let Q : Bool → Type 0 = λ null.
    IsTrue c.asks_every-every.result ↔ MatchBool null (HasTruth false c.args.values.now) (MatchBool every (All S texts) (Any S texts)) in
    let R : Bool → Type 0 = λ e. IsTrue e ↔ MatchBool every (All S texts) (Any S texts) in
    let all = all_taken (λ text. MatchBool every (S text) (¬ S text)) texts c.loop-text.text-index (omega (arith, c.loop-text-test.false)) c.loop-text.invariant in
    subst Q (sym c.if-is_null.false ∙ c.is_null.ensures) (subst R (sym c.asks_every-every.ensures) (all_or_any S every texts all))
