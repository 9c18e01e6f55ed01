use Rattle.std.proofs.Common.{◌≡◌, ◌+◌, ◌-◌, ◌++◌, ◌∷◌, [], ℕ, List, length, ap, ◌∙◌, arith}
use Rattle.std.proofs.lemmas.List.{length-append}
use Rattle.iam_changes.specs.Code.Kept.{GatheredValue, end_of, placed, with_kind}
use Rattle.iam_changes.specs.declared.change.Kinds.{Kinds}
use Rattle.iam_changes.specs.declared.pair.Pair.{Pair}
use Rattle.iam_changes.proofs.Placed.{end_more, length_placed, placed_more}
use Rattle.iam_changes.proofs.gathered.Gathered.add.Goals as goal

pub push-requires-2 : goal.push-requires-2
push-requires-2 g c =
    let own = c.self.inside in
    omega (arith, c.requires.few, length_placed own.from own.gaps own.pairs c.self.invariant.0, ap (λ (v : GatheredValue). length v.rows) c.self.view_is)

pub invariant_of-self-2 : goal.invariant_of-self-2
invariant_of-self-2 g c =
    let own = c.self.inside in
    let gap = c.args.cell - own.end in
    let item = g.F.Form.means c.args.form.now in
    let gaps = ap length c.in_ok-push.ensures.ok ∙ length-append own.gaps (gap ∷ []) in
    let pairs = ap length c.in_default.ensures.ok ∙ length-append own.pairs (item ∷ []) in
    let end = ap (end_of own.from) c.in_ok-push.ensures.ok ∙ end_more own.from own.gaps gap in
    let last = ap (λ (v : GatheredValue). v.end) c.self.view_is in (
      omega (arith, gaps, pairs, c.self.invariant.0),
      omega (arith, end, c.self.invariant.1, c.requires.behind, last),
      omega (arith, c.requires.small),
    )

pub returns : goal.returns
returns g c =
    let own = c.self.inside in
    let old = c.args.self.now in
    let gap = c.args.cell - own.end in
    let item = g.F.Form.means c.args.form.now in
    let value : List (ℕ × Pair) → Kinds → GatheredValue = λ rows kinds. record { rows = rows; end = c.args.cell + 1; kinds = kinds } in
    let last = ap (λ (v : GatheredValue). v.end) c.self.view_is in
    let cell : end_of own.from own.gaps + gap ≡ c.args.cell = omega (arith, c.self.invariant.1, c.requires.behind, last) in
    let rows : placed own.from c.push.new.self c.push-2.new.self ≡ old.rows ++ (c.args.cell, item) ∷ [] =
    ap (λ (gaps : List ℕ). placed own.from gaps c.push-2.new.self) c.in_ok-push.ensures.ok
    ∙ ap (λ (pairs : List Pair). placed own.from (own.gaps ++ gap ∷ []) pairs) c.in_default.ensures.ok
    ∙ placed_more own.from own.gaps own.pairs gap item c.self.invariant.0
    ∙ ap (λ n. placed own.from own.gaps own.pairs ++ (n, item) ∷ []) cell
    ∙ ap (λ (v : GatheredValue). v.rows ++ (c.args.cell, item) ∷ []) c.self.view_is in
    let kinds : c.with-self-inside.result ≡ with_kind old.kinds c.args.change =
    c.with-self-inside.ensures ∙ ap (λ (v : GatheredValue). with_kind v.kinds c.args.change) c.self.view_is in
    ap (λ (rs : List (ℕ × Pair)). value rs c.with-self-inside.result) rows ∙ ap (value (old.rows ++ (c.args.cell, item) ∷ [])) kinds
