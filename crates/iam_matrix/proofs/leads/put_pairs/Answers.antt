use Rattle.std.proofs.Common.{◌≡◌, ℕ, subst, arith}
use Rattle.std.proofs.lemmas.Option.{slice_get_within}
use Rattle.iam_layers.specs.Cell.{IsVerdictAt}
use Rattle.iam_matrix.specs.Code.Tiles.{Adds}
use Rattle.iam_matrix.proofs.LeadLemmas.{leads_behind}
use Rattle.iam_matrix.proofs.RowLemmas.{adds_none, adds_one}
use Rattle.iam_matrix.proofs.leads.put_pairs.Goals as goal

pub loop-i-init : goal.loop-i-init
loop-i-init c = λ engine known leads. adds_none (IsVerdictAt engine.world c.args.at.principal c.args.at.action) c.args.at.resource c.args.entries.now

pub push_again-requires : goal.push_again-requires
push_again-requires c =
    let (engine, known, leads) = c.requires.leads in
    let Is = IsVerdictAt engine.world c.args.at.principal c.args.at.action in
    let now = leads_behind engine c.args.leads.now Is c.args.at.resource c.loop-i.i c.args.entries.now c.loop-i.entries leads (c.loop-i.invariant engine known leads) in
    let (verdict, there, is) = c.in-Some.ensures engine c.loop-i.entries known now in
    slice_get_within c.loop-i.entries c.in-Some.place verdict there

pub loop-i-preserved : goal.loop-i-preserved
loop-i-preserved c = λ engine known leads.
    let i = c.loop-i.i in
    let old = c.args.entries.now in
    let from = c.args.at.resource in
    let Is = IsVerdictAt engine.world c.args.at.principal c.args.at.action in
    let so_far = c.loop-i.invariant engine known leads in
    let now = leads_behind engine c.args.leads.now Is from i old c.loop-i.entries leads so_far in
    let (verdict, there, is) = c.in-Some.ensures engine c.loop-i.entries known now in
    adds_one Is from i old c.loop-i.entries c.push_again.new.self verdict so_far is (c.in_ok-push_again.ensures.ok verdict there)

pub returns-clause-entries : goal.returns-clause-entries
returns-clause-entries c = λ engine known leads.
    let at = c.args.at in
    let Is = IsVerdictAt engine.world at.principal at.action in
    let N : ℕ → Type 0 = λ n. Adds Is at.resource n c.args.entries.now c.loop-i.entries in
    let all : c.loop-i.i ≡ c.args.most = omega (arith, c.loop-i.auto.i-end, c.loop-i-test.false) in
    subst N all (c.loop-i.invariant engine known leads)
