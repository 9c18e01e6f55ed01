use Rattle.std.proofs.Common.{ℕ, Vec, Global, List, length, ap, ◌∙◌, sym, subst}
use Rattle.std.proofs.lemmas.Result.{IfOk-weaker}
use Rattle.std.specs.List.{flat_map}
use Rattle.iam_world.specs.World.{world_cells}
use Rattle.iam_matrix.specs.Code.Tiles.{AreEntries}
use Rattle.iam_matrix.proofs.Tiles.{chain_all, chain_entries}
use Rattle.iam_matrix.proofs.cells.indexed_entries.Goals as goal

pub returns : goal.returns
returns g c =
    let lengths = c.args.cut.now in
    let gathered = c.in_ok-gathered.ensures in
    let outputs = c.in_ok-gathered.gathered.outputs.items in
    let Is = g.E.Entry.is c.args.index.now in
    let items : Vec g.row.E.Denot Global → List g.row.E.Denot = λ v. v.items in
    let Makes : ℕ → ℕ → Vec g.row.E.Denot Global → Type 0 = λ from n output. AreEntries Is from n output.items in
    let chained = chain_all Makes lengths outputs (gathered.count ∙ ap (λ (ls : List ℕ). length ls) c.lengths.ensures.value) gathered.given in
    let all : List g.row.E.Denot = flat_map items outputs in
    let P : List g.row.E.Denot → Type 0 = λ es. AreEntries Is 0 (world_cells c.args.index.now) es in
    let N : ℕ → Type 0 = λ n. AreEntries Is 0 n all in
    IfOk-weaker c.joined.result _ _ (λ entries same. subst P (sym same) (subst N c.requires.cut (chain_entries Is items 0 lengths outputs chained)))
    c.joined.ensures
