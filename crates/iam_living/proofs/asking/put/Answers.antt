use Rattle.std.proofs.Common.{◌∷◌, [], ◌++◌, List, take}
use Rattle.std.proofs.lemmas.List.Elements.{All-push, All-same, All-take}
use Rattle.iam_living.specs.Keys.{AreToldKeys}
use Rattle.iam_living.specs.declared.keys.Keys.{Keys}
use Rattle.iam_living.proofs.asking.put.Goals as goal
use Rattle.iam_living.proofs.asking.put.Goals.{in-Ok, in-Err}

pub returns : goal.returns
returns c = λ asker own all.
    let P = AreToldKeys asker in
    let rest : List Keys = c.truncate.new.self.items in
    let there = All-same P rest (take c.staying.result c.args.kept.now.items) c.truncate.ensures.items
    (All-take P c.staying.result c.args.kept.now.items all) in
    elim c.match-push.branch [
      | in-Ok w ↦ All-same P c.push.new.self.items (rest ++ c.args.keys ∷ []) w.in-Ok.ensures.items (All-push P rest c.args.keys there own)
      | in-Err w ↦ All-same P c.push.new.self.items rest w.in-Err.ensures.items there
    ]
