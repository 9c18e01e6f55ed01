use Rattle.std.proofs.lemmas.Result.{IfOk-weaker, IfErr-weaker}
use Rattle.serde_json.specs.View.{view}
use Rattle.iam_shape.specs.LentWorld.{world_of}
use Rattle.iam_world.proofs.FaultSet.{first_of_view, to_view}
use Rattle.iam_world.proofs.world.read_value.Goals as goal

pub read_view-requires-clause-small : goal.read_view-requires-clause-small
read_view-requires-clause-small c =
    c.few_documents.ensures c.requires.0 (view c.args.value.now) (world_of c.in_ok-world.world) c.requires.1 c.requires.2.1
    c.in_ok-world.ensures.ok.1

pub returns-clause-ok : goal.returns-clause-ok
returns-clause-ok c = λ bytes few json.
    let d = view c.args.value.now in
    let says = c.in_ok-world.ensures.ok in
    IfOk-weaker c.read_view.result _ _
    (λ world read. record {
      acceptable = (
        few,
        (λ fault has. read.1 fault (to_view c.one_view.ensures bytes d (world_of c.in_ok-world.world) json says.0 says.1 fault has)),
      );
      value = d;
      json = json;
      view = world_of c.in_ok-world.world;
      says = says.1;
      reads = read.0;
    })
    c.read_view.ensures.ok

pub returns-clause-fault : goal.returns-clause-fault
returns-clause-fault c = λ bytes few json.
    let d = view c.args.value.now in
    let says = c.in_ok-world.ensures.ok in
    IfErr-weaker c.read_view.result _ _
    (λ fault first other.
    first_of_view c.one_view.ensures bytes d (world_of c.in_ok-world.world) few json says.0 says.1 fault (first other))
    c.read_view.ensures.fault
