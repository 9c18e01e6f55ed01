use Rattle.std.proofs.Common.{sym}
use Rattle.std.proofs.lemmas.Result.{IfOk-weaker}
use Rattle.iam_kinds.specs.Walk.{AreLetters, TriesAll}
use Rattle.iam_kinds.proofs.GoLemmas.{tries_node}
use Rattle.iam_kinds.proofs.LeastLemmas.{letters_node}
use Rattle.iam_kinds.proofs.walk.Walk.letters.Goals as goal

pub waited-requires : goal.waited-requires
waited-requires c = c.requires.walk.nodes c.index-node.result.now (c.args.head, c.requires.head, sym c.index-node.ensures)

pub returns-clause-tries : goal.returns-clause-tries
returns-clause-tries c =
    IfOk-weaker c.letters.result _ (λ v. TriesAll c.args.asked.now c.args.self.now v.items c.args.head) (λ v stands.
    tries_node c.args.asked.now c.args.self.now c.args.head c.index-node.result.now c.in_ok-waited.waited.items c.deref.result.now c.deref-2.result.now v.items
    c.requires.ready c.requires.walk c.requires.head (sym c.index-node.ensures) c.in_ok-waited.ensures c.deref.ensures.value c.deref-2.ensures.value stands) c.letters.ensures.stand

pub returns-clause-letters : goal.returns-clause-letters
returns-clause-letters c =
    IfOk-weaker c.letters.result _ (λ v. AreLetters c.args.asked.now c.args.self.now v.items c.args.head) (λ v exact.
    letters_node c.args.asked.now c.args.self.now c.args.head c.index-node.result.now c.in_ok-waited.waited.items c.deref.result.now c.deref-2.result.now v.items
    c.requires.walk c.requires.head
    (sym c.index-node.ensures) c.in_ok-waited.ensures c.deref.ensures.value c.deref-2.ensures.value exact) c.letters.ensures.exact
