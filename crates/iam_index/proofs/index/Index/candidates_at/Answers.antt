use Rattle.std.proofs.Common.{◌++◌, ◌∷◌, [], List, map, ap, subst, append_assoc}
use Rattle.iam_decision.specs.Code.Scan.{placed_value}
use Rattle.iam_decision.specs.Living.{AreCandidates}
use Rattle.iam_decision.specs.Matched.{Placed, placed}
use Rattle.iam_index.proofs.IndexLemmas.{candidates_less, nothing_acts, parts_listed}
use Rattle.iam_index.proofs.ListLemmas.{is_asked}
use Rattle.iam_index.proofs.index.Index.candidates_at.Goals as goal

pub returns-clause-are : goal.returns-clause-are
returns-clause-are c = λ action applicable named at.
    let world = c.args.self.now in
    let (ones, org, first) = c.in_ok-add_org.ensures in
    let (twos, resource, second) = c.in_ok-add_resource.ensures in
    let (threes, requester, third) = c.in_ok-add_requester.ensures in
    let one = map placed_value ones in
    let two = map placed_value twos in
    let three = map placed_value threes in
    let found = map placed_value c.add_requester.new.candidates.items in
    let P : List Placed → Type 0 = λ z. AreCandidates (action ∷ []) z found in
    let begun = (first action named).0 [] (ap (map placed_value) c.new-candidates.ensures.items) in
    let last = (third action named).0 (one ++ two) ((second action named).0 one begun) in
    let listed = parts_listed world.actions applicable one two three (org c.args.r applicable at) (resource c.args.p applicable at)
    (requester c.args.r applicable at) in
    candidates_less world.actions action (is_asked world c.args.a action named) (placed applicable) (one ++ (two ++ three)) found listed
    (subst P (append_assoc one two three) last)

pub returns-clause-act : goal.returns-clause-act
returns-clause-act c = λ action named.
    let (ones, org, first) = c.in_ok-add_org.ensures in
    let (twos, resource, second) = c.in_ok-add_resource.ensures in
    let (threes, requester, third) = c.in_ok-add_requester.ensures in
    (third action named).1 ((second action named).1 ((first action named).1 (nothing_acts action c.new-candidates.result.items c.new-candidates.ensures.items)))
