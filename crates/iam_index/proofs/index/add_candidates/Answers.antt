use Rattle.std.proofs.Common.{◌≡◌, ◌+◌, ◌++◌, ◌∷◌, [], ℕ, List, Some, map, take, ap, sym, subst, ◌∙◌, arith}
use Rattle.std.proofs.lemmas.List.{map-append, take_all}
use Rattle.std.proofs.lemmas.List.Elements.{All-push}
use Rattle.std.proofs.lemmas.Option.{slice_get-get_or}
use Rattle.std.specs.List.{slice_get}
use Rattle.iam_match.specs.Statement.{ActionMatches}
use Rattle.iam_decision.specs.Code.Scan.{placed_value}
use Rattle.iam_decision.specs.Living.{AreCandidates}
use Rattle.iam_decision.specs.Matched.{Placed}
use Rattle.iam_decision.specs.declared.scan.Standing.{Standing}
use Rattle.iam_index.specs.Index.{Adds, AllAct}
use Rattle.iam_index.proofs.IndexLemmas.{all_one, candidates_more, candidates_skip, one_behind}
use Rattle.iam_index.proofs.index.add_candidates.Goals as goal
use Rattle.iam_index.proofs.index.add_candidates.Goals.{then-acts_at+in_ok-push, else-acts_at}

pub loop-i-preserved : goal.loop-i-preserved
loop-i-preserved c = λ world right numbered asked.
    let action = c.args.action.now in
    let statements = c.args.statements.now in
    let i = c.loop-i.i in
    let x = c.index-statements-i.result in
    let old = c.loop-i.candidates.items in
    let so_far = c.loop-i.invariant world right numbered asked in
    let at : slice_get statements i ≡ Some x = slice_get-get_or statements i x c.loop-i-test.true ∙ ap Some (sym c.index-statements-i.is) in
    let act = c.acts_at.ensures world statements right numbered at asked in
    elim c.if-acts_at.branch [
      | then-acts_at+in_ok-push w ↦
          let items : c.if-acts_at.candidates.items ≡ old ++ (x ∷ []) = ap (λ v. v.items) w.candidates-is ∙ w.in_ok-push.ensures.items in
          let acts = act.0 w.if-acts_at.true in (
            λ before are.
                let behind = before ++ map placed_value (take i statements) in
                let P : List Placed → Type 0 = λ z. AreCandidates (action ∷ []) z (map placed_value c.if-acts_at.candidates.items) in
                let Q : List Placed → Type 0 = AreCandidates (action ∷ []) (behind ++ (placed_value x ∷ [])) in
                subst P (one_behind before statements i x c.loop-i-test.true c.index-statements-i.is)
                (subst Q (sym (ap (map placed_value) items ∙ map-append placed_value old (x ∷ [])))
                (candidates_more (action ∷ []) behind (map placed_value old) (placed_value x) (so_far.0 before are))),
            λ all.
                let P : Standing → Type 0 = λ s. ActionMatches s.statement.now.action action in
                subst (AllAct action) (sym items) (All-push P old x (so_far.1 all) acts),
          )
      | else-acts_at w ↦
          let P : List ℕ → Type 0 = λ a. ¬ ActionMatches x.statement.now.action a in
          let idle : P action = λ matched. let yes = act.1 matched in let no = w.if-acts_at.false in let wrong : ⊥ = cc in wrong in
          let same : c.if-acts_at.candidates.items ≡ old = ap (λ v. v.items) w.candidates-is in (
            λ before are.
                let behind = before ++ map placed_value (take i statements) in
                let B : List Placed → Type 0 = λ z. AreCandidates (action ∷ []) z (map placed_value old) in
                let Q : List Standing → Type 0 = λ s. AreCandidates (action ∷ []) (before ++ map placed_value (take (i + 1) statements)) (map placed_value s) in
                subst Q (sym same)
                (subst B (one_behind before statements i x c.loop-i-test.true c.index-statements-i.is)
                (candidates_skip (action ∷ []) behind (map placed_value old) (placed_value x) (all_one P action idle) (so_far.0 before are))),
            λ all. subst (AllAct action) (sym same) (so_far.1 all),
          )
    ]

pub returns : goal.returns
returns c = λ world right numbered asked.
    let statements = c.args.statements.now in
    let P : List Standing → Type 0 = λ s. Adds c.args.action.now s c.args.candidates.now.items c.loop-i.candidates.items in
    subst P (take_all c.loop-i.i statements (omega (arith, c.loop-i-test.false))) (c.loop-i.invariant world right numbered asked)
