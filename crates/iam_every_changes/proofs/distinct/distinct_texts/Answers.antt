use Rattle.std.proofs.Common.{◌≡◌, ◌<◌, ◌+◌, ◌∷◌, [], ◌++◌, ◌∙◌, ℕ, Bor, Bool, true, false, not, Contains, List, arith, ap, get_or, length, map, refl, subst, sym, take}
use Rattle.std.proofs.lemmas.List.{get_or-map, length-map, map-append}
use Rattle.std.specs.HashSet.{contains_by}
use Rattle.std.specs.Str.{bytes_eq}
use Rattle.iam_every.specs.OwnGroups.{AreFirsts}
use Rattle.iam_every.proofs.FirstLemmas.{firsts_more, firsts_skip, in_firsts, of_firsts}
use Rattle.iam_every.proofs.WalkLemmas.{taken_more}
use Rattle.iam_every_changes.proofs.CodeLemmas.{any_of, of_any, seen_more}
use Rattle.iam_every_changes.proofs.distinct.distinct_texts.Goals as goal
use Rattle.iam_every_changes.proofs.distinct.distinct_texts.Goals.{then-branch+in_ok-push, else-branch}

not_false : (b : Bool) → not b ≡ false → b ≡ true
not_false true e = refl
not_false false e = absurd (let wrong : ⊥ = cc in wrong)

not_true : (b : Bool) → not b ≡ true → b ≡ false
not_true true e = absurd (let wrong : ⊥ = cc in wrong)
not_true false e = refl

pub loop-text-preserved : goal.loop-text-preserved
loop-text-preserved c =
    let now : Bor (List ℕ) → List ℕ = λ text. text.now in
    let empty : Bor (List ℕ) = record { ref_ptr = (0, 0); now = [] } in
    let i = c.loop-text.text-index in
    let texts = map now c.args.texts.now in
    let item = get_or c.args.texts.now i empty in
    let key = item.now in
    let count = length-map c.args.texts.now now in
    let inside : i < length texts = omega (arith, c.loop-text-test.true, count) in
    let is = sym (get_or-map now c.args.texts.now i empty key c.loop-text-test.true) in
    let old : List ℕ → Bool = λ q. contains_by (λ (k : Bor (List ℕ)). bytes_eq q k.now) c.loop-text.seen in
    let new : List ℕ → Bool = λ q. contains_by (λ (k : Bor (List ℕ)). bytes_eq q k.now) c.insert.new.self in
    let seen = seen_more texts i key old new inside is c.loop-text.invariant.seen
    (λ q. c.in_ok-insert.ensures.updates.0 (record { ref_ptr = (0, 0); now = q })) in
    let firsts = map now c.loop-text.firsts.items in
    let are : AreFirsts [] (take i texts) firsts = c.loop-text.invariant.firsts in
    let more : take (i + 1) texts ≡ take i texts ++ (key ∷ []) = taken_more texts i key inside is in
    let Are : List (List ℕ) → Type 0 = λ l. AreFirsts [] (take (i + 1) texts) l in
    elim c.if-branch.branch [
      | then-branch+in_ok-push w ↦
          let unknown : old key ≡ false = not_true _ (sym c.in_ok-insert.ensures.added ∙ w.if-branch.true) in
          let fresh : ¬ Contains ([] ++ firsts) key = λ among.
          let any = any_of (take i texts) key (of_firsts [] (take i texts) firsts key are among) in
          let no : old key ≡ true = c.loop-text.invariant.seen key ∙ any in let wrong : ⊥ = cc in wrong in
          let pushed : map now c.if-branch.firsts.items ≡ firsts ++ (key ∷ []) =
          ap (λ v. map now v.items) w.firsts-is ∙ ap (map now) w.in_ok-push.ensures.items ∙ map-append now c.loop-text.firsts.items (item ∷ []) in
          record {
            seen = seen;
            firsts = subst Are (sym pushed) (subst (λ (l : List (List ℕ)). AreFirsts [] l (firsts ++ (key ∷ []))) (sym more)
                (firsts_more [] (take i texts) firsts key are fresh));
          }
      | else-branch w ↦
          let known : old key ≡ true = not_false _ (sym c.in_ok-insert.ensures.added ∙ w.if-branch.false) in
          let among = of_any (take i texts) key (sym (c.loop-text.invariant.seen key) ∙ known) in
          record {
            seen = seen;
            firsts = subst Are (ap (λ v. map now v.items) (sym w.firsts-is))
                (subst (λ (l : List (List ℕ)). AreFirsts [] l firsts) (sym more)
                (firsts_skip [] (take i texts) firsts key are (in_firsts [] (take i texts) firsts key are among)));
          }
    ]
