use Rattle.std.proofs.Common.{◌≡◌, ◌++◌, [], ◌∷◌, inl, inr, rules, List, ℕ, ap, below_more, true, subst, sym, ◌∙◌}
use Rattle.std.specs.Char.{IsScalar}
use Rattle.std.specs.List.{Contains}
use Rattle.std.proofs.lemmas.List.Elements.{Contains-append_left, Contains-push, Contains-push_cases}
use Rattle.iam_kinds.specs.Letters.{IsOtherAt, is_other}
use Rattle.iam_kinds.proofs.letters.Behind.add_others.Goals as goal
use Rattle.iam_kinds.proofs.letters.Behind.add_others.Goals.{in-Some+then-is_other+in_ok-push, in-Some+else-is_other, in_default}

pub loop-code-preserved : goal.loop-code-preserved
loop-code-preserved c =
    let old = c.loop-code.letters.items in
    let new = c.match-from_u32.letters.items in
    let other = is_other c.args.self.now.stage c.args.self.now.waited.now in
    let P : ℕ → Type 0 = λ d. IsScalar d → other d ≡ true → Contains new d in
    elim c.match-from_u32.branch [
      | in-Some+then-is_other+in_ok-push w ↦
          let letter = w.in-Some.letter in
          let items : new ≡ old ++ (letter ∷ []) = ap (λ v. v.items) w.letters-is ∙ w.in_ok-push.ensures.items in
          let keep : (d : ℕ) → Contains old d → Contains new d =
          λ d h. subst (λ (l : List ℕ). Contains l d) (sym items) (Contains-append_left old (letter ∷ []) d h) in (
            (λ d h. keep d (c.loop-code.invariant.0 d h)),
            below_more P c.loop-code.code (λ d below scalar is. keep d (c.loop-code.invariant.1 d below scalar is)) (λ scalar is.
                subst (λ d. Contains new d) w.in-Some.ensures.value.1 (subst (λ (l : List ℕ). Contains l letter) (sym items) (Contains-push old letter))),
            (λ d h. elim (Contains-push_cases old letter d (subst (λ (l : List ℕ). Contains l d) items h)) [
              | inl o ↦ c.loop-code.invariant.2 d o
              | inr e ↦
                  let scalar : IsScalar letter = search rules in
                  inr (subst (IsOtherAt c.args.self.now.stage c.args.self.now.waited.now) e
                  (scalar, sym w.is_other.ensures ∙ w.if-is_other.true))
            ]),
          )
      | in-Some+else-is_other w ↦
          let items : new ≡ old = ap (λ v. v.items) w.letters-is in
          let keep : (d : ℕ) → Contains old d → Contains new d = λ d h. subst (λ (l : List ℕ). Contains l d) (sym items) h in (
            (λ d h. keep d (c.loop-code.invariant.0 d h)),
            below_more P c.loop-code.code (λ d below scalar is. keep d (c.loop-code.invariant.1 d below scalar is)) (λ scalar is.
                let here = ap other w.in-Some.ensures.value.1 ∙ is in let no_other = sym w.is_other.ensures ∙ w.if-is_other.false in absurd (cc (here, no_other))),
            (λ d h. c.loop-code.invariant.2 d (subst (λ (l : List ℕ). Contains l d) items h)),
          )
      | in_default w ↦
          let items : new ≡ old = ap (λ v. v.items) w.letters-is in
          let keep : (d : ℕ) → Contains old d → Contains new d = λ d h. subst (λ (l : List ℕ). Contains l d) (sym items) h in (
            (λ d h. keep d (c.loop-code.invariant.0 d h)),
            below_more P c.loop-code.code (λ d below scalar is. keep d (c.loop-code.invariant.1 d below scalar is)) (λ scalar is.
                absurd (w.in_default.ensures.value scalar)),
            (λ d h. c.loop-code.invariant.2 d (subst (λ (l : List ℕ). Contains l d) items h)),
          )
    ]
