-- One candidate more, and what is then found.
use Rattle.std.proofs.Common.{◌≡◌, ◌↔◌, inl, inr, ℕ, ◌+◌, ◌<◌, ◌≤◌, Bool, true, false, IfSome, IsTrue, List, [], ◌∷◌, Option, None, Some, get_or, length, map, take, refl, sym, ap, subst, ◌∙◌, arith}
use Rattle.std.proofs.lemmas.List.{get_or-map, length-map, take_all}
use Rattle.std.specs.List.{Contains}
use Rattle.iam_policy.specs.declared.effect.Effect.TheVariants.{Deny}
use Rattle.iam_context.specs.Context.{ContextValue}
use Rattle.iam_element.specs.Reading.{ResourceElement}
use Rattle.iam_match.specs.Statement.{AccessValue, ActionMatches, ResourceMatches, request_for}
use Rattle.iam_decision.specs.Code.Scan.{placed_value}
use Rattle.iam_decision.specs.Decision.{Says}
use Rattle.iam_decision.specs.Early.{Suffices, SufficesOneByOne, Tells, TellsOneByOne}
use Rattle.iam_decision.specs.Living.{Lives}
use Rattle.iam_decision.specs.Matched.{IsMatched, Placed}
use Rattle.iam_decision.specs.declared.living.Matched.{Matched}
use Rattle.iam_decision.specs.declared.scan.Standing.{Standing}
use Rattle.iam_index.specs.Index.{AllAct}
use Rattle.iam_engine.specs.Walk.{FindsAsked, FindsDeny}

-- the statement of a candidate, and where it stands among those of all
pub acts_at : (action : List ℕ) (candidates : List Standing) (i : ℕ) (x : Standing) → i < length candidates → x ≡ get_or candidates i x
    → AllAct action candidates → ActionMatches x.statement.now.action action
acts_at action candidates i x below is act =
    let P : Standing → Type 0 = λ s. ActionMatches s.statement.now.action action in subst P (sym is) (act i x below)

pub placed_below : (candidates : List Standing) (i : ℕ) → i < length candidates → i < length (map placed_value candidates)
placed_below candidates i below = let long = length-map candidates placed_value in omega (arith, long, below)

pub placed_at : (candidates : List Standing) (i : ℕ) (x : Standing) → i < length candidates → x ≡ get_or candidates i x
    → placed_value x ≡ get_or (map placed_value candidates) i (placed_value x)
placed_at candidates i x below is = ap placed_value is ∙ sym (get_or-map placed_value candidates i x (placed_value x) below)

pub all_placed : (candidates : List Standing) (i : ℕ) → length candidates ≤ i → take i (map placed_value candidates) ≡ map placed_value candidates
all_placed candidates i past =
    take_all i (map placed_value candidates) (let long = length-map candidates placed_value in omega (arith, long, past))

-- whether a statement that denies matches
pub deny_told : (access : AccessValue) (s : Placed) (found : List Matched) (denied : Bool) → s.statement.effect ≡ Deny → IsTrue denied ↔ Lives access s
    → FindsDeny access s found found denied
deny_told access s found true deny agrees = (deny, agrees.0 refl)
deny_told access s found false deny agrees = inl (deny, (λ lives. let yes = agrees.1 lives in let wrong : ⊥ = cc in wrong), refl)

-- what is known in every context is known in one
pub known_in : (context : ContextValue) (resource : List ℕ) (element : Option ResourceElement) (found : Option Bool)
    → IfSome found (λ known. (c : ContextValue) → IsTrue known ↔ ResourceMatches element resource c)
    → IfSome found (λ known. IsTrue known ↔ ResourceMatches element resource context)
known_in context resource element None known = tt
known_in context resource element (Some is) known = known context

-- a request is for its own action
pub one_asked : (action : List ℕ) → Contains (action ∷ []) action
one_asked action = (0, omega arith, refl)

module _ (access : AccessValue) (action : List ℕ) (s : Placed) (acts : ActionMatches s.statement.action action) where
  matches : Lives access s → IsMatched (request_for access action) s
  matches lives = record { action = acts; rest = lives }

  pub denies : (s.statement.effect ≡ Deny) × Lives access s → Says (request_for access action) Deny s
  denies both = (matches both.1, both.0)

  differs : ¬ Lives access s → ¬ IsMatched (request_for access action) s
  differs dead matched = dead matched.rest

  module _ (statements : List Placed) (i : ℕ) (old new : List Matched) (below : i < length statements) (at : s ≡ get_or statements i s) where
    pub one_found : SufficesOneByOne → FindsAsked access s old new → Suffices (request_for access action) (take i statements) old
        → Suffices (request_for access action) (take (i + 1) statements) new
    one_found law found before =
        let q = request_for access action in
        let S : List Matched → Type 0 = λ z. Suffices q (take (i + 1) statements) z in
        let next = law q statements i s old below at before in
        elim found [
          | inl (inl (lives, is)) ↦ subst S (sym is) (next.0 (matches lives))
          | inl (inr (dead, is)) ↦ subst S (sym is) (next.1 (differs dead))
          | inr (allow, denied, is) ↦ subst S (sym is) (next.2 allow denied)
        ]

    pub one_told : TellsOneByOne → FindsDeny access s old new false → Tells (request_for access action) (take i statements) old
        → Tells (request_for access action) (take (i + 1) statements) new
    one_told law found before =
        let q = request_for access action in
        let T : List Matched → Type 0 = λ z. Tells q (take (i + 1) statements) z in
        let next = law q statements i s old below at before in
        elim found [
          | inl (deny, dead, is) ↦ subst T (sym is) (next.1 (differs dead))
          | inr (allow, inl (inl (lives, is))) ↦ subst T (sym is) (next.0 (matches lives, allow))
          | inr (allow, inl (inr (dead, is))) ↦ subst T (sym is) (next.1 (differs dead))
          | inr (allow, inr (settled, is)) ↦ subst T (sym is) (next.2 allow settled)
        ]
